-- The fixed bytes of call lines and of the output (document 01, "The program `field`"). Assumes nothing.
use Rattle.std.specs.Prelude.{ℕ, List, [], ◌∷◌}
use Rattle.lines.specs.Keys.{line_feed}
use Rattle.transcript.specs.declared.keys.Kind.{Kind}
use Rattle.transcript.specs.declared.keys.Kind.TheVariants.{Grant, Arrive, Turn, Cost}

-- `:`
abbrev pub colon : ℕ
colon = 58

-- `grant=`
abbrev pub grant_key : List ℕ
grant_key = 103 ∷ 114 ∷ 97 ∷ 110 ∷ 116 ∷ 61 ∷ []

-- `arrive=`
abbrev pub arrive_key : List ℕ
arrive_key = 97 ∷ 114 ∷ 114 ∷ 105 ∷ 118 ∷ 101 ∷ 61 ∷ []

-- `turn=`
abbrev pub turn_key : List ℕ
turn_key = 116 ∷ 117 ∷ 114 ∷ 110 ∷ 61 ∷ []

-- `cost=`
abbrev pub cost_key : List ℕ
cost_key = 99 ∷ 111 ∷ 115 ∷ 116 ∷ 61 ∷ []

-- `plan=`
abbrev pub plan_key : List ℕ
plan_key = 112 ∷ 108 ∷ 97 ∷ 110 ∷ 61 ∷ []

-- `end=calls` and its line feed
abbrev pub end_calls_line : List ℕ
end_calls_line = 101 ∷ 110 ∷ 100 ∷ 61 ∷ 99 ∷ 97 ∷ 108 ∷ 108 ∷ 115 ∷ line_feed ∷ []

-- `call=2` and its line feed
abbrev pub malformed_line : List ℕ
malformed_line = 99 ∷ 97 ∷ 108 ∷ 108 ∷ 61 ∷ 50 ∷ line_feed ∷ []

-- `call=4` and its line feed
abbrev pub range_line : List ℕ
range_line = 99 ∷ 97 ∷ 108 ∷ 108 ∷ 61 ∷ 52 ∷ line_feed ∷ []

-- call lines and answers by kind
abbrev pub cost_kind : Kind
cost_kind = Cost

abbrev pub key_of : Kind → List ℕ
key_of Grant = grant_key
key_of Arrive = arrive_key
key_of Turn = turn_key
key_of Cost = cost_key
