-- The fixed bytes of the plan text (document 01, "Plan text"): "ASCII lines, each closed by a line feed (hexadecimal 0A)", "The keys are compared byte for byte, capitals
-- never match". Assumes nothing.
use Rattle.std.specs.Prelude.{ℕ, ◌+◌, List, [], ◌∷◌}

abbrev pub line_feed : ℕ
line_feed = 10

-- `@`
abbrev pub at_sign : ℕ
at_sign = 64

-- `plan=1` or `plan=2`, by the plan's form, and its line feed
abbrev pub first_line : ℕ → List ℕ
first_line form = 112 ∷ 108 ∷ 97 ∷ 110 ∷ 61 ∷ (48 + form) ∷ line_feed ∷ []

-- `agents=`
abbrev pub agents_key : List ℕ
agents_key = 97 ∷ 103 ∷ 101 ∷ 110 ∷ 116 ∷ 115 ∷ 61 ∷ []

-- `name=`
abbrev pub name_key : List ℕ
name_key = 110 ∷ 97 ∷ 109 ∷ 101 ∷ 61 ∷ []

-- `stops=`
abbrev pub stops_key : List ℕ
stops_key = 115 ∷ 116 ∷ 111 ∷ 112 ∷ 115 ∷ 61 ∷ []

-- `go=`
abbrev pub go_key : List ℕ
go_key = 103 ∷ 111 ∷ 61 ∷ []

-- `end=plan` and its line feed
abbrev pub last_line : List ℕ
last_line = 101 ∷ 110 ∷ 100 ∷ 61 ∷ 112 ∷ 108 ∷ 97 ∷ 110 ∷ line_feed ∷ []
