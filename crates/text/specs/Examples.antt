-- Worked texts and what reading says of them: flight Q of document 01, and the flights about the text. Assumes nothing.
use Rattle.std.specs.Prelude.{ℕ, ◌≡◌, Bool, true, ◌&&◌, List, [], ◌∷◌, eqb, Err, Ok, Result}
use Prim.Native.Char.{code}
use Prim.Native.String.{String, [] as empty, ◌∷◌ as ◌before◌, ◌++◌ as ◌then◌}
use Rattle.below.specs.Below.{all_in}
use Rattle.tables.specs.Limits.{limits, older_limits}
use Rattle.lines.specs.Keys.{first_line, agents_key, name_key, stops_key, go_key, last_line}
use Rattle.lines.specs.Refusals.{refusal_number, refusal_offset}
use Rattle.lines.specs.declared.refusal.Refusal.TheVariants.{Form}
use Rattle.text.specs.LinesRead.{lines_at}
use Rattle.text.specs.Written.{plan_text}
use Rattle.lines.specs.declared.refusal.Refusal.{Refusal}

-- the bytes of an ASCII text
abbrev pub bytes : String → List ℕ
bytes empty = []
bytes (c before s) = code c ∷ bytes s

-- a text, the refusal's number (0 where its lines are well-formed), and its offset (where they are, how many drones the plan has)
pub record LinesExample : Type 0 where
  pub text : String
  pub refusal : ℕ
  pub value : ℕ

abbrev pub refusal_of : Result ℕ Refusal → ℕ
refusal_of (Ok n) = 0
refusal_of (Err r) = refusal_number r

abbrev pub value_of : Result ℕ Refusal → ℕ
value_of (Ok n) = n
value_of (Err r) = refusal_offset r

abbrev pub lines_as_given : LinesExample → Bool
lines_as_given e = let a = (lines_at limits (bytes e.text)).answer in eqb (refusal_of a) e.refusal && eqb (value_of a) e.value

-- one drone with one stop: the bytes between `plan=1` and `end=plan` from a name and a stop
abbrev pub single : String → String → String
single name stop = "plan=1\nagents=1\nname=" then (name then ("\nstops=1\ngo=" then (stop then "\nend=plan\n")))

-- one drone with two stops, in `plan=2`
abbrev pub legged : String → String → String
legged first second = "plan=2\nagents=1\nname=a\nstops=2\ngo=" then (first then ("\ngo=" then (second then "\nend=plan\n")))

-- flight Q as `plan=2`, with legs of one
abbrev pub legged_q : String
legged_q = "plan=2\nagents=2\nname=survey-quad-east-1\nstops=4\ngo=1@0@0\ngo=6@1@1\ngo=5@2@1\ngo=2@3@1\nname=survey-quad-east-2\nstops=3\ngo=3@0@0\ngo=5@4@1\ngo=4@5@1\nend=plan\n"

abbrev pub lines_examples : List LinesExample
lines_examples =
    -- flight Q
    record { text = "plan=1\nagents=2\nname=survey-quad-east-1\nstops=4\ngo=1@0\ngo=6@1\ngo=5@2\ngo=2@3\nname=survey-quad-east-2\nstops=3\ngo=3@0\ngo=5@4\ngo=4@5\nend=plan\n"; refusal = 0; value = 2 }
    -- "Empty text: 2 at offset 0."
    ∷ record { text = ""; refusal = 2; value = 0 }
    -- a capital, and a key without its `=`
    ∷ record { text = "Plan=1\n"; refusal = 2; value = 0 }
    ∷ record { text = "plan=1\nagents2\n"; refusal = 2; value = 7 }
    -- "65 give 4"
    ∷ record { text = "plan=1\nagents=65\n"; refusal = 4; value = 7 }
    -- a line that is absent, at the text's length
    ∷ record { text = "plan=1\nagents=64\n"; refusal = 2; value = 17 }
    -- "Name of 24 bytes taken, 25 gives 3."
    ∷ record { text = single "abcdefghijklmnopqrstuvwx" "0@0"; refusal = 0; value = 1 }
    ∷ record { text = single "abcdefghijklmnopqrstuvwxy" "0@0"; refusal = 3; value = 16 }
    ∷ record { text = single "" "0@0"; refusal = 3; value = 16 }
    -- capitals in a name, and bytes beside them; a key with a capital
    ∷ record { text = single "ABCDEFGHIJKLMNOPQRSTUVWX" "0@0"; refusal = 0; value = 1 }
    ∷ record { text = single "AZ@" "0@0"; refusal = 3; value = 16 }
    ∷ record { text = single "AZ[" "0@0"; refusal = 3; value = 16 }
    ∷ record { text = "plan=1\nagents=1\nName=a\nstops=1\ngo=0@0\nend=plan\n"; refusal = 2; value = 16 }
    -- "Location 65,536: 4. Time 1,000,000 taken."
    ∷ record { text = single "a" "65536@0"; refusal = 4; value = 31 }
    ∷ record { text = "plan=1\nagents=1\nname=a\nstops=2\ngo=0@0\ngo=65535@1000000\nend=plan\n"; refusal = 0; value = 1 }
    ∷ record { text = single "a" "0@1000001"; refusal = 4; value = 31 }
    -- the form of both numbers comes before the range of either; a leading zero is no number
    ∷ record { text = single "a" "65536@01"; refusal = 2; value = 31 }
    ∷ record { text = single "a" "01@0"; refusal = 2; value = 31 }
    ∷ record { text = single "a" "0@12345678"; refusal = 2; value = 31 }
    -- a line after the last
    ∷ record { text = single "a" "0@0" then "\n"; refusal = 2; value = 47 }
    -- a name equal to an earlier one, and one that differs only at its end
    ∷ record { text = "plan=1\nagents=2\nname=survey-quad-east-1\nstops=1\ngo=1@0\nname=survey-quad-east-1\nstops=1\ngo=2@0\nend=plan\n"; refusal = 5; value = 55 }
    ∷ record { text = "plan=1\nagents=2\nname=survey-quad-east-1\nstops=1\ngo=1@0\nname=survey-quad-east-10\nstops=1\ngo=2@0\nend=plan\n"; refusal = 0; value = 2 }
    -- names that are equal but for capitals, the first's in three places, the second's in the eighteenth byte alone
    ∷ record { text = "plan=1\nagents=2\nname=Survey-Quad-East-1\nstops=1\ngo=1@0\nname=survey-quad-east-1\nstops=1\ngo=2@0\nend=plan\n"; refusal = 5; value = 55 }
    ∷ record { text = "plan=1\nagents=2\nname=survey-quad-east-a\nstops=1\ngo=1@0\nname=survey-quad-east-A\nstops=1\ngo=2@0\nend=plan\n"; refusal = 5; value = 55 }
    -- "stops of all and of one drone to 2,048"
    ∷ record { text = "plan=1\nagents=2\nname=a\nstops=1\ngo=1@0\nname=b\nstops=2048\n"; refusal = 6; value = 45 }
    ∷ record { text = "plan=1\nagents=2\nname=a\nstops=2049\n"; refusal = 4; value = 23 }
    -- "`plan=2` has lines `go=LOCATION@TIME@LEG`, with LEG 0 at stop 0 and 1 to 60 rounds elsewhere"; "a LEG out of range is 4"
    ∷ record { text = legged_q; refusal = 0; value = 2 }
    ∷ record { text = legged "1@0@0" "2@60@60"; refusal = 0; value = 1 }
    ∷ record { text = legged "1@0@0" "2@60@61"; refusal = 4; value = 40 }
    ∷ record { text = legged "1@0@0" "2@60@0"; refusal = 4; value = 40 }
    ∷ record { text = legged "1@0@1" "2@60@1"; refusal = 4; value = 31 }
    -- two numbers in `plan=2`, three in `plan=1`, and four
    ∷ record { text = legged "1@0" "2@60"; refusal = 2; value = 31 }
    ∷ record { text = single "a" "1@0@0"; refusal = 2; value = 31 }
    ∷ record { text = legged "1@0@0@0" "2@60@1"; refusal = 2; value = 31 }
    -- the form of the three numbers comes before the range of any
    ∷ record { text = legged "1@0@0" "65536@60@01"; refusal = 2; value = 40 }
    ∷ record { text = legged "1@0@1" "2@60"; refusal = 4; value = 31 }
    -- no such form
    ∷ record { text = "plan=3\nagents=1\n"; refusal = 2; value = 0 }
    ∷ record { text = "plan=0\nagents=1\n"; refusal = 2; value = 0 }
    ∷ []

-- each text is read as the list has it; the keys are the bytes of their texts; a name of 24 capitals is written small; "a plan is written in the form it was read in"; "Older boards
-- refuse `plan=2` with 2"
pub record ExampleTexts : Type 0 where
  pub as_listed : all_in lines_as_given lines_examples ≡ true
  pub keys : ◌≡◌ {A = List (List ℕ)} (first_line 1 ∷ first_line 2 ∷ agents_key ∷ name_key ∷ stops_key ∷ go_key ∷ last_line ∷ []) (bytes "plan=1\n" ∷ bytes "plan=2\n" ∷ bytes "agents=" ∷ bytes "name=" ∷ bytes "stops=" ∷ bytes "go=" ∷ bytes "end=plan\n" ∷ [])
  pub capitals : let w = lines_at limits (bytes (single "ABCDEFGHIJKLMNOPQRSTUVWX" "0@0")) in plan_text 1 1 w.rows w.counts w.locations w.times w.legs ≡ bytes (single "abcdefghijklmnopqrstuvwx" "0@0")
  pub in_its_form : let w = lines_at limits (bytes legged_q) in plan_text w.form 2 w.rows w.counts w.locations w.times w.legs ≡ bytes legged_q
  pub older : (lines_at older_limits (bytes legged_q)).answer ≡ Err (Form 0)
