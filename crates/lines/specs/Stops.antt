-- The lines that hold numbers, `go=LOCATION@TIME`, `go=LOCATION@TIME@LEG`, `agents=N` and `stops=M`, read at a position and written. Each answer is a function of the text
-- and the position, and of a stop's line also of the plan's form and of the stop's number in its drone's route. Assumes nothing.
use Rattle.std.specs.Prelude.{ℕ, zero, suc, ◌+◌, ◌≤◌, ◌≡◌, List, [], ◌∷◌, ◌++◌, true, cond, ◌&&◌, leb, eqb, length, Option, Some, None, Result, Ok, Err}
use Rattle.std.proofs.lemmas.List.Edits.{sets}
use Rattle.tables.specs.Limits.{Limits}
use Rattle.tables.specs.Legs.{plain_leg, leg_right}
use Rattle.lines.specs.Keys.{line_feed, at_sign, go_key}
use Rattle.lines.specs.Bytes.{is_at}
use Rattle.lines.specs.Numbers.{number, field_at, field}
use Rattle.lines.specs.declared.numbers.Number.{Number}
use Rattle.lines.specs.declared.refusal.Refusal.{Refusal}
use Rattle.lines.specs.declared.refusal.Refusal.TheVariants.{Form, Range}
use Rattle.lines.specs.declared.stops.GoLine.{GoLine}

-- ---- a line `go=LOCATION@TIME` of a `plan=1` text, "`plan=2` has lines `go=LOCATION@TIME@LEG`"

-- the byte that closes the time: the line's end, or the `@` before the leg
unfoldable pub time_end : ℕ → ℕ
time_end form = cond (eqb form 1) line_feed at_sign

-- the leg into a drone's stop s: "A `plan=1` text reads as legs of one, 0 at stop 0", and has no field for it
unfoldable pub leg_at : (form s : ℕ) → List ℕ → ℕ → Option Number
leg_at form s text at = cond (eqb form 1) (number (plain_leg s) at) (field_at text at line_feed)

-- a stop that was read: its location, its time, the leg into it, and the position after its line
abbrev pub go_stop : (l t g e : ℕ) → Result GoLine Refusal
go_stop l t g e = Ok (record { location = l; time = t; leg = g; next = e })

-- the leg was read: the form of all numbers is judged before the range of any, "a LEG out of range is 4"
abbrev pub go_leg : Limits → (form s at l t : ℕ) → Option Number → Result GoLine Refusal
go_leg L form s at l t None = Err (Form at)
go_leg L form s at l t (Some g) = cond (leb l L.location && leb t L.time && leg_right L form s g.value) (go_stop l t g.value g.next) (Err (Range at))

-- the time was read
abbrev pub go_time : Limits → (form s : ℕ) → List ℕ → (at l : ℕ) → Option Number → Result GoLine Refusal
go_time L form s text at l None = Err (Form at)
go_time L form s text at l (Some t) = go_leg L form s at l t.value (leg_at form s text t.next)

-- the location was read
abbrev pub go_place : Limits → (form s : ℕ) → List ℕ → ℕ → Option Number → Result GoLine Refusal
go_place L form s text at None = Err (Form at)
go_place L form s text at (Some l) = go_time L form s text at l.value (field_at text l.next (time_end form))

unfoldable pub go_at : Limits → (form s : ℕ) → List ℕ → ℕ → Result GoLine Refusal
go_at L form s text at = cond (is_at text at go_key) (go_place L form s text at (field_at text (at + length go_key) at_sign)) (Err (Form at))

-- the leg as it is written: nothing in `plan=1`
unfoldable pub leg_field : (form g : ℕ) → List ℕ
leg_field form g = cond (eqb form 1) [] (field g line_feed)

abbrev pub stop_line : (form l t g : ℕ) → List ℕ
stop_line form l t g = go_key ++ field l at_sign ++ field t (time_end form) ++ leg_field form g

-- ---- n lines `go=`

-- the stops that were read, up to the first line at fault, and the answer
pub record StopList : Type 0 where
  pub locations : List ℕ
  pub times : List ℕ
  pub legs : List ℕ
  pub answer : Result ℕ Refusal

abbrev pub stops_from : Result GoLine Refusal → (ℕ → StopList) → StopList
stops_from (Ok s) more = let r = more s.next in record { locations = s.location ∷ r.locations; times = s.time ∷ r.times; legs = s.leg ∷ r.legs; answer = r.answer }
stops_from (Err r) more = record { locations = []; times = []; legs = []; answer = Err r }

-- from the drone's stop s on
unfoldable pub stops_at : Limits → (form s n : ℕ) → List ℕ → ℕ → StopList
stops_at L form s zero text at = record { locations = []; times = []; legs = []; answer = Ok at }
stops_at L form s (suc n) text at = stops_from (go_at L form s text at) (λ e. stops_at L form (suc s) n text e)

-- the tables after the stops were stored from an entry on
pub record StopLinesStored (read : StopList) (from : ℕ) (ls ts gs ls' ts' gs' : List ℕ) (r : Result ℕ Refusal) : Type 0 where
  pub answer_is : r ≡ read.answer
  pub locations_are : ls' ≡ sets ls from read.locations
  pub times_are : ts' ≡ sets ts from read.times
  pub legs_are : gs' ≡ sets gs from read.legs

unfoldable pub stop_lines : ℕ → (ls ts gs : List ℕ) → List ℕ
stop_lines form [] ts gs = []
stop_lines form (l ∷ ls) [] gs = []
stop_lines form (l ∷ ls) (t ∷ ts) [] = []
stop_lines form (l ∷ ls) (t ∷ ts) (g ∷ gs) = stop_line form l t g ++ stop_lines form ls ts gs

-- ---- a line of a key and a number from 1 to `most`: `agents=N`, `stops=M`

-- the number that was read, and the position after its line
abbrev pub count_read : ℕ → ℕ → Result Number Refusal
count_read v e = Ok (record { value = v; next = e })

abbrev pub count_in : ℕ → ℕ → Option Number → Result Number Refusal
count_in at most None = Err (Form at)
count_in at most (Some n) = cond (leb 1 n.value && leb n.value most) (Ok n) (Err (Range at))

unfoldable pub count_at : List ℕ → ℕ → List ℕ → ℕ → Result Number Refusal
count_at text at key most = cond (is_at text at key) (count_in at most (field_at text (at + length key) line_feed)) (Err (Form at))

abbrev pub count_line : List ℕ → ℕ → List ℕ
count_line key n = key ++ field n line_feed

-- ---- stops that can be written and read back

-- stops in range, from the drone's stop s on, as many locations as times and legs
abbrev pub StopsInRange : Limits → (form s : ℕ) → (ls ts gs : List ℕ) → Type 0
StopsInRange L form s [] [] [] = Unit {0}
StopsInRange L form s [] [] (g ∷ gs) = ⊥
StopsInRange L form s [] (t ∷ ts) gs = ⊥
StopsInRange L form s (l ∷ ls) [] gs = ⊥
StopsInRange L form s (l ∷ ls) (t ∷ ts) [] = ⊥
StopsInRange L form s (l ∷ ls) (t ∷ ts) (g ∷ gs) = (l ≤ L.location) × (t ≤ L.time) × (leg_right L form s g ≡ true) × StopsInRange L form (suc s) ls ts gs
