-- Two values of the limits, the second raised: what a board with the lower ones says of the lines of a plan that one with the higher ones takes (request 12: "Boards with just the old
-- limits refuse a plan that is over them"). Assumes nothing.
use Rattle.std.specs.Prelude.{ℕ, ◌+◌, ◌≡◌, List, [], ◌∷◌, cond, ltb, length, Err, Ok, Result}
use Rattle.tables.specs.Limits.{Limits}
use Rattle.lines.specs.Keys.{first_line, agents_key}
use Rattle.lines.specs.Stops.{count_line}
use Rattle.lines.specs.Names.{name_line}
use Rattle.lines.specs.declared.refusal.Refusal.TheVariants.{Form, Range, TooManyStops}
use Rattle.text.specs.declared.reader.DroneLines.{DroneLines}
use Rattle.text.specs.LinesRead.{lines_at, read_to}
use Rattle.text.specs.Written.{Route, route_line, routes_text, small_names, InLimits}
use Rattle.lines.specs.declared.refusal.Refusal.{Refusal}

-- the first `stops=` line over the limit, of drones whose lines begin at a byte, after `total` stops: 4 where one drone's stops are too many, 6 where the sum is
unfoldable pub stops_over : Limits → (form at total : ℕ) → List Route → Result DroneLines Refusal
stops_over L form at total [] = read_to at total
stops_over L form at total (d ∷ ds) =
    let line = at + length (name_line d.name) in
    let m = length d.locations in
    cond (ltb L.stops m) (Err (Range line))
    (cond (ltb L.stops (total + m)) (Err (TooManyStops line)) (stops_over L form (at + length (route_line form d)) (total + m) ds))

abbrev pub over_end : ℕ → Result DroneLines Refusal → Result ℕ Refusal
over_end n (Ok lines) = Ok n
over_end n (Err r) = Err r

-- the first line over the limits: "Older boards refuse `plan=2` with 2", at its first line; 4 at the line `agents=`, which comes after that, where the drones are too many; else a
-- `stops=` line
unfoldable pub lines_over : Limits → ℕ → List Route → Result ℕ Refusal
lines_over L form ds =
    cond (ltb L.form form) (Err (Form 0))
    (cond (ltb L.drones (length ds)) (Err (Range (length (first_line form))))
    (over_end (length ds) (stops_over L form (length (first_line form) + length (count_line agents_key (length ds))) 0 ds)))

-- what two values of the limits make of the lines
pub record LinesOfTwo (L L' : Limits) : Type 0 where
  -- "Every plan text taken until now reads as before"
  pub as_before : (text : List ℕ) (n : ℕ) → (lines_at L text).answer ≡ Ok n → lines_at L' text ≡ lines_at L text
  -- a plan within the higher limits is refused by the lower ones at the first line over them, or by none
  pub over : (form : ℕ) (ds : List Route) → InLimits L' form (small_names ds) → (lines_at L (routes_text form ds)).answer ≡ lines_over L form (small_names ds)
