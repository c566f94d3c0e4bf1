-- The plan text as written: from what the tables hold, and from a plan by drones. Assumes nothing.
use Rattle.std.specs.Prelude.{ℕ, ◌+◌, ◌≤◌, ◌≡◌, List, [], ◌∷◌, ◌++◌, true, false, length, take, drop, Ok, Result}
use Rattle.tables.specs.Limits.{Limits}
use Rattle.lines.specs.Keys.{first_line, agents_key, stops_key, last_line}
use Rattle.lines.specs.Stops.{count_line, stop_lines, StopsInRange}
use Rattle.lines.specs.Names.{small_form, name_line, good_name, row_of, name_of}
use Rattle.text.specs.LinesRead.{LinesRead, elem}
use Rattle.lines.specs.declared.refusal.Refusal.{Refusal}

-- ---- from what the tables hold

-- the lines of the drones: each takes as many stops as its count
unfoldable pub drone_lines : ℕ → List (List ℕ) → (ms ls ts gs : List ℕ) → List ℕ
drone_lines form [] ms ls ts gs = []
drone_lines form (r ∷ rs) [] ls ts gs = []
drone_lines form (r ∷ rs) (m ∷ ms) ls ts gs =
    (name_line (name_of r) ++ (count_line stops_key m ++ stop_lines form (take m ls) (take m ts) (take m gs))) ++ drone_lines form rs ms (drop m ls) (drop m ts) (drop m gs)

-- "in this order: `plan=1`; `agents=N`; for each drone `name=TEXT`, `stops=M`, then M lines `go=LOCATION@TIME`; last `end=plan`"; "`plan=2` has lines `go=LOCATION@TIME@LEG`"
abbrev pub plan_text : (form n : ℕ) → List (List ℕ) → (counts locations times legs : List ℕ) → List ℕ
plan_text form n rows counts locations times legs = first_line form ++ count_line agents_key n ++ drone_lines form rows counts locations times legs ++ last_line

-- ---- a plan by drones

pub record Route : Type 0 where
  pub name : List ℕ
  pub locations : List ℕ
  pub times : List ℕ
  pub legs : List ℕ

abbrev pub route_line : ℕ → Route → List ℕ
route_line form d = name_line d.name ++ (count_line stops_key (length d.locations) ++ stop_lines form d.locations d.times d.legs)

unfoldable pub route_lines : ℕ → List Route → List ℕ
route_lines form [] = []
route_lines form (d ∷ ds) = route_line form d ++ route_lines form ds

abbrev pub routes_text : ℕ → List Route → List ℕ
routes_text form ds = first_line form ++ count_line agents_key (length ds) ++ route_lines form ds ++ last_line

-- the plan with its names in small letters
abbrev pub small_named : Route → Route
small_named d = record { name = small_form d.name; locations = d.locations; times = d.times; legs = d.legs }

abbrev pub small_names : List Route → List Route
small_names [] = []
small_names (d ∷ ds) = small_named d ∷ small_names ds

-- what the tables hold of it
abbrev pub rows_of : Limits → List Route → List (List ℕ)
rows_of L [] = []
rows_of L (d ∷ ds) = row_of L d.name ∷ rows_of L ds

abbrev pub counts_of : List Route → List ℕ
counts_of [] = []
counts_of (d ∷ ds) = length d.locations ∷ counts_of ds

abbrev pub locations_of : List Route → List ℕ
locations_of [] = []
locations_of (d ∷ ds) = d.locations ++ locations_of ds

abbrev pub times_of : List Route → List ℕ
times_of [] = []
times_of (d ∷ ds) = d.times ++ times_of ds

abbrev pub legs_of : List Route → List ℕ
legs_of [] = []
legs_of (d ∷ ds) = d.legs ++ legs_of ds

-- names, numbers of stops, locations, times and legs as a text's lines give them, cut into routes
abbrev pub routes_from : (rows : List (List ℕ)) (counts locations times legs : List ℕ) → List Route
routes_from [] counts locations times legs = []
routes_from (r ∷ rs) [] locations times legs = []
routes_from (r ∷ rs) (m ∷ ms) locations times legs =
    record { name = name_of r; locations = take m locations; times = take m times; legs = take m legs } ∷ routes_from rs ms (drop m locations) (drop m times) (drop m legs)

-- what reading gives of it
abbrev pub lines_of : Limits → ℕ → List Route → LinesRead (Result ℕ Refusal)
lines_of L form ds = record { form = form; rows = rows_of L ds; counts = counts_of ds; locations = locations_of ds; times = times_of ds; legs = legs_of ds; answer = Ok (length ds) }

-- ---- plans within the limits: document 01's ranges

-- good names that differ from the earlier ones, at least one stop each, with the earlier ones at most the limit for all drones, stops in range
abbrev pub InLimitsFrom : Limits → ℕ → List (List ℕ) → ℕ → List Route → Type 0
InLimitsFrom L form earlier total [] = Unit {0}
InLimitsFrom L form earlier total (d ∷ ds) =
    (good_name L d.name ≡ true) × (elem earlier (row_of L d.name) ≡ false) × (1 ≤ length d.locations) × (total + length d.locations ≤ L.stops) × StopsInRange L form 0 d.locations d.times d.legs
    × InLimitsFrom L form (earlier ++ row_of L d.name ∷ []) (total + length d.locations) ds

-- .. of a form that the board knows
abbrev pub InLimits : Limits → ℕ → List Route → Type 0
InLimits L form ds = (1 ≤ length ds) × (length ds ≤ L.drones) × InLimitsFrom L form [] 0 ds × (1 ≤ form) × (form ≤ L.form)
