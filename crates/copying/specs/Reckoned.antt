-- What reading gives of the text of written routes, reckoned from the routes alone: no text is looked at, and where a line begins is the sum of the lines before it. The
-- routes may be too many, have too many stops in all, or share a name (document 01, "Where each refusal is checked", 4, 5 and 6). Assumes nothing.
use Rattle.std.specs.Prelude.{ℕ, ◌+◌, ◌≤◌, ◌≡◌, List, [], ◌∷◌, ◌++◌, Bool, true, cond, ltb, leb, length, take, drop, Err, Ok, Result}
use Rattle.tables.specs.Limits.{Limits}
use Rattle.lines.specs.Keys.{first_line, agents_key, stops_key}
use Rattle.lines.specs.Stops.{count_line, stop_lines, StopsInRange}
use Rattle.lines.specs.Names.{name_line, good_name, row_of, name_of}
use Rattle.lines.specs.declared.refusal.Refusal.TheVariants.{Range, TooManyStops, SameName}
use Rattle.text.specs.LinesRead.{LinesRead, nothing, with_row, elem, and_then, with_answer, read_to}
use Rattle.text.specs.TextWritten.{rows_in, Writable}
use Rattle.text.specs.Written.{Route, routes_from}
use Rattle.text.specs.declared.reader.DroneLines.{DroneLines}
use Rattle.lines.specs.declared.refusal.Refusal.{Refusal}

-- a drone in tables: the name in the row that begins at entry `row`, and the m stops from entry `from` on
abbrev pub route_in : Limits → ℕ → (names : List ℕ) → ℕ → ℕ → (locations times legs : List ℕ) → Route
route_in L row names m from locations times legs = record {
  name = name_of (take L.name (drop row names));
  locations = take m (drop from locations);
  times = take m (drop from times);
  legs = take m (drop from legs);
}

-- the routes of the first n drones in tables
abbrev pub routes_in : Limits → ℕ → (names counts locations times legs : List ℕ) → List Route
routes_in L n names counts locations times legs = routes_from (rows_in L n names) (take n counts) locations times legs

-- ---- one route of a plan form, whose line `name=` begins at `at`, after `total` stops of earlier drones

-- "6 at a `stops=` line, the M read so far, this one included, add up to more than the limit for all drones"
unfoldable pub stops_reckoned : Limits → (form at total : ℕ) → (ls ts gs : List ℕ) → LinesRead (Result DroneLines Refusal)
stops_reckoned L form at total ls ts gs =
    cond (ltb L.stops (total + length ls)) (nothing form (Err (TooManyStops at)))
    (record {
      form = form;
      rows = [];
      counts = length ls ∷ [];
      locations = ls;
      times = ts;
      legs = gs;
      answer = read_to (at + length (count_line stops_key (length ls) ++ stop_lines form ls ts gs)) (total + length ls);
    })

-- "5 name equal to an earlier one", where `earlier` tells the rows of earlier drones
unfoldable pub route_reckoned : Limits → (form at total : ℕ) → (List ℕ → Bool) → Route → LinesRead (Result DroneLines Refusal)
route_reckoned L form at total earlier d =
    cond (earlier (row_of L d.name)) (nothing form (Err (SameName at)))
    (with_row (row_of L d.name) (stops_reckoned L form (at + length (name_line d.name)) total d.locations d.times d.legs))

-- ---- routes one after another

unfoldable pub routes_reckoned : Limits → (form at : ℕ) → List (List ℕ) → ℕ → List Route → LinesRead (Result DroneLines Refusal)
routes_reckoned L form at earlier total [] = nothing form (read_to at total)
routes_reckoned L form at earlier total (d ∷ ds) =
    and_then (route_reckoned L form at total (elem earlier) d) (route_reckoned L form at total (elem earlier) d).answer
    (λ e t. routes_reckoned L form e (earlier ++ row_of L d.name ∷ []) t ds)

-- ---- the whole text

-- where the lines of n drones begin: after `plan=1` or `plan=2` and `agents=N`
unfoldable pub lines_from : (form n : ℕ) → ℕ
lines_from form n = length (first_line form) + length (count_line agents_key n)

-- after the last drone nothing is at fault
abbrev pub closed_by : ℕ → Result DroneLines Refusal → Result ℕ Refusal
closed_by n (Ok lines) = Ok n
closed_by n (Err r) = Err r

abbrev pub whole_of : (form n : ℕ) → LinesRead (Result DroneLines Refusal) → LinesRead (Result ℕ Refusal)
whole_of form n f = with_answer form (closed_by n f.answer) f

-- "Raise drones to 64", "4 number outside its range"
unfoldable pub text_reckoned : Limits → ℕ → List Route → LinesRead (Result ℕ Refusal)
text_reckoned L form ds =
    cond (leb (length ds) L.drones) (whole_of form (length ds) (routes_reckoned L form (lines_from form (length ds)) [] 0 ds))
    (nothing form (Err (Range (length (first_line form)))))

-- ---- routes that are in range by themselves

-- a good name, at least one stop and at most the limit, stops in range: "LEG 0 at stop 0 and 1 to 60 rounds elsewhere", in `plan=1` legs of one
abbrev pub RouteInRange : Limits → ℕ → Route → Type 0
RouteInRange L form d = (good_name L d.name ≡ true) × (1 ≤ length d.locations) × (length d.locations ≤ L.stops) × StopsInRange L form 0 d.locations d.times d.legs

abbrev pub AllInRange : Limits → ℕ → List Route → Type 0
AllInRange L form [] = Unit {0}
AllInRange L form (d ∷ ds) = RouteInRange L form d × AllInRange L form ds

-- tables that hold at least one drone, each in range by itself of a form that the board knows, and not too many for the tables
pub record Copyable (L : Limits) (form n : ℕ) (names counts locations times legs : List ℕ) : Type 0 where
  pub known : 1 ≤ form
  pub writable : Writable L form n names counts locations times legs
  pub some : 1 ≤ n
  pub each : AllInRange L form (routes_in L n names counts locations times legs)
