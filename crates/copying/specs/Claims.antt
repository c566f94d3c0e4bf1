-- What is claimed of the reckoning: it is what reading gives of the routes' text, and a refusal's offset is the sum of the lines before the line at fault. Assumes nothing.
use Rattle.std.specs.Prelude.{ℕ, ◌+◌, ◌^◌, ◌≤◌, ◌<◌, ◌≡◌, ◌⊎◌, List, [], ◌∷◌, ◌++◌, true, false, length, Err}
use Rattle.tables.specs.Limits.{Limits}
use Rattle.lines.specs.Names.{name_line, row_of}
use Rattle.lines.specs.declared.refusal.Refusal.{Refusal}
use Rattle.lines.specs.declared.refusal.Refusal.TheVariants.{Range, TooManyStops, SameName}
use Rattle.text.specs.LinesRead.{elem, lines_at}
use Rattle.text.specs.Written.{Route, route_lines, routes_text, small_names, rows_of, locations_of}
use Rattle.copying.specs.Reckoned.{lines_from, text_reckoned, AllInRange}

-- the text of routes, in a form that the board knows and each of them in range of it with its name in small letters, is read as reckoned: accepted with what the tables hold of the
-- routes, or refused by the first of 4, 5 and 6
abbrev pub ReadAsReckoned : Limits → Type 0
ReadAsReckoned L = (form : ℕ) (ds : List Route) → 1 ≤ form → form ≤ L.form → 1 ≤ length ds → length ds < 10 ^ 7 → AllInRange L form (small_names ds)
    → lines_at L (routes_text form ds) ≡ text_reckoned L form (small_names ds)

-- routes of which none is at fault: after the earlier ones each name is new, and the stops are not too many
abbrev pub Faultless : Limits → List (List ℕ) → ℕ → List Route → Type 0
Faultless L earlier total [] = Unit {0}
Faultless L earlier total (d ∷ ds) =
    (elem earlier (row_of L d.name) ≡ false) × (total + length d.locations ≤ L.stops) × Faultless L (earlier ++ row_of L d.name ∷ []) (total + length d.locations) ds

-- the first route at fault, with those before and after it
pub record RouteAtFault (L : Limits) (form : ℕ) (ds : List Route) (r : Refusal) : Type 0 where
  pub before : List Route
  pub here : Route
  pub after : List Route
  pub parts : ds ≡ before ++ here ∷ after
  pub fine : Faultless L [] 0 before
  -- 5 at its line `name=`, or 6 at its line `stops=` and no earlier name is its own
  pub fault : ((elem (rows_of L before) (row_of L here.name) ≡ true) × (r ≡ SameName (lines_from form (length ds) + length (route_lines form before))))
      ⊎ ((elem (rows_of L before) (row_of L here.name) ≡ false) × (L.stops < length (locations_of before) + length here.locations)
      × (r ≡ TooManyStops (lines_from form (length ds) + length (route_lines form before) + length (name_line here.name))))

-- "with the joined text's offsets": 4 at the line `agents=`, which begins at byte 7; else there are not too many routes, and one is at fault
abbrev pub OffsetsReckoned : Limits → Type 0
OffsetsReckoned L = (form : ℕ) (ds : List Route) (r : Refusal) → (text_reckoned L form ds).answer ≡ Err r
    → ((L.drones < length ds) × (r ≡ Range 7)) ⊎ ((length ds ≤ L.drones) × RouteAtFault L form ds r)
