-- A refusal's offset: the sum of the lines before the line at fault. Where no line is at fault, the routes are within the limits.
use Prim.Native.Nat.{ℕ, ◌+◌, ◌≤◌, ◌<◌}
use native.Mathlib.Omega.{arith}
use mathlib.Core.Path.{◌≡◌, refl, sym, ap, ◌∙◌}
use mathlib.Core.Logic.{◌⊎◌, inl, inr}
use mathlib.Core.List.{List, [], ◌∷◌, ◌++◌, append-nil, append_assoc}
use mathlib.Core.Bool.{true, false}
use lib.Dec.{ltb, leb}
use borrow.Author.Tests.{ltb-true, ltb-false, leb-true, leb-false}
use lib.ListN.{length, length-append}
use Rattle.below.proofs.Tests.{by_cases}
use Rattle.tables.specs.Limits.{Limits}
use Rattle.lines.specs.Keys.{stops_key}
use Rattle.lines.specs.Stops.{count_line, stop_lines}
use Rattle.lines.specs.Names.{name_line, row_of}
use Rattle.lines.specs.declared.refusal.Refusal.{Refusal}
use Rattle.lines.specs.declared.refusal.Refusal.TheVariants.{Range, TooManyStops, SameName}
use Rattle.text.specs.LinesRead.{elem, read_to}
use Rattle.text.specs.Written.{Route, route_line, route_lines, rows_of, locations_of, InLimits, InLimitsFrom}
use Rattle.text.specs.declared.reader.DroneLines.{DroneLines}
use Rattle.copying.specs.Reckoned.{stops_reckoned, route_reckoned, routes_reckoned, lines_from, closed_by, text_reckoned, AllInRange}
use Rattle.copying.specs.Claims.{Faultless, RouteAtFault, OffsetsReckoned}
use Rattle.std.specs.Prelude.{Err, Ok, Result}

record FaultFrom (L : Limits) (form at : ℕ) (earlier : List (List ℕ)) (total : ℕ) (ds : List Route) (r : Refusal) : Type 0 where
  before : List Route
  here : Route
  after : List Route
  parts : ds ≡ before ++ here ∷ after
  fine : Faultless L earlier total before
  fault : ((elem (earlier ++ rows_of L before) (row_of L here.name) ≡ true) × (r ≡ SameName (at + length (route_lines form before))))
      ⊎ ((elem (earlier ++ rows_of L before) (row_of L here.name) ≡ false) × (L.stops < total + length (locations_of before) + length here.locations)
      × (r ≡ TooManyStops (at + length (route_lines form before) + length (name_line here.name))))

-- one route before
fault_after : (L : Limits) (form at e : ℕ) (earlier : List (List ℕ)) (total : ℕ) (d : Route) (ds : List Route) (r : Refusal) → e ≡ at + length (route_line form d)
    → elem earlier (row_of L d.name) ≡ false → total + length d.locations ≤ L.stops → FaultFrom L form e (earlier ++ row_of L d.name ∷ []) (total + length d.locations) ds r → FaultFrom L form at earlier total (d ∷ ds) r
unfolding route_lines
fault_after L form at e earlier total d ds r ee new few f = record { before = d ∷ f.before; here = f.here; after = f.after; parts = ap (λ (x : List Route). d ∷ x) f.parts; fine = (new, few, f.fine); fault = by_kind f.fault }
  where
    rows : earlier ++ row_of L d.name ∷ [] ++ rows_of L f.before ≡ earlier ++ row_of L d.name ∷ rows_of L f.before
    rows = append_assoc earlier (row_of L d.name ∷ []) (rows_of L f.before)

    offset : e + length (route_lines form f.before) ≡ at + length (route_line form d ++ route_lines form f.before)
    offset = rw (length-append (route_line form d) (route_lines form f.before)) (omega (arith, ee))

    stops : total + length d.locations + length (locations_of f.before) ≡ total + length (d.locations ++ locations_of f.before)
    stops = rw (length-append d.locations (locations_of f.before)) (omega arith)

    by_kind : ((elem (earlier ++ row_of L d.name ∷ [] ++ rows_of L f.before) (row_of L f.here.name) ≡ true) × (r ≡ SameName (e + length (route_lines form f.before))))
        ⊎ ((elem (earlier ++ row_of L d.name ∷ [] ++ rows_of L f.before) (row_of L f.here.name) ≡ false) × (L.stops < total + length d.locations + length (locations_of f.before) + length f.here.locations)
        × (r ≡ TooManyStops (e + length (route_lines form f.before) + length (name_line f.here.name))))
        → ((elem (earlier ++ row_of L d.name ∷ rows_of L f.before) (row_of L f.here.name) ≡ true) × (r ≡ SameName (at + length (route_line form d ++ route_lines form f.before))))
        ⊎ ((elem (earlier ++ row_of L d.name ∷ rows_of L f.before) (row_of L f.here.name) ≡ false) × (L.stops < total + length (d.locations ++ locations_of f.before) + length f.here.locations)
        × (r ≡ TooManyStops (at + length (route_line form d ++ route_lines form f.before) + length (name_line f.here.name))))
    by_kind (inl (t, q)) = inl (ap (λ (x : List (List ℕ)). elem x (row_of L f.here.name)) (sym rows) ∙ t, q ∙ ap SameName offset)
    by_kind (inr (t, o, q)) = inr (ap (λ (x : List (List ℕ)). elem x (row_of L f.here.name)) (sym rows) ∙ t, omega (arith, o, stops), q ∙ ap (λ (k : ℕ). TooManyStops (k + length (name_line f.here.name))) offset)

fault_of : (L : Limits) (form : ℕ) (ds : List Route) (at : ℕ) (earlier : List (List ℕ)) (total : ℕ) (r : Refusal) → (routes_reckoned L form at earlier total ds).answer ≡ Err r → FaultFrom L form at earlier total ds r
unfolding routes_reckoned route_reckoned stops_reckoned route_lines
fault_of L form [] at earlier total r h = absurd (let z : ◌≡◌ {A = ℕ} 0 1 = cc h in omega arith)
fault_of L form (d ∷ ds) at earlier total r h =
    let row : List ℕ = row_of L d.name in
    let e : ℕ = at + length (name_line d.name) + length (count_line stops_key (length d.locations) ++ stop_lines form d.locations d.times d.legs) in
    let m : e ≡ at + length (route_line form d) = simp length-append (omega arith) in
    let z : at + 0 ≡ at = omega arith in
    by_cases (elem earlier row)
    (λ t.
    let q : SameName at ≡ r = cc (rw t at h) in
    record { before = []; here = d; after = ds; parts = refl; fine = tt; fault = inl (rw append-nil t, sym q ∙ ap SameName (sym z)) })
    (λ t. by_cases (ltb L.stops (total + length d.locations))
    (λ o.
    let q : TooManyStops (at + length (name_line d.name)) ≡ r = cc (rw (t, o) at h) in
    record {
      before = [];
      here = d;
      after = ds;
      parts = refl;
      fine = tt;
      fault = inr (rw append-nil t, omega (arith, ltb-true L.stops (total + length d.locations) o), sym q ∙ ap (λ (k : ℕ). TooManyStops (k + length (name_line d.name))) (sym z));
    })
    (λ o. fault_after L form at e earlier total d ds r m t (ltb-false L.stops (total + length d.locations) o) (fault_of L form ds e (earlier ++ row ∷ []) (total + length d.locations) r (rw (t, o) at h))))

-- from the first route on
from_first : (L : Limits) (form : ℕ) (ds : List Route) (r : Refusal) → FaultFrom L form (lines_from form (length ds)) [] 0 ds r → RouteAtFault L form ds r
from_first L form ds r f = record { before = f.before; here = f.here; after = f.after; parts = f.parts; fine = f.fine; fault = by_kind f.fault }
  where
    by_kind : ((elem (rows_of L f.before) (row_of L f.here.name) ≡ true) × (r ≡ SameName (lines_from form (length ds) + length (route_lines form f.before))))
        ⊎ ((elem (rows_of L f.before) (row_of L f.here.name) ≡ false) × (L.stops < 0 + length (locations_of f.before) + length f.here.locations)
        × (r ≡ TooManyStops (lines_from form (length ds) + length (route_lines form f.before) + length (name_line f.here.name))))
        → ((elem (rows_of L f.before) (row_of L f.here.name) ≡ true) × (r ≡ SameName (lines_from form (length ds) + length (route_lines form f.before))))
        ⊎ ((elem (rows_of L f.before) (row_of L f.here.name) ≡ false) × (L.stops < length (locations_of f.before) + length f.here.locations)
        × (r ≡ TooManyStops (lines_from form (length ds) + length (route_lines form f.before) + length (name_line f.here.name))))
    by_kind (inl x) = inl x
    by_kind (inr (t, o, q)) = inr (t, omega (arith, o), q)

pub offsets_reckoned : (L : Limits) → OffsetsReckoned L
unfolding text_reckoned
offsets_reckoned L form ds r h = by_cases (leb (length ds) L.drones)
    (λ o. inr (leb-true (length ds) L.drones o, by_answer (routes_reckoned L form (lines_from form (length ds)) [] 0 ds).answer refl (rw o at h)))
    (λ o. let q : Range 7 ≡ r = cc (rw o at h) in inl (leb-false (length ds) L.drones o, sym q))
  where
    by_answer : (a : Result DroneLines Refusal) → (routes_reckoned L form (lines_from form (length ds)) [] 0 ds).answer ≡ a → closed_by (length ds) a ≡ Err r → RouteAtFault L form ds r
    by_answer (Ok lines) q h = absurd (let z : ◌≡◌ {A = ℕ} 0 1 = cc h in omega arith)
    by_answer (Err x) q h =
        let e : x ≡ r = cc h in
        let f = fault_of L form ds (lines_from form (length ds)) [] 0 r (q ∙ ap Err e) in
        from_first L form ds r f

-- ---- no line is at fault

reckoned_valid : (L : Limits) (form : ℕ) (ds : List Route) (at : ℕ) (earlier : List (List ℕ)) (total e t : ℕ) → AllInRange L form ds → (routes_reckoned L form at earlier total ds).answer ≡ read_to e t → InLimitsFrom L form earlier total ds
unfolding routes_reckoned route_reckoned stops_reckoned
reckoned_valid L form [] at earlier total e t v h = tt
reckoned_valid L form (d ∷ ds) at earlier total e t v h =
    by_cases (elem earlier (row_of L d.name))
    (λ p. absurd (let z : ◌≡◌ {A = ℕ} 0 1 = cc (rw p at h) in omega arith))
    (λ p. by_cases (ltb L.stops (total + length d.locations))
    (λ o. absurd (let z : ◌≡◌ {A = ℕ} 0 1 = cc (rw (p, o) at h) in omega arith))
    (λ o. (
      v.0.0,
      p,
      v.0.1,
      ltb-false L.stops (total + length d.locations) o,
      v.0.3,
      reckoned_valid L form ds _ (earlier ++ row_of L d.name ∷ []) (total + length d.locations) e t v.1 (rw (p, o) at h),
    )))

pub well_formed_valid : (L : Limits) (form : ℕ) (ds : List Route) (n : ℕ) → 1 ≤ form → form ≤ L.form → 1 ≤ length ds → AllInRange L form ds → (text_reckoned L form ds).answer ≡ Ok n → InLimits L form ds
unfolding text_reckoned
well_formed_valid L form ds n low high some v h = by_cases (leb (length ds) L.drones)
    (λ o. by_answer (leb-true (length ds) L.drones o) (routes_reckoned L form (lines_from form (length ds)) [] 0 ds).answer refl (rw o at h))
    (λ o. absurd (let z : ◌≡◌ {A = ℕ} 0 1 = cc (rw o at h) in omega arith))
  where
    by_answer : length ds ≤ L.drones → (a : Result DroneLines Refusal) → (routes_reckoned L form (lines_from form (length ds)) [] 0 ds).answer ≡ a → closed_by (length ds) a ≡ Ok n → InLimits L form ds
    by_answer o (Err x) q h = absurd (let z : ◌≡◌ {A = ℕ} 0 1 = cc h in omega arith)
    by_answer o (Ok lines) q h = (some, o, reckoned_valid L form ds (lines_from form (length ds)) [] 0 lines.next lines.total v q, low, high)
