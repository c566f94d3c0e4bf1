-- The lines of drones one after another: as far as they are right, and what the reader says of the line after them. Assumes nothing.
use mathlib.Core.Path.{◌≡◌, refl, sym, ap, ◌∙◌}
use mathlib.Core.Bool.{true, false}
use mathlib.Core.List.{List, [], ◌∷◌, ◌++◌, append-nil, append_assoc}
use Prim.Native.Nat.{ℕ, zero, suc, ◌+◌, ◌≤◌, ◌<◌}
use native.Mathlib.Nat.{add-zero, zero-add, suc-add}
use native.Mathlib.Omega.{arith}
use lib.ListN.{length, length-append}
use Rattle.tables.specs.Limits.{Limits}
use Rattle.lines.specs.Bytes.{is_at}
use Rattle.lines.specs.Keys.{stops_key}
use Rattle.lines.specs.Numbers.{SevenDigits}
use Rattle.lines.specs.Stops.{go_at, stops_at, stop_line, stop_lines, count_line, StopsInRange}
use Rattle.lines.specs.Names.{small_form, name_line, row_of, good_name}
use Rattle.lines.proofs.ByteLaws.{small, Stands, stands_parts, stands_join}
use Rattle.lines.proofs.Letters.{text_name_lem}
use Rattle.lines.proofs.StopCases.{go_read}
use Rattle.lines.proofs.StopRoundTrip.{go-stands, go_back}
use Rattle.lines.specs.declared.refusal.Refusal.{Refusal}
use Rattle.text.specs.LinesRead.{LinesRead, and_then, drone_at, elem, drones_at}
use Rattle.text.specs.Written.{Route, route_line, route_lines, small_names, rows_of, locations_of, InLimitsFrom}
use Rattle.text.proofs.DroneTaken.{DroneTake, drone_taken}
use Rattle.text.proofs.WrittenIsRead.{drone_back}
use Rattle.accepted.proofs.LinePlaces.{small_join, count_small}
use Rattle.accepted.proofs.StopPlaces.{stop-small}
use Rattle.accepted.proofs.NamePlaces.{name_small}
use Rattle.lines.specs.Stops.{go_stop}
use Rattle.lines.specs.declared.stops.GoLine.{GoLine}
use Rattle.std.specs.Prelude.{Result, Ok, Err}
use Rattle.text.specs.LinesRead.{read_to}
use Rattle.text.specs.declared.reader.DroneLines.{DroneLines}

-- ---- stops

-- the answer of n lines `go=`: the first of them at fault, or none
pub data StopsSaid (L : Limits) (form s n : ℕ) (text : List ℕ) (at : ℕ) : Type 0 where
  stops_up_to : (ls ts gs : List ℕ) → length ls < n → StopsInRange L form s ls ts gs → (e : ℕ) → Stands text at (stop_lines form ls ts gs) e
      → (r : Refusal) → go_at L form (s + length ls) text e ≡ Err r → (stops_at L form s n text at).answer ≡ Err r → StopsSaid L form s n text at
  stops_each : (e : ℕ) → (stops_at L form s n text at).answer ≡ Ok e → StopsSaid L form s n text at

stops_first : (L : Limits) (form s n : ℕ) (text : List ℕ) (at l t g e : ℕ) → go_at L form s text at ≡ go_stop l t g e → (stops_at L form s (suc n) text at).answer ≡ (stops_at L form (suc s) n text e).answer
unfolding stops_at
stops_first L form s n text at l t g e h = rw h refl

stops_cons : (L : Limits) (form s n : ℕ) (text : List ℕ) (at l t g e : ℕ) → go_at L form s text at ≡ go_stop l t g e → StopsSaid L form (suc s) n text e → StopsSaid L form s (suc n) text at
unfolding stop_lines
stops_cons L form s n text at l t g e h (stops_up_to ls ts gs few range p there r said whole) =
    let k = go_read L form s text at l t g e h in
    let q : suc s + length ls ≡ s + suc (length ls) = omega arith in
    stops_up_to (l ∷ ls) (t ∷ ts) (g ∷ gs) (omega (arith, few)) (k.near, k.early, k.right, range) p (stands_join (go-stands L form s text at l t g e h) there) r (ap (λ (i : ℕ). go_at L form i text p) (sym q) ∙ said)
    (stops_first L form s n text at l t g e h ∙ whole)
stops_cons L form s n text at l t g e h (stops_each p whole) = stops_each p (stops_first L form s n text at l t g e h ∙ whole)

pub stops_said : (L : Limits) (form s n : ℕ) (text : List ℕ) (at : ℕ) → StopsSaid L form s n text at
unfolding stops_at stop_lines is_at
stops_said L form s zero text at = stops_each at refl
stops_said L form s (suc n) text at = by_line (go_at L form s text at) refl (λ e. stops_said L form (suc s) n text e)
  where
    by_line : (x : Result GoLine Refusal) → go_at L form s text at ≡ x → ((e : ℕ) → StopsSaid L form (suc s) n text e) → StopsSaid L form s (suc n) text at
    by_line (Ok x) h more = stops_cons L form s n text at x.location x.time x.leg x.next h (more x.next)
    by_line (Err r) h more = stops_up_to [] [] [] (omega arith) tt at (record { there = refl; next_is = sym (add-zero at) }) r (ap (λ (i : ℕ). go_at L form i text at) (add-zero s) ∙ h) (rw h refl)

-- lines that are right are read through
pub stops_through : (L : Limits) (form s k : ℕ) (ls ts gs text : List ℕ) (at : ℕ) → SevenDigits L → StopsInRange L form s ls ts gs → is_at text at (stop_lines form ls ts gs) ≡ true
    → (stops_at L form s (length ls + k) text at).answer ≡ (stops_at L form (s + length ls) k text (at + length (stop_lines form ls ts gs))).answer
unfolding stop_lines
stops_through L form s k [] [] [] text at u r h = λ i. (stops_at L form (sym (add-zero s) i) (zero-add k i) text (sym (add-zero at) i)).answer
stops_through L form s k [] [] (g ∷ gs) text at u r h = absurd r
stops_through L form s k [] (t ∷ ts) gs text at u r h = absurd r
stops_through L form s k (l ∷ ls) [] gs text at u r h = absurd r
stops_through L form s k (l ∷ ls) (t ∷ ts) [] text at u r h = absurd r
stops_through L form s k (l ∷ ls) (t ∷ ts) (g ∷ gs) text at u r h =
    let w = stands_parts text at (stop_line form l t g) (stop_lines form ls ts gs) h in
    let x = go_back L form s text at l t g u r.0 r.1 r.2 w.0 in
    let ih = stops_through L form (suc s) k ls ts gs text (at + length (stop_line form l t g)) u r.3 w.1 in
    let m : at + length (stop_line form l t g) + length (stop_lines form ls ts gs) ≡ at + length (stop_line form l t g ++ stop_lines form ls ts gs) = simp length-append (omega arith) in
    let q : suc s + length ls ≡ s + suc (length ls) = omega arith in
    rw suc-add (stops_first L form s (length ls + k) text at l t g (at + length (stop_line form l t g)) x ∙ ih ∙ (λ i. (stops_at L form (q i) k text (m i)).answer))

-- ---- drones

pub stops_small : (form : ℕ) (ls ts gs : List ℕ) → small (stop_lines form ls ts gs) ≡ true
unfolding stop_lines
stops_small form [] ts gs = refl
stops_small form (l ∷ ls) [] gs = refl
stops_small form (l ∷ ls) (t ∷ ts) [] = refl
stops_small form (l ∷ ls) (t ∷ ts) (g ∷ gs) = small_join (stop_line form l t g) (stop_lines form ls ts gs) (stop-small form l t g) (stops_small form ls ts gs)

pub routes_small : (L : Limits) (form : ℕ) (ds : List Route) (earlier : List (List ℕ)) (total : ℕ) → InLimitsFrom L form earlier total (small_names ds) → small (route_lines form ds) ≡ true
unfolding route_lines
routes_small L form [] earlier total v = refl
routes_small L form (d ∷ ds) earlier total v =
    let C = count_line stops_key (length d.locations) in
    let S = stop_lines form d.locations d.times d.legs in
    small_join (name_line d.name ++ (C ++ S)) (route_lines form ds)
    (small_join (name_line d.name) (C ++ S) (name_small L d.name (text_name_lem L d.name ∙ v.0)) (small_join C S (count_small stops_key (length d.locations) refl) (stops_small form d.locations d.times d.legs)))
    (routes_small L form ds (earlier ++ row_of L (small_form d.name) ∷ []) (total + length d.locations) v.5)

-- the answer of k drones: the first of them at fault, or none
pub data DronesSaid (L : Limits) (form k : ℕ) (text : List ℕ) (at : ℕ) (earlier : List (List ℕ)) (total : ℕ) : Type 0 where
  drones_up_to : (ds : List Route) → length ds < k → InLimitsFrom L form earlier total (small_names ds) → (e : ℕ) → Stands text at (route_lines form ds) e
      → (r : Refusal) → (drone_at L form text e (total + length (locations_of ds)) (elem (earlier ++ rows_of L (small_names ds)))).answer ≡ Err r
      → (drones_at L form k text at earlier total).answer ≡ Err r → DronesSaid L form k text at earlier total
  drones_each : (ds : List Route) → length ds ≡ k → InLimitsFrom L form earlier total (small_names ds) → (e t : ℕ) → Stands text at (route_lines form ds) e
      → (drones_at L form k text at earlier total).answer ≡ read_to e t → DronesSaid L form k text at earlier total

then_read : (f : LinesRead (Result DroneLines Refusal)) (r : Result DroneLines Refusal) (e t : ℕ) (more : ℕ → ℕ → LinesRead (Result DroneLines Refusal)) → r ≡ read_to e t → (and_then f r more).answer ≡ (more e t).answer
then_read f r e t more h = rw h refl

then-refused : (f : LinesRead (Result DroneLines Refusal)) (r : Result DroneLines Refusal) (x : Refusal) (more : ℕ → ℕ → LinesRead (Result DroneLines Refusal)) → r ≡ Err x → f.answer ≡ r → (and_then f r more).answer ≡ Err x
then-refused f r x more h q = rw h (q ∙ h)

module _ (L : Limits) (form k : ℕ) (text : List ℕ) (at : ℕ) (earlier : List (List ℕ)) (total : ℕ) where
  -- one more, where its row and stops are known
  drones_first : (e t : ℕ) (row : List ℕ) → (drone_at L form text at total (elem earlier)).answer ≡ read_to e t → (drone_at L form text at total (elem earlier)).rows ≡ row ∷ []
      → (drones_at L form (suc k) text at earlier total).answer ≡ (drones_at L form k text e (earlier ++ row ∷ []) t).answer
  unfolding drones_at
  drones_first e t row a b =
      then_read (drone_at L form text at total (elem earlier)) (drone_at L form text at total (elem earlier)).answer e t _ a ∙ ap (λ (x : List (List ℕ)). (drones_at L form k text e (earlier ++ x) t).answer) b

  pub drones-refused : (r : Refusal) → (drone_at L form text at total (elem earlier)).answer ≡ Err r → (drones_at L form (suc k) text at earlier total).answer ≡ Err r
  unfolding drones_at
  drones-refused r h = then-refused (drone_at L form text at total (elem earlier)) (drone_at L form text at total (elem earlier)).answer r _ h refl

  drones-cons : (e t : ℕ) (d : Route) → good_name L (small_form d.name) ≡ true → elem earlier (row_of L (small_form d.name)) ≡ false → 1 ≤ length d.locations → total + length d.locations ≤ L.stops
      → StopsInRange L form 0 d.locations d.times d.legs → Stands text at (route_line form d) e
      → (drones_at L form (suc k) text at earlier total).answer ≡ (drones_at L form k text e (earlier ++ row_of L (small_form d.name) ∷ []) (total + length d.locations)).answer
      → DronesSaid L form k text e (earlier ++ row_of L (small_form d.name) ∷ []) (total + length d.locations) → DronesSaid L form (suc k) text at earlier total
  unfolding route_lines
  drones-cons e t d g n s w range there first (drones_up_to ds few within p rest r said whole) =
      let q : total + length d.locations + length (locations_of ds) ≡ total + length (d.locations ++ locations_of ds) = simp length-append (omega arith) in
      let a = append_assoc earlier (row_of L (small_form d.name) ∷ []) (rows_of L (small_names ds)) in
      drones_up_to (d ∷ ds) (omega (arith, few)) (g, n, s, w, range, within) p (stands_join there rest) r ((λ i. (drone_at L form text p (sym q i) (elem (sym a i))).answer) ∙ said) (first ∙ whole)
  drones-cons e t d g n s w range there first (drones_each ds many within p u rest whole) = drones_each (d ∷ ds) (ap suc many) (g, n, s, w, range, within) p u (stands_join there rest) (first ∙ whole)

pub drones_said : (L : Limits) (form k : ℕ) (text : List ℕ) (at : ℕ) (earlier : List (List ℕ)) (total : ℕ) → DronesSaid L form k text at earlier total
unfolding drones_at route_lines is_at
drones_said L form zero text at earlier total = drones_each [] refl tt at total (record { there = refl; next_is = sym (add-zero at) }) refl
drones_said L form (suc k) text at earlier total = by_answer (drone_at L form text at total (elem earlier)).answer refl (λ e es t. drones_said L form k text e es t)
  where
    by_answer : (x : Result DroneLines Refusal) → (drone_at L form text at total (elem earlier)).answer ≡ x → ((e : ℕ) (es : List (List ℕ)) (t : ℕ) → DronesSaid L form k text e es t) → DronesSaid L form (suc k) text at earlier total
    by_answer (Ok lines) h more =
        let e = lines.next in
        let t = lines.total in
        let d : DroneTake L form text at e total t (elem earlier) (drone_at L form text at total (elem earlier)) = drone_taken L form text at total (elem earlier) e t h in
        drones-cons L form k text at earlier total e t d.route d.good d.new d.some d.within d.range d.there
        (drones_first L form k text at earlier total e t (row_of L (small_form d.route.name)) h d.rows_are ∙ ap (λ (i : ℕ). (drones_at L form k text e (earlier ++ row_of L (small_form d.route.name) ∷ []) i).answer) d.total_is)
        (more e (earlier ++ row_of L (small_form d.route.name) ∷ []) (total + length d.route.locations))
    by_answer (Err r) h more =
        drones_up_to [] (omega arith) tt at (record { there = refl; next_is = sym (add-zero at) }) r ((λ i. (drone_at L form text at (add-zero total i) (elem (append-nil earlier i))).answer) ∙ h)
        (drones-refused L form k text at earlier total r h)

-- drones that are right are read through
pub drones_through : (L : Limits) (form k : ℕ) (ds : List Route) (text : List ℕ) (at : ℕ) (earlier : List (List ℕ)) (total : ℕ) → SevenDigits L → InLimitsFrom L form earlier total (small_names ds) → is_at text at (route_lines form ds) ≡ true
    → (drones_at L form (length ds + k) text at earlier total).answer
    ≡ (drones_at L form k text (at + length (route_lines form ds)) (earlier ++ rows_of L (small_names ds)) (total + length (locations_of ds))).answer
unfolding route_lines
drones_through L form k [] text at earlier total u v h = λ i. (drones_at L form (zero-add k i) text (sym (add-zero at) i) (sym (append-nil earlier) i) (sym (add-zero total) i)).answer
drones_through L form k (d ∷ ds) text at earlier total u v h =
    let w = stands_parts text at (route_line form d) (route_lines form ds) h in
    let f = drone_back L form d text at total (elem earlier) u v.0 v.1 v.2 v.3 v.4 w.0 in
    let row : List ℕ = row_of L (small_form d.name) in
    let ih = drones_through L form k ds text (at + length (route_line form d)) (earlier ++ row ∷ []) (total + length d.locations) u v.5 w.1 in
    let m : at + length (route_line form d) + length (route_lines form ds) ≡ at + length (route_line form d ++ route_lines form ds) = simp length-append (omega arith) in
    let q : total + length d.locations + length (locations_of ds) ≡ total + length (d.locations ++ locations_of ds) = simp length-append (omega arith) in
    let a = append_assoc earlier (row ∷ []) (rows_of L (small_names ds)) in
    let first = drones_first L form (length ds + k) text at earlier total (at + length (route_line form d)) (total + length d.locations) row (ap (λ (x : LinesRead (Result DroneLines Refusal)). x.answer) f) (ap (λ (x : LinesRead (Result DroneLines Refusal)). x.rows) f) in
    rw suc-add (first ∙ ih ∙ (λ i. (drones_at L form k text (m i) (a i) (q i)).answer))
