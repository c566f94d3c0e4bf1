-- The text of a plan that is valid with its names in small letters is read back as that: line by line, each piece where the one before it ends.
use Prim.Native.Nat.{ℕ, ◌+◌, ◌≤◌}
use native.Mathlib.Nat.{add-zero}
use native.Mathlib.Omega.{arith}
use mathlib.Core.Path.{◌≡◌, refl, sym, ap, ◌∙◌}
use mathlib.Core.List.{List, [], ◌∷◌, ◌++◌}
use mathlib.Core.Bool.{Bool, true, false}
use borrow.Author.Tests.{eq-eqb, ne_eqb}
use lib.ListN.{length, length-append}
use lib.Seq.{take-length}
use Rattle.tables.specs.Limits.{Limits}
use Rattle.lines.specs.Bytes.{is_at}
use Rattle.lines.specs.Numbers.{SevenDigits}
use Rattle.lines.specs.Keys.{stops_key, first_line, agents_key, last_line}
use Rattle.lines.specs.Stops.{stop_lines, count_at, count_line, StopsInRange, count_read}
use Rattle.lines.specs.Names.{small_form, good_name, name_line, row_of}
use Rattle.lines.proofs.ByteLaws.{stands_parts, part_at}
use Rattle.lines.proofs.FormLaws.{form_back}
use Rattle.lines.proofs.StopRoundTrip.{stops_back, count_back}
use Rattle.lines.proofs.Letters.{text_name_lem}
use Rattle.lines.proofs.NameRoundTrip.{name_back}
use Rattle.text.specs.LinesRead.{stops_read, drone_at, elem, drones_at, lines_of_form, lines_at, read_to}
use Rattle.text.specs.Written.{Route, route_line, route_lines, routes_text, small_names, rows_of, counts_of, locations_of, times_of, legs_of, lines_of, InLimitsFrom, InLimits}
use Rattle.text.proofs.Capitals.{names_many}
use Rattle.text.proofs.DroneCases.{stops_in_lem, drone_in}

-- the stops of one drone
stops_read_back : (L : Limits) (form : ℕ) (ls ts gs text : List ℕ) (at total : ℕ) → SevenDigits L → 1 ≤ length ls → total + length ls ≤ L.stops → StopsInRange L form 0 ls ts gs
    → is_at text at (count_line stops_key (length ls) ++ stop_lines form ls ts gs) ≡ true
    → stops_read L form text at total
    ≡ record { form = form; rows = []; counts = length ls ∷ []; locations = ls; times = ts; legs = gs; answer = read_to (at + length (count_line stops_key (length ls) ++ stop_lines form ls ts gs)) (total + length ls) }
stops_read_back L form ls ts gs text at total u a b r h =
    let w = stands_parts text at (count_line stops_key (length ls)) (stop_lines form ls ts gs) h in
    let c = count_back text at stops_key L.stops (length ls) a (omega arith) (omega (arith, u.stops)) w.0 in
    let s = stops_back L form 0 ls ts gs text (at + length (count_line stops_key (length ls))) u r w.1 in
    let m : at + length (count_line stops_key (length ls)) + length (stop_lines form ls ts gs) ≡ at + length (count_line stops_key (length ls) ++ stop_lines form ls ts gs) = simp length-append (omega arith) in
    stops_in_lem L form text at total _ refl (length ls) (at + length (count_line stops_key (length ls))) c (omega arith) ∙ rw (s, m)

-- one drone
pub drone_back : (L : Limits) (form : ℕ) (d : Route) (text : List ℕ) (at total : ℕ) (taken : List ℕ → Bool) → SevenDigits L → good_name L (small_form d.name) ≡ true → taken (row_of L (small_form d.name)) ≡ false → 1 ≤ length d.locations
    → total + length d.locations ≤ L.stops → StopsInRange L form 0 d.locations d.times d.legs → is_at text at (route_line form d) ≡ true
    → drone_at L form text at total taken ≡ record {
      form = form;
      rows = row_of L (small_form d.name) ∷ [];
      counts = length d.locations ∷ [];
      locations = d.locations;
      times = d.times;
      legs = d.legs;
      answer = read_to (at + length (route_line form d)) (total + length d.locations);
    }
drone_back L form d text at total taken u g f a b r h =
    let rest : List ℕ = count_line stops_key (length d.locations) ++ stop_lines form d.locations d.times d.legs in
    let w = stands_parts text at (name_line d.name) rest h in
    let n = name_back L text at d.name (text_name_lem L d.name ∙ g) w.0 in
    let p : at + length (name_line d.name) ≡ at + 5 + length d.name + 1 = simp length-append (omega arith) in
    let s = stops_read_back L form d.locations d.times d.legs text (at + 5 + length d.name + 1) total u a b r (rw p at w.1) in
    let m : at + 5 + length d.name + 1 + length rest ≡ at + length (name_line d.name ++ rest) = simp length-append (omega arith) in
    drone_in L form text at total taken _ refl (at + 5) (at + 5 + length d.name) (row_of L (small_form d.name)) n.0 (rw n.1) f ∙ rw (s, m)

-- all drones
abbrev total_of : ℕ → List Route → ℕ
total_of total [] = total
total_of total (d ∷ ds) = total_of (total + length d.locations) ds

drones_back : (L : Limits) (form : ℕ) (ds : List Route) (text : List ℕ) (at : ℕ) (earlier : List (List ℕ)) (total : ℕ) → SevenDigits L → InLimitsFrom L form earlier total (small_names ds) → is_at text at (route_lines form ds) ≡ true
    → drones_at L form (length ds) text at earlier total
    ≡ record {
      form = form;
      rows = rows_of L (small_names ds);
      counts = counts_of (small_names ds);
      locations = locations_of (small_names ds);
      times = times_of (small_names ds);
      legs = legs_of (small_names ds);
      answer = read_to (at + length (route_lines form ds)) (total_of total ds);
    }
unfolding drones_at route_lines
drones_back L form [] text at earlier total u v h = rw add-zero
drones_back L form (d ∷ ds) text at earlier total u v h =
    let w = stands_parts text at (route_line form d) (route_lines form ds) h in
    let f = drone_back L form d text at total (elem earlier) u v.0 v.1 v.2 v.3 v.4 w.0 in
    let g = drones_back L form ds text (at + length (route_line form d)) (earlier ++ row_of L (small_form d.name) ∷ []) (total + length d.locations) u v.5 w.1 in
    let m : at + length (route_line form d) + length (route_lines form ds) ≡ at + length (route_line form d ++ route_lines form ds) = simp length-append (omega arith) in
    rw (f, g, m)

lines_back : (L : Limits) (form : ℕ) (ds : List Route) (text C : List ℕ) → SevenDigits L → C ≡ count_line agents_key (length ds) → InLimits L form (small_names ds) → is_at text 0 (first_line form) ≡ true → is_at text 7 C ≡ true
    → is_at text (7 + length C) (route_lines form ds) ≡ true → is_at text (7 + length C + length (route_lines form ds)) last_line ≡ true → 7 + length C + length (route_lines form ds) + 9 ≡ length text
    → lines_at L text ≡ lines_of L form (small_names ds)
unfolding lines_at lines_of_form
lines_back L form ds text C u q v k c r e l =
    let m = names_many ds in
    let low : 1 ≤ length ds = omega (arith, m, v.0) in
    let high : length ds ≤ L.drones = omega (arith, m, v.1) in
    let n : count_at text 7 agents_key L.drones ≡ count_read (length ds) (7 + length C) = count_back text 7 agents_key L.drones (length ds) low high (omega (arith, u.drones, high)) (rw q at c) ∙ rw q in
    let g = drones_back L form ds text (7 + length C) [] 0 u v.2 r in
    let f = form_back L text form v.3 (omega (arith, v.4, u.form)) v.4 k in
    rw (f, ne_eqb form 0 (λ z. omega (arith, z, v.3)), n, g, e, eq-eqb _ _ l, m)

-- the law: the text is read back as the plan with its names in small letters
pub written_read_back : (L : Limits) → SevenDigits L → (form : ℕ) (ds : List Route) → InLimits L form (small_names ds) → lines_at L (routes_text form ds) ≡ lines_of L form (small_names ds)
written_read_back L u form ds v = go (routes_text form ds) (count_line agents_key (length ds)) refl refl
  where
    go : (text C : List ℕ) → text ≡ first_line form ++ C ++ route_lines form ds ++ last_line → C ≡ count_line agents_key (length ds) → lines_at L text ≡ lines_of L form (small_names ds)
    go text C t q =
        let i : is_at text 0 text ≡ true = rw take-length at (part_at text 0 (length text) (omega arith)) in
        let j : is_at text 0 (first_line form ++ C ++ route_lines form ds ++ last_line) ≡ true = ap (is_at text 0) (sym t) ∙ i in
        let w = stands_parts text 0 (first_line form ++ C ++ route_lines form ds) last_line j in
        let y = stands_parts text 0 (first_line form ++ C) (route_lines form ds) w.0 in
        let k = stands_parts text 0 (first_line form) C y.0 in
        let m : 0 + length (first_line form ++ C) ≡ 7 + length C = simp length-append (omega arith) in
        let o : 0 + length (first_line form ++ C ++ route_lines form ds) ≡ 7 + length C + length (route_lines form ds) = simp length-append (omega arith) in
        let l : 7 + length C + length (route_lines form ds) + 9 ≡ length text = rw t (simp length-append (omega arith)) in
        lines_back L form ds text C u q v k.0 k.1 (rw m at y.1) (rw o at w.1) l
