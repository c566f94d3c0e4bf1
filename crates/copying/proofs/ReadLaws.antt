-- The text of written routes is read as reckoned: line by line, each where the one before it ends.
use Prim.Native.Nat.{ℕ, ◌+◌, ◌^◌, ◌≤◌, ◌<◌}
use native.Mathlib.Omega.{arith}
use mathlib.Core.Path.{◌≡◌, refl, sym, ap, ◌∙◌}
use mathlib.Core.List.{List, [], ◌∷◌, ◌++◌}
use mathlib.Core.Bool.{Bool, true}
use lib.Dec.{ltb, leb}
use borrow.Author.Tests.{eq-eqb, ltb-true, ltb-false, leb-true, leb-false}
use lib.ListN.{length, length-append}
use lib.Seq.{take-length}
use Rattle.below.proofs.Tests.{by_cases}
use Rattle.tables.specs.Limits.{Limits}
use Rattle.lines.specs.Bytes.{is_at}
use Rattle.lines.specs.Numbers.{is_digit, field, SevenDigits}
use Rattle.lines.specs.Keys.{stops_key, first_line, agents_key, last_line}
use Rattle.lines.specs.Stops.{stop_lines, count_at, count_line, StopsInRange, count_read}
use Rattle.lines.specs.Names.{small_form, name_line, row_of}
use Rattle.lines.proofs.ByteLaws.{stands_parts, part_at}
use Rattle.lines.proofs.FormLaws.{form_back}
use Rattle.lines.proofs.Letters.{text_name_lem, small-length}
use Rattle.lines.proofs.NumberRoundTrip.{field_back}
use Rattle.lines.proofs.NameRoundTrip.{name_back}
use Rattle.lines.proofs.StopCases.{count_high}
use Rattle.lines.proofs.StopRoundTrip.{stops_back, count_back}
use Rattle.lines.specs.declared.refusal.Refusal.TheVariants.{Range}
use Rattle.text.specs.LinesRead.{LinesRead, stops_read, drone_at, elem, drones_at, ending, finish, lines_of_form, lines_at}
use Rattle.text.specs.Written.{Route, route_line, route_lines, routes_text, small_named, small_names}
use Rattle.text.specs.declared.reader.DroneLines.{DroneLines}
use Rattle.text.proofs.Capitals.{names_many}
use Rattle.text.proofs.DroneCases.{stops_over_lem, stops_in_lem, drone_same, drone_in}
use Rattle.text.proofs.TextCases.{lines_refused, lines_are}
use Rattle.copying.specs.Reckoned.{stops_reckoned, route_reckoned, routes_reckoned, lines_from, closed_by, whole_of, text_reckoned, RouteInRange, AllInRange}
use Rattle.copying.specs.Claims.{ReadAsReckoned}
use Rattle.std.specs.Prelude.{Err, Ok, Result}
use Rattle.lines.specs.declared.refusal.Refusal.{Refusal}

-- ---- one route

stops_reckoned_lem : (L : Limits) (form : ℕ) (ls ts gs text : List ℕ) (at total : ℕ) → SevenDigits L → 1 ≤ length ls → length ls ≤ L.stops → StopsInRange L form 0 ls ts gs
    → is_at text at (count_line stops_key (length ls) ++ stop_lines form ls ts gs) ≡ true → stops_read L form text at total ≡ stops_reckoned L form at total ls ts gs
unfolding stops_reckoned
stops_reckoned_lem L form ls ts gs text at total u a b r h =
    let w = stands_parts text at (count_line stops_key (length ls)) (stop_lines form ls ts gs) h in
    let c = count_back text at stops_key L.stops (length ls) a b (omega (arith, u.stops)) w.0 in
    let s = stops_back L form 0 ls ts gs text (at + length (count_line stops_key (length ls))) u r w.1 in
    let m : at + length (count_line stops_key (length ls)) + length (stop_lines form ls ts gs) ≡ at + length (count_line stops_key (length ls) ++ stop_lines form ls ts gs) = simp length-append (omega arith) in
    by_cases (ltb L.stops (total + length ls))
    (λ o. stops_over_lem L form text at total _ refl (length ls) (at + length (count_line stops_key (length ls))) c (omega (arith, b, ltb-true L.stops (total + length ls) o)) ∙ rw o refl)
    (λ o. stops_in_lem L form text at total _ refl (length ls) (at + length (count_line stops_key (length ls))) c (ltb-false L.stops (total + length ls) o) ∙ rw (s, m, o) refl)

pub route_reckoned_lem : (L : Limits) (form : ℕ) (d : Route) (text : List ℕ) (at total : ℕ) (taken : List ℕ → Bool) → SevenDigits L → RouteInRange L form (small_named d) → is_at text at (route_line form d) ≡ true
    → drone_at L form text at total taken ≡ route_reckoned L form at total taken (small_named d)
unfolding route_reckoned
route_reckoned_lem L form d text at total taken u v h =
    let rest : List ℕ = count_line stops_key (length d.locations) ++ stop_lines form d.locations d.times d.legs in
    let w = stands_parts text at (name_line d.name) rest h in
    let n = name_back L text at d.name (text_name_lem L d.name ∙ v.0) w.0 in
    let p : at + length (name_line d.name) ≡ at + 5 + length d.name + 1 = simp length-append (omega arith) in
    let q : at + 5 + length d.name + 1 ≡ at + length (name_line (small_form d.name)) = simp length-append (omega (arith, small-length d.name)) in
    let s = stops_reckoned_lem L form d.locations d.times d.legs text (at + 5 + length d.name + 1) total u v.1 v.2 v.3 (rw p at w.1) in
    by_cases (taken (row_of L (small_form d.name)))
    (λ e. drone_same L form text at total taken _ refl (at + 5) (at + 5 + length d.name) (row_of L (small_form d.name)) n.0 (rw n.1) e ∙ rw e refl)
    (λ e. drone_in L form text at total taken _ refl (at + 5) (at + 5 + length d.name) (row_of L (small_form d.name)) n.0 (rw n.1) e ∙ rw (e, s, q) refl)

-- ---- routes one after another

pub routes_reckoned_lem : (L : Limits) (form : ℕ) (ds : List Route) (text : List ℕ) (at : ℕ) (earlier : List (List ℕ)) (total : ℕ) → SevenDigits L → AllInRange L form (small_names ds) → is_at text at (route_lines form ds) ≡ true
    → drones_at L form (length ds) text at earlier total ≡ routes_reckoned L form at earlier total (small_names ds)
unfolding drones_at routes_reckoned route_reckoned stops_reckoned route_lines
routes_reckoned_lem L form [] text at earlier total u v h = refl
routes_reckoned_lem L form (d ∷ ds) text at earlier total u v h =
    let row : List ℕ = row_of L (small_form d.name) in
    let w = stands_parts text at (route_line form d) (route_lines form ds) h in
    let f = route_reckoned_lem L form d text at total (elem earlier) u v.0 w.0 in
    let e : ℕ = at + length (name_line (small_form d.name)) + length (count_line stops_key (length d.locations) ++ stop_lines form d.locations d.times d.legs) in
    let m : at + length (route_line form d) ≡ e = simp length-append (omega (arith, small-length d.name)) in
    let ih = routes_reckoned_lem L form ds text e (earlier ++ row ∷ []) (total + length d.locations) u v.1 (rw m at w.1) in
    by_cases (elem earlier row)
    (λ t. rw (f, t) refl)
    (λ t. by_cases (ltb L.stops (total + length d.locations)) (λ o. rw (f, t, o) refl) (λ o. rw (f, t, o, ih) refl))

-- where the lines of routes end, if none is at fault
abbrev After : ℕ → Result DroneLines Refusal → Type 0
After e (Ok lines) = lines.next ≡ e
After e (Err r) = Unit {0}

after_routes : (L : Limits) (form : ℕ) (ds : List Route) (at : ℕ) (earlier : List (List ℕ)) (total : ℕ) → After (at + length (route_lines form ds)) (routes_reckoned L form at earlier total ds).answer
unfolding routes_reckoned route_reckoned stops_reckoned route_lines
after_routes L form [] at earlier total = omega arith
after_routes L form (d ∷ ds) at earlier total =
    let e : ℕ = at + length (name_line d.name) + length (count_line stops_key (length d.locations) ++ stop_lines form d.locations d.times d.legs) in
    let m : e + length (route_lines form ds) ≡ at + length (route_line form d ++ route_lines form ds) = simp length-append (omega arith) in
    let ih = after_routes L form ds e (earlier ++ row_of L d.name ∷ []) (total + length d.locations) in
    by_cases (elem earlier (row_of L d.name))
    (λ t. rw t tt)
    (λ t. by_cases (ltb L.stops (total + length d.locations)) (λ o. rw (t, o) tt) (λ o. rw (t, o) (rw m at ih)))

-- ---- the whole text

-- where the last line follows the routes, nothing is at fault but a route
end_closed : (text : List ℕ) (n e : ℕ) (r : Result DroneLines Refusal) → After e r → is_at text e last_line ≡ true → e + 9 ≡ length text → ending text n r ≡ closed_by n r
end_closed text n e (Err x) a k l = refl
end_closed text n e (Ok lines) a k l = rw (a, k, eq-eqb _ _ l) refl

lines_small : (form : ℕ) (ds : List Route) → length (route_lines form (small_names ds)) ≡ length (route_lines form ds)
unfolding route_lines
lines_small form [] = refl
lines_small form (d ∷ ds) = simp length-append (omega (arith, small-length d.name, lines_small form ds))

whole_same : (form : ℕ) (text : List ℕ) (n : ℕ) (f g : LinesRead (Result DroneLines Refusal)) → f ≡ g → ending text n g.answer ≡ closed_by n g.answer → finish form text n f ≡ whole_of form n g
whole_same form text n f g e h = rw (e, h) refl

lines_reckoned : (L : Limits) (form : ℕ) (ds : List Route) (text C : List ℕ) → SevenDigits L → 1 ≤ form → form ≤ L.form → C ≡ count_line agents_key (length ds) → 1 ≤ length ds → length ds < 10 ^ 7 → AllInRange L form (small_names ds) → is_at text 0 (first_line form) ≡ true → is_at text 7 C ≡ true
    → is_at text (7 + length C) (route_lines form ds) ≡ true → is_at text (7 + length C + length (route_lines form ds)) last_line ≡ true → 7 + length C + length (route_lines form ds) + 9 ≡ length text
    → lines_at L text ≡ text_reckoned L form (small_names ds)
unfolding lines_at text_reckoned lines_from is_digit
lines_reckoned L form ds text C u low high q some few v k c r e l =
    let m = names_many ds in
    let g = routes_reckoned_lem L form ds text (7 + length C) [] 0 u v r in
    let a = after_routes L form (small_names ds) (7 + length C) [] 0 in
    let z : 7 + length C + length (route_lines form (small_names ds)) ≡ 7 + length C + length (route_lines form ds) = omega (arith, lines_small form ds) in
    let h = end_closed text (length ds) (7 + length C + length (route_lines form ds)) (routes_reckoned L form (7 + length C) [] 0 (small_names ds)).answer (rw z at a) e l in
    let f = form_back L text form low (omega (arith, high, u.form)) high k in
    let known : form ≡ 0 → ⊥ = λ x. omega (arith, x, low) in
    by_cases (leb (length ds) L.drones)
    (λ o.
    let n : count_at text 7 agents_key L.drones ≡ count_read (length ds) (7 + length C) = count_back text 7 agents_key L.drones (length ds) some (leb-true (length ds) L.drones o) few (rw q at c) ∙ rw q refl in
    ap (λ (x : ℕ). lines_of_form L x text) f ∙ lines_are L form text known _ refl (length ds) (7 + length C) n ∙ (whole_same form text (length ds) _ _ g h ∙ rw (m, o, q) refl))
    (λ o.
    let w = stands_parts text 7 agents_key (field (length ds) 10) (rw q at c) in
    let b = field_back text 14 10 (length ds) refl few w.1 in
    let n : count_at text 7 agents_key L.drones ≡ Err (Range 7) = count_high text 7 agents_key L.drones w.0 _ refl (length ds) _ b (λ (y : length ds ≡ 0). omega (arith, some, y)) (leb-false (length ds) L.drones o) in
    ap (λ (x : ℕ). lines_of_form L x text) f ∙ lines_refused L form text known _ refl (Range 7) n ∙ rw (m, o) refl)

-- the law
pub read_as_reckoned : (L : Limits) → SevenDigits L → ReadAsReckoned L
read_as_reckoned L u form ds low high some few v = go (routes_text form ds) (count_line agents_key (length ds)) refl refl
  where
    go : (text C : List ℕ) → text ≡ first_line form ++ C ++ route_lines form ds ++ last_line → C ≡ count_line agents_key (length ds) → lines_at L text ≡ text_reckoned L form (small_names ds)
    go text C t q =
        let i : is_at text 0 text ≡ true = rw take-length at (part_at text 0 (length text) (omega arith)) in
        let j : is_at text 0 (first_line form ++ C ++ route_lines form ds ++ last_line) ≡ true = ap (is_at text 0) (sym t) ∙ i in
        let w = stands_parts text 0 (first_line form ++ C ++ route_lines form ds) last_line j in
        let y = stands_parts text 0 (first_line form ++ C) (route_lines form ds) w.0 in
        let k = stands_parts text 0 (first_line form) C y.0 in
        let m : 0 + length (first_line form ++ C) ≡ 7 + length C = simp length-append (omega arith) in
        let o : 0 + length (first_line form ++ C ++ route_lines form ds) ≡ 7 + length C + length (route_lines form ds) = simp length-append (omega arith) in
        let l : 7 + length C + length (route_lines form ds) + 9 ≡ length text = rw t (simp length-append (omega arith)) in
        lines_reckoned L form ds text C u low high q some few v k.0 k.1 (rw m at y.1) (rw o at w.1) l
