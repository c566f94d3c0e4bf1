-- A text of a plan within raised limits, read by the lower ones: every line is as before but for the first that is over.
use Prim.Native.Nat.{ℕ, suc, ◌+◌, ◌^◌, ◌≤◌, ◌<◌}
use native.Mathlib.Nat.{add-zero}
use native.Mathlib.Omega.{arith}
use mathlib.Core.Path.{◌≡◌, refl, sym, ap, ◌∙◌, subst}
use mathlib.Core.List.{List, [], ◌∷◌, ◌++◌}
use mathlib.Core.Bool.{Bool, true, false}
use lib.Dec.{ltb}
use borrow.Author.Tests.{eq-eqb, ne_eqb, ltb-true, ltb-false}
use lib.ListN.{length, length-append}
use lib.Seq.{take-length}
use Rattle.below.proofs.Tests.{by_cases}
use Rattle.tables.specs.Limits.{Limits, Raised}
use Rattle.tables.specs.Legs.{longest_leg, leg_right}
use Rattle.lines.specs.Bytes.{is_at}
use Rattle.lines.specs.Keys.{stops_key, first_line, agents_key, last_line}
use Rattle.lines.specs.Numbers.{is_digit, field, SevenDigits}
use Rattle.lines.specs.Stops.{count_at, count_line, stop_lines, StopsInRange, count_read}
use Rattle.lines.specs.Names.{small_form, good_name, name_line, row_of}
use Rattle.lines.proofs.FormLaws.{form_back, form_over}
use Rattle.lines.proofs.ByteLaws.{stands_parts, part_at}
use Rattle.lines.proofs.Letters.{small-length, text_name_lem}
use Rattle.lines.proofs.NameRoundTrip.{name_back}
use Rattle.lines.proofs.NumberRoundTrip.{field_back}
use Rattle.lines.proofs.StopCases.{count_high}
use Rattle.lines.proofs.StopRoundTrip.{count_back}
use Rattle.lines.specs.declared.refusal.Refusal.TheVariants.{Range, TooManyStops}
use Rattle.text.specs.LinesRead.{nothing, stops_read, with_row, drone_at, elem, drones_at, ending, lines_of_form, lines_at}
use Rattle.text.specs.Written.{Route, route_line, route_lines, routes_text, small_named, small_names, rows_of, counts_of, locations_of, times_of, legs_of, lines_of, InLimitsFrom, InLimits}
use Rattle.text.proofs.Capitals.{names_many}
use Rattle.text.proofs.DroneCases.{stops_refused, stops_over_lem, drone_in}
use Rattle.text.specs.Claims.{PlanOfText}
use Rattle.text.proofs.WrittenIsRead.{drone_back}
use Rattle.text.proofs.RoundTrips.{round_trip}
use Rattle.text.specs.OverLimits.{stops_over, over_end, lines_over, LinesOfTwo}
use Rattle.std.specs.Prelude.{Err, Ok}

-- ---- what stays

pub seven_below : (L L' : Limits) → Raised L L' → SevenDigits L' → SevenDigits L
seven_below L L' R u = record {
  drones = omega (arith, R.drones, u.drones);
  stops = omega (arith, R.stops, u.stops);
  location = omega (arith, R.location, u.location);
  time = omega (arith, R.time, u.time);
  leg = omega (arith, R.leg, u.leg);
  form = omega (arith, R.form, u.form);
}

pub good_same : (L L' : Limits) → Raised L L' → (s : List ℕ) → good_name L s ≡ good_name L' s
unfolding good_name
good_same L L' R s = rw R.name refl

pub row_same : (L L' : Limits) → Raised L L' → (s : List ℕ) → row_of L s ≡ row_of L' s
row_same L L' R s = rw R.name refl

-- the ranges of a location, a time and a leg are all that a stop asks of the limits
pub range_same : (A B : Limits) → A.location ≡ B.location → A.time ≡ B.time → A.leg ≡ B.leg → (form s : ℕ) (ls ts gs : List ℕ) → StopsInRange A form s ls ts gs → StopsInRange B form s ls ts gs
unfolding leg_right longest_leg
range_same A B p q r form s [] [] [] a = tt
range_same A B p q r form s [] [] (g ∷ gs) a = absurd a
range_same A B p q r form s [] (t ∷ ts) gs a = absurd a
range_same A B p q r form s (l ∷ ls) [] gs a = absurd a
range_same A B p q r form s (l ∷ ls) (t ∷ ts) [] a = absurd a
range_same A B p q r form s (l ∷ ls) (t ∷ ts) (g ∷ gs) a = (omega (arith, p, a.0), omega (arith, q, a.1), rw r at a.2, range_same A B p q r form (suc s) ls ts gs a.3)

-- ---- a line over the limit

count_over : (text : List ℕ) (at : ℕ) (key : List ℕ) (most v : ℕ) → most < v → v < 10 ^ 7 → is_at text at (count_line key v) ≡ true → count_at text at key most ≡ Err (Range at)
unfolding is_digit
count_over text at key most v a s h =
    let w = stands_parts text at key (field v 10) h in
    count_high text at key most w.0 _ refl v _ (field_back text (at + length key) 10 v refl s w.1) (λ (z : v ≡ 0). omega arith) a

module _ (L : Limits) (form : ℕ) (d : Route) (text : List ℕ) (at total : ℕ) (taken : List ℕ → Bool) (good : good_name L (small_form d.name) ≡ true) (new : taken (row_of L (small_form d.name)) ≡ false)
    (there : is_at text at (route_line form d) ≡ true) (few : length d.locations < 10 ^ 7) where
  abbrev line : ℕ
  line = at + length (name_line d.name)

  abbrev m : ℕ
  m = length d.locations

  named : drone_at L form text at total taken ≡ with_row (row_of L (small_form d.name)) (stops_read L form text line total)
  named =
      let w = stands_parts text at (name_line d.name) (count_line stops_key m ++ stop_lines form d.locations d.times d.legs) there in
      let n = name_back L text at d.name (text_name_lem L d.name ∙ good) w.0 in
      let p : at + 5 + length d.name + 1 ≡ line = simp length-append (omega arith) in
      drone_in L form text at total taken _ refl (at + 5) (at + 5 + length d.name) (row_of L (small_form d.name)) n.0 (rw n.1) new ∙ rw p refl

  count_there : is_at text line (count_line stops_key m) ≡ true
  count_there =
      let w = stands_parts text at (name_line d.name) (count_line stops_key m ++ stop_lines form d.locations d.times d.legs) there in
      (stands_parts text line (count_line stops_key m) (stop_lines form d.locations d.times d.legs) w.1).0

  -- 4 at the line `stops=`
  one_over : L.stops < m → drone_at L form text at total taken ≡ with_row (row_of L (small_form d.name)) (nothing form (Err (Range line)))
  one_over h = named ∙ ap (with_row (row_of L (small_form d.name))) (stops_refused L form text line total _ refl (Range line) (count_over text line stops_key L.stops m h few count_there))

  -- 6 there
  sum_over : 1 ≤ m → m ≤ L.stops → L.stops < total + m → drone_at L form text at total taken ≡ with_row (row_of L (small_form d.name)) (nothing form (Err (TooManyStops line)))
  sum_over a b h =
      named
      ∙ ap (with_row (row_of L (small_form d.name))) (stops_over_lem L form text line total _ refl m (line + length (count_line stops_key m)) (count_back text line stops_key L.stops m a b few count_there) (omega (arith, h)))

-- ---- drone by drone

line_same : (d : Route) → length (name_line (small_form d.name)) ≡ length (name_line d.name)
line_same d = simp length-append (omega (arith, small-length d.name))

route_same : (form : ℕ) (d : Route) → length (route_line form (small_named d)) ≡ length (route_line form d)
route_same form d = simp length-append (omega (arith, small-length d.name))

drones-over : (L L' : Limits) → Raised L L' → (form : ℕ) → SevenDigits L' → (ds : List Route) (text : List ℕ) (at : ℕ) (earlier : List (List ℕ)) (total : ℕ) → InLimitsFrom L' form earlier total (small_names ds)
    → is_at text at (route_lines form ds) ≡ true → (drones_at L form (length ds) text at earlier total).answer ≡ stops_over L form at total (small_names ds)
unfolding drones_at route_lines stops_over
drones-over L L' R form u [] text at earlier total v h = refl
drones-over L L' R form u (d ∷ ds) text at earlier total v h =
    let w = stands_parts text at (route_line form d) (route_lines form ds) h in
    let m : ℕ = length d.locations in
    let good : good_name L (small_form d.name) ≡ true = good_same L L' R (small_form d.name) ∙ v.0 in
    let new : elem earlier (row_of L (small_form d.name)) ≡ false = ap (elem earlier) (row_same L L' R (small_form d.name)) ∙ v.1 in
    let few : m < 10 ^ 7 = omega (arith, u.stops, v.3) in
    by_cases (ltb L.stops m)
    (λ e. rw (e, line_same d, one_over L form d text at total (elem earlier) good new w.0 few (ltb-true _ _ e)) refl)
    (λ e. by_cases (ltb L.stops (total + m))
    (λ f. rw (e, f, line_same d, sum_over L form d text at total (elem earlier) good new w.0 few v.2 (ltb-false _ _ e) (ltb-true _ _ f)) refl)
    (λ f.
    let range : StopsInRange L form 0 d.locations d.times d.legs = range_same L' L (sym R.location) (sym R.time) (sym R.leg) form 0 d.locations d.times d.legs v.4 in
    let one = drone_back L form d text at total (elem earlier) (seven_below L L' R u) good new v.2 (ltb-false _ _ f) range w.0 in
    let rest : InLimitsFrom L' form (earlier ++ row_of L (small_form d.name) ∷ []) (total + m) (small_names ds) = rw (row_same L L' R (small_form d.name)) v.5 in
    let ih = drones-over L L' R form u ds text (at + length (route_line form d)) (earlier ++ row_of L (small_form d.name) ∷ []) (total + m) rest w.1 in
    rw (e, f, route_same form d, one) ih))

-- ---- the whole text

routes_length : (form : ℕ) (ds : List Route) → length (route_lines form (small_names ds)) ≡ length (route_lines form ds)
unfolding route_lines
routes_length form [] = refl
routes_length form (d ∷ ds) = length-append (route_line form (small_named d)) (route_lines form (small_names ds)) ∙ omega (arith, route_same form d, routes_length form ds, length-append (route_line form d) (route_lines form ds))

-- the last line stands after the drones' lines
end_over : (L : Limits) (form n : ℕ) (text : List ℕ) (ds : List Route) (at total : ℕ) → is_at text (at + length (route_lines form ds)) last_line ≡ true → at + length (route_lines form ds) + 9 ≡ length text
    → ending text n (stops_over L form at total ds) ≡ over_end n (stops_over L form at total ds)
unfolding stops_over route_lines
end_over L form n text [] at total h l = rw (rw add-zero at h, eq-eqb (at + 9) (length text) (omega (arith, l))) refl
end_over L form n text (d ∷ ds) at total h l =
    let e : at + length (route_line form d ++ route_lines form ds) ≡ at + length (route_line form d) + length (route_lines form ds) = simp length-append (omega arith) in
    let ih = end_over L form n text ds (at + length (route_line form d)) (total + length d.locations) (rw e at h) (omega (arith, e, l)) in
    by_cases (ltb L.stops (length d.locations))
    (λ a. rw a refl)
    (λ a. by_cases (ltb L.stops (total + length d.locations)) (λ b. rw (a, b) refl) (λ b. rw (a, b) ih))

text_over : (L L' : Limits) (form : ℕ) (ds : List Route) (text C : List ℕ) → Raised L L' → SevenDigits L' → C ≡ count_line agents_key (length ds) → InLimits L' form (small_names ds) → is_at text 0 (first_line form) ≡ true → is_at text 7 C ≡ true
    → is_at text (7 + length C) (route_lines form ds) ≡ true → is_at text (7 + length C + length (route_lines form ds)) last_line ≡ true → 7 + length C + length (route_lines form ds) + 9 ≡ length text
    → (lines_at L text).answer ≡ lines_over L form (small_names ds)
unfolding lines_at lines_of_form lines_over
text_over L L' form ds text C R u q v k c r e l =
    let m = names_many ds in
    let low : 1 ≤ length ds = omega (arith, m, v.0) in
    let few : length ds < 10 ^ 7 = omega (arith, m, v.1, u.drones) in
    let two : form ≤ 2 = omega (arith, v.4, u.form) in
    by_cases (ltb L.form form)
    (λ o. rw (o, form_over L text form v.3 two (ltb-true _ _ o) k) refl)
    (λ o.
    let f = form_back L text form v.3 two (ltb-false _ _ o) k in
    let z = ne_eqb form 0 (λ z. omega (arith, z, v.3)) in
    by_cases (ltb L.drones (length ds))
    (λ a. rw (o, f, z, m, a, count_over text 7 agents_key L.drones (length ds) (ltb-true _ _ a) few (rw q at c)) refl)
    (λ a.
    let n : count_at text 7 agents_key L.drones ≡ count_read (length ds) (7 + length C) = count_back text 7 agents_key L.drones (length ds) low (ltb-false _ _ a) few (rw q at c) ∙ rw q in
    let g = drones-over L L' R form u ds text (7 + length C) [] 0 v.2 r in
    let x = end_over L form (length ds) text (small_names ds) (7 + length C) 0 (rw (routes_length form ds) e) (omega (arith, routes_length form ds, l)) in
    rw (o, f, z, m, a, n, g) (x ∙ ap (λ (c : List ℕ). over_end (length ds) (stops_over L form (7 + length c) 0 (small_names ds))) q)))

pub lines_over_lem : (L L' : Limits) → Raised L L' → SevenDigits L' → (form : ℕ) (ds : List Route) → InLimits L' form (small_names ds) → (lines_at L (routes_text form ds)).answer ≡ lines_over L form (small_names ds)
lines_over_lem L L' R u form ds v = go (routes_text form ds) (count_line agents_key (length ds)) refl refl
  where
    go : (text C : List ℕ) → text ≡ first_line form ++ C ++ route_lines form ds ++ last_line → C ≡ count_line agents_key (length ds) → (lines_at L text).answer ≡ lines_over L form (small_names ds)
    go text C t q =
        let i : is_at text 0 text ≡ true = rw take-length at (part_at text 0 (length text) (omega arith)) in
        let j : is_at text 0 (first_line form ++ C ++ route_lines form ds ++ last_line) ≡ true = ap (is_at text 0) (sym t) ∙ i in
        let w = stands_parts text 0 (first_line form ++ C ++ route_lines form ds) last_line j in
        let y = stands_parts text 0 (first_line form ++ C) (route_lines form ds) w.0 in
        let k = stands_parts text 0 (first_line form) C y.0 in
        let m : 0 + length (first_line form ++ C) ≡ 7 + length C = simp length-append (omega arith) in
        let o : 0 + length (first_line form ++ C ++ route_lines form ds) ≡ 7 + length C + length (route_lines form ds) = simp length-append (omega arith) in
        let l : 7 + length C + length (route_lines form ds) + 9 ≡ length text = rw t (simp length-append (omega arith)) in
        text_over L L' form ds text C R u q v k.0 k.1 (rw m at y.1) (rw o at w.1) l

-- ---- a text of well-formed lines reads as before

from_raised : (L L' : Limits) → Raised L L' → (form : ℕ) (ds : List Route) (earlier : List (List ℕ)) (total : ℕ) → InLimitsFrom L form earlier total ds → InLimitsFrom L' form earlier total ds
from_raised L L' R form [] earlier total v = tt
from_raised L L' R form (d ∷ ds) earlier total v = (
  sym (good_same L L' R d.name) ∙ v.0,
  ap (elem earlier) (sym (row_same L L' R d.name)) ∙ v.1,
  v.2,
  omega (arith, R.stops, v.3),
  range_same L L' R.location R.time R.leg form 0 d.locations d.times d.legs v.4,
  from_raised L L' R form ds (earlier ++ row_of L' d.name ∷ []) (total + length d.locations) (subst (λ (r : List ℕ). InLimitsFrom L form (earlier ++ r ∷ []) (total + length d.locations) ds) (row_same L L' R d.name) v.5),
)

pub limits_raised : (L L' : Limits) → Raised L L' → (form : ℕ) (ds : List Route) → InLimits L form ds → InLimits L' form ds
limits_raised L L' R form ds v = (v.0, omega (arith, R.drones, v.1), from_raised L L' R form ds [] 0 v.2, v.3, omega (arith, R.form, v.4))

pub rows_same : (L L' : Limits) → Raised L L' → (ds : List Route) → rows_of L ds ≡ rows_of L' ds
rows_same L L' R [] = refl
rows_same L L' R (d ∷ ds) = λ i. row_same L L' R d.name i ∷ rows_same L L' R ds i

pub read_same : (L L' : Limits) → Raised L L' → (form : ℕ) (ds : List Route) → lines_of L form ds ≡ lines_of L' form ds
read_same L L' R form ds i = record { form = form; rows = rows_same L L' R ds i; counts = counts_of ds; locations = locations_of ds; times = times_of ds; legs = legs_of ds; answer = Ok (length ds) }

-- .. and a plan within the raised limits whose form, drones and stops are not over is within the lower ones
from_within : (L L' : Limits) → Raised L L' → (form : ℕ) (ds : List Route) (earlier : List (List ℕ)) (total : ℕ) → InLimitsFrom L' form earlier total ds → total + length (locations_of ds) ≤ L.stops → InLimitsFrom L form earlier total ds
from_within L L' R form [] earlier total v h = tt
from_within L L' R form (d ∷ ds) earlier total v h = let e = length-append d.locations (locations_of ds) in (
  good_same L L' R d.name ∙ v.0,
  ap (elem earlier) (row_same L L' R d.name) ∙ v.1,
  v.2,
  omega (arith, h, e),
  range_same L' L (sym R.location) (sym R.time) (sym R.leg) form 0 d.locations d.times d.legs v.4,
  from_within L L' R form ds (earlier ++ row_of L d.name ∷ []) (total + length d.locations) (subst (λ (r : List ℕ). InLimitsFrom L' form (earlier ++ r ∷ []) (total + length d.locations) ds) (sym (row_same L L' R d.name)) v.5) (omega (arith, h, e)),
)

pub limits-within : (L L' : Limits) → Raised L L' → (form : ℕ) (ds : List Route) → InLimits L' form ds → length ds ≤ L.drones → length (locations_of ds) ≤ L.stops → form ≤ L.form → InLimits L form ds
limits-within L L' R form ds v a b c = (v.0, a, from_within L L' R form ds [] 0 v.2 (omega (arith, b)), v.3, c)

-- ---- the claim

pub lines_of-two : (L L' : Limits) → Raised L L' → SevenDigits L' → LinesOfTwo L L'
lines_of-two L L' R u = record {
  as_before = λ text n h.
      let w : PlanOfText L text n = (round_trip L (seven_below L L' R u)).well_formed_is_written text n h in
      let ds : List Route = small_names w.typed in
      ap (lines_at L') w.as_typed ∙ (round_trip L' u).capitals_are_read w.form w.typed (limits_raised L L' R w.form ds w.in_limits) ∙ sym (read_same L L' R w.form ds) ∙ sym w.read;
  over = lines_over_lem L L' R u;
}
