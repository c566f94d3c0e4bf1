-- Texts that are taken and valid plans correspond one to one, and a plan's text has a bounded length: the claims of specs/Claims.
use Prim.Native.Nat.{ℕ, ◌+◌, ◌*◌, ◌≤◌}
use native.Mathlib.Nat.{le_trans, mul-le-mul_right, suc-mul, zero-mul}
use native.Mathlib.Omega.{arith}
use mathlib.Core.Path.{◌≡◌, refl, sym, ap, ◌∙◌, subst}
use mathlib.Core.List.{List, [], ◌∷◌, ◌++◌}
use mathlib.Core.Bool.{true}
use lib.ListN.{length, drop, take, length-append}
use lib.Seq.{take_at, drop_at}
use Rattle.tables.specs.Limits.{Limits, limits}
use Rattle.lines.specs.Numbers.{SevenDigits}
use Rattle.lines.specs.Names.{small_form, good_name, row_of, name_of}
use Rattle.lines.proofs.NumberCases.{digits-length}
use Rattle.lines.proofs.NameRoundTrip.{good_length, name_of_row}
use Rattle.text.specs.LinesRead.{LinesRead, lines_at}
use Rattle.text.specs.Written.{drone_lines, plan_text, Route, route_line, route_lines, routes_text, small_names, rows_of, counts_of, locations_of, times_of, legs_of, lines_of, InLimitsFrom, InLimits}
use Rattle.lines.proofs.NumberRoundTrip.{limits_seven}
use Rattle.text.specs.Claims.{PlanOfText, text_bound, RoundTrip}
use Rattle.text.proofs.TakenIsWritten.{TextTaken, text_taken}
use Rattle.text.proofs.WrittenIsRead.{written_read_back}
use Rattle.text.proofs.Capitals.{names_many, text_small, valid_own}
use Rattle.text.proofs.DroneTaken.{range_long}
use Rattle.text.proofs.WriteLoop.{stops_short}
use Rattle.std.specs.Prelude.{Result}
use Rattle.lines.specs.declared.refusal.Refusal.{Refusal}

-- ---- the two ways to write a valid plan agree: by drones, and by what the tables hold

same_lines : (L : Limits) (form : ℕ) (ds : List Route) (earlier : List (List ℕ)) (total : ℕ) → InLimitsFrom L form earlier total ds → drone_lines form (rows_of L ds) (counts_of ds) (locations_of ds) (times_of ds) (legs_of ds) ≡ route_lines form ds
unfolding drone_lines route_lines
same_lines L form [] earlier total v = refl
same_lines L form (d ∷ ds) earlier total v =
    let m = range_long L form 0 d.locations d.times d.legs v.4 in
    rw (
      name_of_row L d.name v.0,
      take_at d.locations (locations_of ds) (length d.locations) refl,
      take_at d.times (times_of ds) (length d.locations) m.0,
      take_at d.legs (legs_of ds) (length d.locations) m.1,
      drop_at d.locations (locations_of ds) (length d.locations) refl,
      drop_at d.times (times_of ds) (length d.locations) m.0,
      drop_at d.legs (legs_of ds) (length d.locations) m.1,
      same_lines L form ds (earlier ++ row_of L d.name ∷ []) (total + length d.locations) v.5,
    )

pub same_text : (L : Limits) (form : ℕ) (ds : List Route) → InLimits L form ds → plan_text form (length ds) (rows_of L ds) (counts_of ds) (locations_of ds) (times_of ds) (legs_of ds) ≡ routes_text form ds
same_text L form ds v = rw (same_lines L form ds [] 0 v.2)

tables_written : (L : Limits) (form : ℕ) (text : List ℕ) (n : ℕ) (w : LinesRead (Result ℕ Refusal)) (ds : List Route) → length ds ≡ n → InLimits L form ds → w ≡ lines_of L form ds → small_form text ≡ routes_text form ds
    → small_form text ≡ plan_text w.form n w.rows w.counts w.locations w.times w.legs
tables_written L form text n w ds m v r t = rw (r, ← m) (t ∙ sym (same_text L form ds v))

-- ---- a valid plan is known by what the tables hold of it

-- equal lists that begin with parts of equal length have equal parts and equal rests
split_same : (a b x y : List ℕ) → length a ≡ length b → a ++ x ≡ b ++ y → (a ≡ b) × (x ≡ y)
split_same a b x y l e = (
  sym (take_at a x (length a) refl) ∙ ap (take (length a)) e ∙ take_at b y (length a) (sym l),
  sym (drop_at a x (length a) refl) ∙ ap (drop (length a)) e ∙ drop_at b y (length a) (sym l),
)

head_same : {A : Type 0} {a b : A} {x y : List A} → a ∷ x ≡ b ∷ y → (a ≡ b) × (x ≡ y)
head_same e = (cc e, cc e)

route_same : (d e : Route) → d.name ≡ e.name → d.locations ≡ e.locations → d.times ≡ e.times → d.legs ≡ e.legs → d ≡ e
route_same d e n l t g i = record { name = n i; locations = l i; times = t i; legs = g i }

pub routes_same : (L : Limits) (f g : ℕ) (ds es : List Route) (x y : List (List ℕ)) (m n : ℕ) → InLimitsFrom L f x m ds → InLimitsFrom L g y n es → rows_of L ds ≡ rows_of L es → counts_of ds ≡ counts_of es
    → locations_of ds ≡ locations_of es → times_of ds ≡ times_of es → legs_of ds ≡ legs_of es → ds ≡ es
routes_same L f g [] [] x y m n v w r c l t k = refl
routes_same L f g [] (e ∷ es) x y m n v w r c l t k = absurd (let z : ◌≡◌ {A = ℕ} 0 1 = cc c in omega arith)
routes_same L f g (d ∷ ds) [] x y m n v w r c l t k = absurd (let z : ◌≡◌ {A = ℕ} 0 1 = cc c in omega arith)
routes_same L f g (d ∷ ds) (e ∷ es) x y m n v w r c l t k =
    let rr = head_same r in
    let cs = head_same c in
    let a = range_long L f 0 d.locations d.times d.legs v.4 in
    let b = range_long L g 0 e.locations e.times e.legs w.4 in
    let ll = split_same d.locations e.locations (locations_of ds) (locations_of es) cs.0 l in
    let tt' = split_same d.times e.times (times_of ds) (times_of es) (a.0 ∙ cs.0 ∙ sym b.0) t in
    let gg = split_same d.legs e.legs (legs_of ds) (legs_of es) (a.1 ∙ cs.0 ∙ sym b.1) k in
    let nm : d.name ≡ e.name = sym (name_of_row L d.name v.0) ∙ ap name_of rr.0 ∙ name_of_row L e.name w.0 in
    let tail = routes_same L f g ds es (x ++ row_of L d.name ∷ []) (y ++ row_of L e.name ∷ []) (m + length d.locations) (n + length e.locations) v.5 w.5 rr.1 cs.1 ll.1 tt'.1 gg.1 in
    λ i. route_same d e nm ll.0 tt'.0 gg.0 i ∷ tail i

found-same : (L : Limits) (f g : ℕ) (ds es : List Route) → InLimits L f ds → InLimits L g es → lines_of L f ds ≡ lines_of L g es → (f ≡ g) × (ds ≡ es)
found-same L f g ds es v w h = (
  ap (λ (r : LinesRead (Result ℕ Refusal)). r.form) h,
  routes_same L f g ds es [] [] 0 0 v.2 w.2 (ap (λ (r : LinesRead (Result ℕ Refusal)). r.rows) h) (ap (λ (r : LinesRead (Result ℕ Refusal)). r.counts) h) (ap (λ (r : LinesRead (Result ℕ Refusal)). r.locations) h)
      (ap (λ (r : LinesRead (Result ℕ Refusal)). r.times) h) (ap (λ (r : LinesRead (Result ℕ Refusal)). r.legs) h),
)

-- ---- the length of a text

route_short : (L : Limits) (form : ℕ) (d : Route) → good_name L d.name ≡ true → length (route_line form d) ≤ 20 + L.name + 27 * length d.locations
route_short L form d g =
    simp length-append (omega (arith, (good_length L d.name g).1, digits-length 7 (length d.locations), stops_short form d.locations d.times d.legs))

routes_short : (L : Limits) (form : ℕ) (ds : List Route) (earlier : List (List ℕ)) (total : ℕ) → InLimitsFrom L form earlier total ds → total ≤ L.stops
    → 27 * total + length (route_lines form ds) ≤ length ds * (20 + L.name) + 27 * L.stops
unfolding route_lines
routes_short L form [] earlier total v h = omega (arith, zero-mul (20 + L.name))
routes_short L form (d ∷ ds) earlier total v h =
    let ih = routes_short L form ds (earlier ++ row_of L d.name ∷ []) (total + length d.locations) v.5 v.3 in
    rw (length-append (route_line form d) (route_lines form ds), suc-mul (length ds) (20 + L.name)) (omega (arith, route_short L form d v.0, ih))

pub text_bound_lem : (L : Limits) (form : ℕ) (ds : List Route) → InLimits L form ds → length (routes_text form ds) ≤ text_bound L
text_bound_lem L form ds v =
    let r = routes_short L form ds [] 0 v.2 (omega arith) in
    simp length-append (omega (arith, r, digits-length 7 (length ds), mul-le-mul_right (20 + L.name) v.1))

-- ---- the claim

valid_read_back : (L : Limits) → SevenDigits L → (form : ℕ) (ds : List Route) → InLimits L form ds → lines_at L (routes_text form ds) ≡ lines_of L form ds
valid_read_back L u form ds v =
    let e : small_names ds ≡ ds = valid_own L form ds v in
    written_read_back L u form ds (subst (InLimits L form) (sym e) v) ∙ ap (lines_of L form) e

plan_taken : (L : Limits) (text : List ℕ) (n : ℕ) → TextTaken L text n (lines_at L text) → PlanOfText L text n
plan_taken L text n t =
    let e = t.routes_are in
    record {
      form = t.form;
      typed = t.typed;
      as_typed = t.as_typed;
      many = sym (names_many t.typed) ∙ ap length (sym e) ∙ t.many;
      in_limits = subst (InLimits L t.form) e t.in_limits;
      read = t.read ∙ ap (lines_of L t.form) e;
    }

pub round_trip : (L : Limits) → SevenDigits L → RoundTrip L
round_trip L u = record {
  written_is_read = valid_read_back L u;
  no_capitals = valid_own L;
  capitals_are_read = written_read_back L u;
  well_formed_is_written = λ text n h. let t = text_taken L text n h in plan_taken L text n t;
  names_alone = text_small;
  read_alike = λ text n h. let t = text_taken L text n h in ap (lines_at L) t.written ∙ valid_read_back L u t.form t.routes t.in_limits ∙ sym t.read;
  tables_text = λ text n h. let t = text_taken L text n h in tables_written L t.form text n _ t.routes t.many t.in_limits t.read t.written;
  one_plan = λ f g ds es v w h. found-same L f g ds es v w (sym (valid_read_back L u f ds v) ∙ ap (lines_at L) h ∙ valid_read_back L u g es w);
  one_text = λ a b n h e.
      let s = text_taken L a n h in
      let t = text_taken L b n (ap (λ (f : LinesRead (Result ℕ Refusal)). f.answer) (sym e) ∙ h) in
      let d = found-same L s.form t.form s.routes t.routes s.in_limits t.in_limits (sym s.read ∙ e ∙ t.read) in
      s.written ∙ (λ i. routes_text (d.0 i) (d.1 i)) ∙ sym t.written;
  written_bound = text_bound_lem L;
  written_short = λ room form ds v. le_trans (text_bound_lem L form ds v) room;
}

pub limits-round_trip : RoundTrip limits
limits-round_trip = round_trip limits limits_seven

-- with the product's limits no valid plan's text is too long
pub limits-room : text_bound limits ≤ limits.text
limits-room = omega arith
