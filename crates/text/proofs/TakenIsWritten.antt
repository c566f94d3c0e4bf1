-- A text that is taken is the text of a plan, which is valid and was read with its names in small letters: the routes of its drones, one after the other.
use Prim.Native.Nat.{ℕ, zero, suc, ◌+◌, ◌≤◌, ◌<◌}
use native.Mathlib.Nat.{add-zero}
use native.Mathlib.Numerals.{add-one}
use native.Mathlib.Omega.{arith}
use mathlib.Core.Path.{◌≡◌, refl, sym, ap, ◌∙◌}
use mathlib.Core.List.{List, [], ◌∷◌, ◌++◌}
use mathlib.Core.Bool.{Bool, true, false, cond}
use lib.Dec.{eqb}
use borrow.Author.Tests.{eqb-true}
use lib.ListN.{length, get_or, drop, drop_of_length-le}
use lib.Seq.{drop-cons}
use Rattle.tables.specs.Limits.{Limits}
use Rattle.lines.specs.Bytes.{byte_at, is_at}
use Rattle.lines.specs.Keys.{first_line, agents_key, last_line}
use Rattle.lines.specs.Stops.{count_at, count_line, count_read}
use Rattle.lines.specs.Names.{small_form}
use Rattle.lines.proofs.ByteLaws.{get_d_in, both, Stands, stands_join}
use Rattle.lines.specs.Forms.{form_at}
use Rattle.lines.proofs.FormLaws.{FormRead, form_some}
use Rattle.lines.proofs.StopCases.{count_range}
use Rattle.lines.proofs.StopRoundTrip.{count_stands}
use Rattle.text.specs.LinesRead.{LinesRead, nothing, drone_at, elem, joined, and_then, drones_at, ending, with_answer, agents_of, lines_of_form, lines_at, read_to}
use Rattle.text.specs.Written.{Route, route_lines, routes_text, small_names, rows_of, counts_of, locations_of, times_of, legs_of, lines_of, InLimitsFrom, InLimits}
use Rattle.text.proofs.Capitals.{names_many, text_small}
use Rattle.text.proofs.DroneTaken.{DroneTake, drone_taken}
use Rattle.text.specs.declared.reader.DroneLines.{DroneLines}
use Rattle.lines.specs.declared.refusal.Refusal.TheVariants.{Form}
use Rattle.std.specs.Prelude.{Err, Ok, Result}
use Rattle.lines.specs.declared.refusal.Refusal.{Refusal}
use Rattle.lines.specs.declared.numbers.Number.{Number}
use Rattle.text.proofs.DroneCases.{read_to_same}

-- ---- all drones

record DronesTake (L : Limits) (form : ℕ) (text : List ℕ) (at e total n : ℕ) (earlier : List (List ℕ)) (f : LinesRead (Result DroneLines Refusal)) : Type 0 where
  pub routes : List Route
  pub many : length routes ≡ n
  pub rows_are : f.rows ≡ rows_of L (small_names routes)
  pub counts_are : f.counts ≡ counts_of (small_names routes)
  pub locations_are : f.locations ≡ locations_of (small_names routes)
  pub times_are : f.times ≡ times_of (small_names routes)
  pub legs_are : f.legs ≡ legs_of (small_names routes)
  pub in_limits : InLimitsFrom L form earlier total (small_names routes)
  pub there : Stands text at (route_lines form routes) e

one_more : (L : Limits) (form n : ℕ) (text : List ℕ) (at e e' total t : ℕ) (earlier : List (List ℕ)) (f g : LinesRead (Result DroneLines Refusal)) → DroneTake L form text at e total t (elem earlier) f
    → DronesTake L form text e e' t n (earlier ++ f.rows) g → DronesTake L form text at e' total (suc n) earlier (joined f g)
unfolding route_lines
one_more L form n text at e e' total t earlier f g d s = record {
  routes = d.route ∷ s.routes;
  many = ap suc s.many;
  rows_are = rw (d.rows_are, s.rows_are);
  counts_are = rw (d.counts_are, s.counts_are);
  locations_are = rw (d.locations_are, s.locations_are);
  times_are = rw (d.times_are, s.times_are);
  legs_are = rw (d.legs_are, s.legs_are);
  in_limits = (d.good, d.new, d.some, d.within, d.range, rw (d.rows_are, d.total_is) at s.in_limits);
  there = stands_join d.there s.there;
}

drones-taken : (L : Limits) (form n : ℕ) (text : List ℕ) (at : ℕ) (earlier : List (List ℕ)) (total e t : ℕ) → (drones_at L form n text at earlier total).answer ≡ read_to e t
    → DronesTake L form text at e total n earlier (drones_at L form n text at earlier total)
unfolding drones_at route_lines is_at
drones-taken L form zero text at earlier total e t h = let p : at ≡ e = (read_to_same h).0 in record {
  routes = [];
  many = refl;
  rows_are = refl;
  counts_are = refl;
  locations_are = refl;
  times_are = refl;
  legs_are = refl;
  in_limits = tt;
  there = rw (← p) (record { there = refl; next_is = sym (add-zero at) });
}
drones-taken L form (suc n) text at earlier total e t h =
    by_answer (drone_at L form text at total (elem earlier)) (λ e' t' q. drone_taken L form text at total (elem earlier) e' t' q) (drone_at L form text at total (elem earlier)).answer refl
    (λ e' t'. drones_at L form n text e' (earlier ++ (drone_at L form text at total (elem earlier)).rows) t') h
    (λ e' t' q. drones-taken L form n text e' (earlier ++ (drone_at L form text at total (elem earlier)).rows) t' e t q)
  where
    by_answer : (f : LinesRead (Result DroneLines Refusal)) → ((e' t' : ℕ) → f.answer ≡ read_to e' t' → DroneTake L form text at e' total t' (elem earlier) f) → (r : Result DroneLines Refusal) → f.answer ≡ r → (more : ℕ → ℕ → LinesRead (Result DroneLines Refusal))
        → (and_then f r more).answer ≡ read_to e t → ((e' t' : ℕ) → (more e' t').answer ≡ read_to e t → DronesTake L form text e' e t' n (earlier ++ f.rows) (more e' t'))
        → DronesTake L form text at e total (suc n) earlier (and_then f r more)
    by_answer f d (Ok lines) q more h ih = one_more L form n text at lines.next e total lines.total earlier f (more lines.next lines.total) (d lines.next lines.total q) (ih lines.next lines.total h)
    by_answer f d (Err x) q more h ih = absurd (let z : ◌≡◌ {A = ℕ} 0 1 = cc (q, h) in omega arith)

-- ---- the whole text

-- bytes that stand from a position to the end of the text are the rest of the text
whole_from : (text : List ℕ) (p : ℕ) (x : List ℕ) → is_at text p x ≡ true → length text ≡ p + length x → drop p text ≡ x
unfolding is_at byte_at
whole_from text p [] h l = let k : length text ≤ p = omega arith in drop_of_length-le text k
whole_from text p (b ∷ x) h l =
    let w = both (eqb (get_or text p 256) b) (is_at text (p + 1) x) h in
    let i : p < length text = omega arith in
    let e : get_or text p 0 ≡ b = get_d_in text p 0 256 i ∙ eqb-true _ _ w.0 in
    rw (drop-cons text p 0 i, e, ← add-one p, whole_from text (p + 1) x w.1 (omega arith))

-- the text of a plan that was taken, where `w` is what reading gave: the plan as the text has it, and the one that was read
pub record TextTaken (L : Limits) (text : List ℕ) (n : ℕ) (w : LinesRead (Result ℕ Refusal)) : Type 0 where
  pub form : ℕ
  pub routes : List Route
  pub many : length routes ≡ n
  pub in_limits : InLimits L form routes
  pub read : w ≡ lines_of L form routes
  pub typed : List Route
  pub routes_are : routes ≡ small_names typed
  pub as_typed : text ≡ routes_text form typed
  pub written : small_form text ≡ routes_text form routes

take_end : (L : Limits) (form : ℕ) (text : List ℕ) (n v p e : ℕ) (f : LinesRead (Result DroneLines Refusal)) → FormRead L text form → count_at text 7 agents_key L.drones ≡ count_read v p → DronesTake L form text p e 0 v [] f
    → (a : Bool) → is_at text e last_line ≡ a → (b : Bool) → eqb (e + 9) (length text) ≡ b → cond a (cond b (Ok v) (Err (Form (e + 9)))) (Err (Form e)) ≡ Ok n
    → TextTaken L text n (with_answer form (cond a (cond b (Ok v) (Err (Form (e + 9)))) (Err (Form e))) f)
take_end L form text n v p e f k c s true a true b h =
    let ev : v ≡ n = cc h in
    let r = count_range text 7 agents_key L.drones v p c in
    let w : Stands text 0 (first_line form ++ count_line agents_key v ++ route_lines form s.routes ++ last_line) (e + 9) =
    stands_join (stands_join (stands_join (record { there = k.there; next_is = refl }) (count_stands text 7 agents_key L.drones v p c)) s.there) (record { there = a; next_is = refl }) in
    let l : e + 9 ≡ length text = eqb-true _ _ b in
    let m : length (small_names s.routes) ≡ v = names_many s.routes ∙ s.many in
    let typed : text ≡ routes_text form s.routes = rw s.many (whole_from text 0 (first_line form ++ count_line agents_key v ++ route_lines form s.routes ++ last_line) w.there (sym l ∙ w.next_is)) in
    record {
      form = form;
      routes = small_names s.routes;
      many = m ∙ ev;
      in_limits = (rw m r.0, rw m r.1, s.in_limits, k.some, k.known);
      read = rw (s.rows_are, s.counts_are, s.locations_are, s.times_are, s.legs_are, m);
      typed = s.routes;
      routes_are = refl;
      as_typed = typed;
      written = ap small_form typed ∙ text_small form s.routes k.most;
    }
take_end L form text n v p e f k c s true a false b h = absurd (let z : ◌≡◌ {A = ℕ} 0 1 = cc h in omega arith)
take_end L form text n v p e f k c s false a b b' h = absurd (let z : ◌≡◌ {A = ℕ} 0 1 = cc h in omega arith)

text_taken_in : (L : Limits) (form : ℕ) (text : List ℕ) (n : ℕ) → form_at L text ≡ form → (lines_of_form L form text).answer ≡ Ok n → TextTaken L text n (lines_of_form L form text)
unfolding lines_of_form
text_taken_in L form text n q h = by_form (eqb form 0) refl h
  where
    by_end : (v p : ℕ) (f : LinesRead (Result DroneLines Refusal)) → FormRead L text form → count_at text 7 agents_key L.drones ≡ count_read v p → ((e t : ℕ) → f.answer ≡ read_to e t → DronesTake L form text p e 0 v [] f)
        → (r : Result DroneLines Refusal) → f.answer ≡ r → ending text v r ≡ Ok n → TextTaken L text n (with_answer form (ending text v r) f)
    by_end v p f k c s (Err x) q h = absurd (let z : ◌≡◌ {A = ℕ} 0 1 = cc h in omega arith)
    by_end v p f k c s (Ok lines) q h = take_end L form text n v p lines.next f k c (s lines.next lines.total q) (is_at text lines.next last_line) refl (eqb (lines.next + 9) (length text)) refl h

    by_count : FormRead L text form → (c : Result Number Refusal) → count_at text 7 agents_key L.drones ≡ c → (agents_of L form text c).answer ≡ Ok n → TextTaken L text n (agents_of L form text c)
    by_count k (Err r) c h = absurd (let z : ◌≡◌ {A = ℕ} 0 1 = cc h in omega arith)
    by_count k (Ok count) c h = by_end count.value count.next (drones_at L form count.value text count.next [] 0) k c (λ e t q. drones-taken L form count.value text count.next [] 0 e t q) (drones_at L form count.value text count.next [] 0).answer refl h

    by_form : (b : Bool) → eqb form 0 ≡ b → (cond b (nothing form (Err (Form 0))) (agents_of L form text (count_at text 7 agents_key L.drones))).answer ≡ Ok n
        → TextTaken L text n (cond b (nothing form (Err (Form 0))) (agents_of L form text (count_at text 7 agents_key L.drones)))
    by_form true k h = absurd (let z : ◌≡◌ {A = ℕ} 0 1 = cc h in omega arith)
    by_form false k h = by_count (form_some L text form q k) (count_at text 7 agents_key L.drones) refl h

pub text_taken : (L : Limits) (text : List ℕ) (n : ℕ) → (lines_at L text).answer ≡ Ok n → TextTaken L text n (lines_at L text)
unfolding lines_at
text_taken L text n h = text_taken_in L (form_at L text) text n refl h
