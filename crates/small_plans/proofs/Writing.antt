-- A small plan, written piece by piece.
use mathlib.Core.Path.{◌≡◌, refl, sym, ap, ◌∙◌, subst}
use mathlib.Core.Bool.{Bool, true, false, cond}
use mathlib.Core.List.{List, [], ◌∷◌, ◌++◌, append-nil}
use Prim.Native.Nat.{ℕ, zero, suc, ◌+◌, ◌-◌, ◌*◌, ◌≤◌, ◌<◌}
use native.Mathlib.Omega.{arith}
use lib.Dec.{ltb, leb}
use lib.ListN.{length, length-append, length-take, length-drop, take, drop}
use lib.Seq.{length-take-le, take-take}
use borrow.Author.Tests.{lt-ltb, le-ltb, leb-true}
use Rattle.below.specs.Below.{all_below, list_below}
use Rattle.below.proofs.Every.{all_below-at}
use Rattle.tables.specs.Legs.{plain_leg}
use Rattle.lines.specs.Keys.{first_line, agents_key, stops_key, last_line}
use Rattle.std.specs.Prelude.{Option, Some, None, Result, Ok}
use Rattle.lines.specs.Bytes.{Put}
use Rattle.lines.specs.Numbers.{digits}
use Rattle.lines.specs.Stops.{time_end, leg_field, count_line, stop_lines}
use Rattle.lines.proofs.WriteLaws.{put_put}
use Rattle.text.specs.Written.{route_lines}
use Rattle.text.specs.TextWritten.{is_short, write_answer, buffer_after, TextWritten}
use Rattle.text.proofs.WriteWhole.{says-short, says-length}
use Rattle.small_plans.specs.declared.PlanRefusal.{PlanRefusal}
use Rattle.small_plans.specs.Routes.{SmallRoute}
use Rattle.small_plans.specs.Plans.{SmallPlan, plan_with, plan_routes, small_plan_text, small_plans, plan_at}
use Rattle.small_plans.specs.Check.{checked_route_at, stop_count}
use Rattle.small_plans.specs.Asked.{text_length, plan_refused, plan_meant, as_written, plan_answer, buffer_then, PlanGiven, stop_text}
use Rattle.small_plans.proofs.Listed.{places, moments, table_route, route_is, stops_are, plans_many}

-- ---- a route

pub count_few : (r : ℕ) → stop_count r ≤ 3
unfolding stop_count
count_few r = by (ltb r 3) (ltb r 27)
  where
    by : (a b : Bool) → cond a 1 (cond b 2 3) ≤ 3
    by true b = omega arith
    by false true = omega arith
    by false false = omega arith

-- legs of one, 0 at stop 0
pub legs_few : (c : ℕ) → c ≤ 3 → take c (0 ∷ 1 ∷ 1 ∷ []) ≡ list_below c plain_leg
unfolding list_below plain_leg
legs_few zero h = refl
legs_few (suc zero) h = refl
legs_few (suc (suc zero)) h = refl
legs_few (suc (suc (suc zero))) h = refl
legs_few (suc (suc (suc (suc c)))) h = absurd (omega arith)

-- from a route's first entry on a table has as many entries as the route has stops
pub part_room : (l : List ℕ) (r c : ℕ) → length l ≡ 297 → r < 99 → c ≡ stop_count r → 0 + c ≤ length (take (297 - 3 * r) (drop (3 * r) l))
part_room l r c long h e = omega (arith, e, count_few r, length-take (297 - 3 * r) (drop (3 * r) l), length-drop (3 * r) l)

-- the lines of its stops, as the tables hold them from the route's first entry on
pub route_put : (name : List ℕ) (r c : ℕ) → r < 99 → c ≡ stop_count r → {b b₁ b₂ : List ℕ} {i n₁ n₂ : ℕ} → Put b i name b₁ n₁
    → Put b₁ n₁ (count_line stops_key c ++ stop_lines 1 (take c (take (297 - 3 * r) (drop (3 * r) places))) (take c (take (297 - 3 * r) (drop (3 * r) moments))) (take c (0 ∷ 1 ∷ 1 ∷ []))) b₂ n₂ → Put b i (name ++ stop_text (checked_route_at r)) b₂ n₂
unfolding table_route
route_put name r c h e {b} {b₁} {b₂} {i} {n₁} {n₂} p q =
    let few : c ≤ 3 = omega (arith, e, count_few r) in
    let room : c ≤ 297 - 3 * r = omega arith in
    put_put p (subst (λ (x : SmallRoute). Put b₁ n₁ (stop_text x) b₂ n₂) (sym (route_is r h))
    (rw (stops_are r h, ← e, ← legs_few c few) (rw (take-take c (297 - 3 * r) (drop (3 * r) places) room, take-take c (297 - 3 * r) (drop (3 * r) moments) room) at q)))

short_lines : all_below 99 (λ r. leb (length (stop_text (table_route r))) 60) ≡ true
unfolding all_below list_below plain_leg table_route stop_count places moments stop_lines time_end leg_field digits
short_lines = refl

pub route_near : (name : List ℕ) (r : ℕ) → length name ≡ 7 → r < 99 → {b b' : List ℕ} {i next : ℕ} → Put b i (name ++ stop_text (checked_route_at r)) b' next → next ≤ i + 67
route_near name r long h p =
    let e : length (stop_text (checked_route_at r)) ≡ length (stop_text (table_route r)) = ap (λ (x : SmallRoute). length (stop_text x)) (route_is r h) in
    let s : length (stop_text (table_route r)) ≤ 60 = leb-true (length (stop_text (table_route r))) 60 (all_below-at 99 _ short_lines r h) in
    omega (arith, p.next_is, length-append name (stop_text (checked_route_at r)), long, e, s)

-- ---- the whole text

abbrev pub name_a : List ℕ
name_a = 110 ∷ 97 ∷ 109 ∷ 101 ∷ 61 ∷ 97 ∷ 10 ∷ []

abbrev pub name_b : List ℕ
name_b = 110 ∷ 97 ∷ 109 ∷ 101 ∷ 61 ∷ 98 ∷ 10 ∷ []

lines_are : (x y : SmallRoute) → (name_a ++ stop_text x) ++ (name_b ++ stop_text y) ≡ route_lines 1 (plan_routes (plan_with x y))
unfolding route_lines
lines_are x y = ap (λ (l : List ℕ). (name_a ++ stop_text x) ++ l) (sym (append-nil (name_b ++ stop_text y)))

pub plan_put : (x y : SmallRoute) {b b₁ b₂ b₃ b₄ b₅ : List ℕ} {n₁ n₂ n₃ n₄ r : ℕ} → Put b 0 (first_line 1) b₁ n₁ → Put b₁ n₁ (count_line agents_key 2) b₂ n₂
    → Put b₂ n₂ (name_a ++ stop_text x) b₃ n₃ → Put b₃ n₃ (name_b ++ stop_text y) b₄ n₄ → Put b₄ n₄ last_line b₅ r → Put b 0 (small_plan_text (plan_with x y)) b₅ r
unfolding small_plan_text
plan_put x y {b} {b₁} {b₂} {b₃} {b₄} {b₅} {n₁} {n₂} {n₃} {n₄} {r} head agents one two end =
    let lines : Put b₂ n₂ (route_lines 1 (plan_routes (plan_with x y))) b₄ n₄ = subst (λ (l : List ℕ). Put b₂ n₂ l b₄ n₄) (lines_are x y) (put_put one two) in
    put_put (put_put (put_put head agents) lines) end

-- ---- the answer

pub no_such : (k : ℕ) (b : List ℕ) → 378 ≤ k → PlanGiven k b b (plan_refused 15)
unfolding plan_answer buffer_then
no_such k b h = let e = le-ltb k 378 h in record { answer_is = rw (plans_many, e) refl; buffer_is = rw (plans_many, e) refl }

given : (k : ℕ) (b after : List ℕ) (w : Option ℕ) → k < 378 → TextWritten (small_plan_text (plan_at k)) b after w → PlanGiven k b after (as_written w)
unfolding plan_answer buffer_then
given k b after w h t = let e = lt-ltb k 378 h in record { answer_is = rw (plans_many, e) (ap as_written t.answer_is); buffer_is = rw (plans_many, e) t.buffer_is }

plan_text_lem : (p : SmallPlan) (x y : SmallRoute) → p.first ≡ x → p.second ≡ y → small_plan_text (plan_with x y) ≡ small_plan_text p
plan_text_lem p x y a b = rw (← a, ← b) refl

module _ (k f s : ℕ) (h : k < 378) (first : (plan_at k).first ≡ checked_route_at f) (second : (plan_at k).second ≡ checked_route_at s) {ys : List ℕ} {n : ℕ} (b : List ℕ) (p : Put [] 0 (small_plan_text (plan_with (checked_route_at f) (checked_route_at s))) ys n) where
  same : small_plan_text (plan_with (checked_route_at f) (checked_route_at s)) ≡ small_plan_text (plan_at k)
  same = plan_text_lem (plan_at k) (checked_route_at f) (checked_route_at s) first second

  pub gives_short : length (ys ++ b) < n → PlanGiven k b (ys ++ b) (plan_refused 42)
  gives_short l = given k b (ys ++ b) None h (subst (λ (t : List ℕ). TextWritten t b (ys ++ b) None) same (says-short b p l))

  pub gives_length : n ≤ length (ys ++ b) → {after : List ℕ} {r : ℕ} → Put (ys ++ b) 0 (small_plan_text (plan_with (checked_route_at f) (checked_route_at s))) after r → PlanGiven k b after (text_length n)
  gives_length l {after} q = given k b after (Some n) h (subst (λ (t : List ℕ). TextWritten t b after (Some n)) same (says-length b p l q))

-- a length that is answered is that of the buffer's first part, which holds the text
pub given-fits : (k : ℕ) (b after : List ℕ) (r : Result ℕ PlanRefusal) (n : ℕ) → PlanGiven k b after (plan_meant r) → r ≡ Ok n → n ≤ length after
unfolding plan_answer buffer_then write_answer buffer_after is_short
given-fits k b after r n g e = by_test (small_plan_text (plan_at k)) (ltb k (length small_plans)) (ltb (length b) (length (small_plan_text (plan_at k)))) (sym (ap plan_meant e) ∙ g.answer_is) g.buffer_is
  where
    by_test : (t : List ℕ) (a s : Bool) → text_length n ≡ cond a (as_written (cond s None (Some (length t)))) (plan_refused 15) → after ≡ cond a (cond s b (t ++ drop (length t) b)) b → n ≤ length after
    by_test t true true h q = absurd (let z : ◌≡◌ {A = ℕ} 0 1 = cc h in omega arith)
    by_test t true false h q = let m : n ≡ length t = cc h in rw q (omega (arith, m, length-append t (drop (length t) b)))
    by_test t false s h q = absurd (let z : ◌≡◌ {A = ℕ} 0 1 = cc h in omega arith)

pub given-part : (k : ℕ) (b after : List ℕ) (r : Result ℕ PlanRefusal) (n : ℕ) → PlanGiven k b after (plan_meant r) → r ≡ Ok n → n ≡ length (take n after)
given-part k b after r n g e = sym (length-take-le n after (given-fits k b after r n g e))
