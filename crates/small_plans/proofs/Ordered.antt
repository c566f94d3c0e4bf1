-- The list rises strictly, by one test that is computed over all its pairs of plans; and no plan is before itself.
use mathlib.Core.Path.{◌≡◌, refl, sym, ap, ◌∙◌, subst}
use mathlib.Core.Bool.{Bool, true, false, ◌&&◌, ◌||◌}
use mathlib.Core.List.{List, [], ◌∷◌}
use Prim.Native.Nat.{ℕ, zero, suc, ◌<◌}
use native.Mathlib.Omega.{arith}
use lib.Dec.{ltb, eqb}
use lib.ListN.{length, get_or}
use borrow.Author.Tests.{le-ltb, ltb-true, ltb-false}
use Rattle.text.specs.LinesRead.{same}
use Rattle.below.proofs.Tests.{by_cases, and_left, and_right, true_or_false}
use Rattle.small_plans.specs.Routes.{SmallRoute, route_with, route_length, lower_list, route_before, same_route}
use Rattle.small_plans.specs.Plans.{SmallPlan, plan_with, small_plans, plan_at, plan_before}
use Rattle.small_plans.specs.Check.{stop_count}
use Rattle.small_plans.proofs.Listed.{firsts, seconds, places, moments, table_route, listed, plans_listed}

-- ---- rising

unfoldable ahead_of : SmallPlan → List SmallPlan → Bool
ahead_of p [] = true
ahead_of p (q ∷ l) = plan_before p q && ahead_of p l

unfoldable rises : List SmallPlan → Bool
rises [] = true
rises (p ∷ l) = ahead_of p l && rises l

ahead_at : (p : SmallPlan) (l : List SmallPlan) → ahead_of p l ≡ true → (d : SmallPlan) (k : ℕ) → k < length l → plan_before p (get_or l k d) ≡ true
unfolding ahead_of
ahead_at p [] h d k a = absurd (omega arith)
ahead_at p (q ∷ l) h d zero a = and_left _ _ h
ahead_at p (q ∷ l) h d (suc k) a = ahead_at p l (and_right (plan_before p q) _ h) d k (omega arith)

rises-at : (l : List SmallPlan) → rises l ≡ true → (d : SmallPlan) (i j : ℕ) → i < j → j < length l → plan_before (get_or l i d) (get_or l j d) ≡ true
unfolding rises
rises-at [] h d i j a b = absurd (omega arith)
rises-at (p ∷ l) h d i zero a b = absurd (omega arith)
rises-at (p ∷ l) h d zero (suc j) a b = ahead_at p l (and_left _ _ h) d j (omega arith)
rises-at (p ∷ l) h d (suc i) (suc j) a b = rises-at l (and_right (ahead_of p l) _ h) d i j (omega arith) (omega arith)

listed-rises : rises (listed firsts seconds) ≡ true
unfolding rises ahead_of plan_before route_before same_route lower_list same listed table_route stop_count places moments firsts seconds
listed-rises = refl

pub plans_rise : (i j : ℕ) → i < j → j < length small_plans → plan_before (plan_at i) (plan_at j) ≡ true
plans_rise = rises-at small_plans (ap rises plans_listed ∙ listed-rises) (plan_with (route_with [] []) (route_with [] []))

-- ---- each once

nor : (a b c : Bool) → a ≡ false → c ≡ false → a || (b && c) ≡ false
nor a true c e f = rw (e, f) refl
nor a false c e f = rw e refl

not_lower : (l : List ℕ) → lower_list l l ≡ false
unfolding lower_list
not_lower [] = refl
not_lower (a ∷ l) = nor (ltb a a) (eqb a a) (lower_list l l) (le-ltb a a (omega arith)) (not_lower l)

not-before : (x : SmallRoute) → route_before x x ≡ false
unfolding route_before
not-before x =
    nor (ltb (route_length x) (route_length x)) (eqb (route_length x) (route_length x)) _ (le-ltb (route_length x) (route_length x) (omega arith))
    (nor _ (same x.locations x.locations) _ (not_lower x.locations) (not_lower x.times))

pub not_itself : (p : SmallPlan) → plan_before p p ≡ false
unfolding plan_before
not_itself p = nor _ (same_route p.first p.first) _ (not-before p.first) (not-before p.second)

once_less : (i j : ℕ) → i < j → j < length small_plans → plan_at i ≡ plan_at j → ⊥
once_less i j a b e = true_or_false (subst (λ (p : SmallPlan). plan_before p (plan_at j) ≡ true) e (plans_rise i j a b)) (not_itself (plan_at j))

pub plan_once : (i j : ℕ) → i < length small_plans → j < length small_plans → plan_at i ≡ plan_at j → i ≡ j
plan_once i j a b e = by_cases (ltb i j)
    (λ h. absurd (once_less i j (ltb-true i j h) b e))
    (λ h. by_cases (ltb j i)
    (λ k. absurd (once_less j i (ltb-true j i k) a (sym e)))
    (λ k. omega (arith, ltb-false i j h, ltb-false j i k)))
