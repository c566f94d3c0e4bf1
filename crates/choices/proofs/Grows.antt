-- A part-made choice's plan has fewer waits than a longer one's: so its graph has no cycle that the longer one's has not, and it costs no more.
-- Assumes nothing.
use mathlib.Core.Path.{◌≡◌, refl, sym, ap}
use mathlib.Core.Logic.{◌⊎◌, inl, inr}
use mathlib.Core.Bool.{Bool, true, false, cond}
use mathlib.Core.List.{List, [], ◌∷◌, ◌++◌}
use Prim.Native.Nat.{ℕ, zero, suc, ◌≤◌, ◌<◌}
use native.Mathlib.Omega.{arith}
use lib.ListN.{length}
use Rattle.below.specs.Below.{count_below}
use Rattle.below.proofs.Count.{count_past}
use Rattle.below.proofs.Sum.{sum_mono}
use Rattle.below.proofs.Tests.{by_cases, true_or_false}
use Rattle.precedence.specs.Graph.{Wait, Plan, FormedWait, Formed, cyclic, Cycle, Kept, remaining, cost, NoEmptyLeg, Fewer}
use Rattle.precedence.proofs.Ahead.{cyclic_fewer}
use Rattle.precedence.proofs.Theorems.{fewer_waits, cyclic_is_cycle}
use Rattle.choices.specs.Claims.{all_left}
use Rattle.choices.specs.Directions.{Direction, as_it_is, turned, left_out, in_direction, directed, decided_at, direction_of, open_count, choice_plan, choice_cyclic, choice_cost, FormedBoth, PartMadeFewer, ChoicesGrow, LeavingAll, BestOfChoices, TurnedUnentered, ChoicesKept, is_turned, TurnedPlan}
use Rattle.choices.proofs.Claims.{search_is_right}

decided_more : (xs ys : List Bool) (i : ℕ) → (decided_at xs i ≡ left_out) ⊎ (decided_at xs i ≡ decided_at (xs ++ ys) i)
unfolding decided_at
decided_more [] ys i = inl refl
decided_more (b ∷ xs) ys zero = inr refl
decided_more (b ∷ xs) ys (suc i) = decided_more xs ys i

decided_left : (k i : ℕ) → i < k → decided_at (all_left k) i ≡ as_it_is
unfolding decided_at
decided_left zero i h = absurd (omega arith)
decided_left (suc k) zero h = refl
decided_left (suc k) (suc i) h = decided_left k i (omega arith)

pub acyclic_of : (P : Plan) → Formed P → cyclic P ≡ false → Cycle P → ⊥
acyclic_of P formed e c = true_or_false ((cyclic_is_cycle P formed).1 c) e

module _ (P : Plan) (other : ℕ → Wait) where
  -- where each wait is left out or has the same direction, there are fewer
  pub directed_fewer : (to at : ℕ → Direction) → ((w : ℕ) → (to w ≡ left_out) ⊎ (to w ≡ at w)) → Fewer (directed P other at) (directed P other to)
  directed_fewer to at h = record { drones_same = refl; last_same = λ d. refl; waits_in = λ w l. go w l (h w) }
    where
      go : (w : ℕ) → w < P.count → (to w ≡ left_out) ⊎ (to w ≡ at w) → ((in_direction (to w) (P.wait w) (other w)).until ≡ 0) ⊎ ((x : ℕ) × (x < P.count) × (in_direction (at x) (P.wait x) (other x) ≡ in_direction (to w) (P.wait w) (other w)))
      go w l (inl e) = inl (rw e refl)
      go w l (inr e) = inr (w, l, rw e refl)

  module _ (open-one : ℕ → Bool) where
    direction_more : (xs ys : List Bool) (w : ℕ) → (direction_of open-one xs w ≡ left_out) ⊎ (direction_of open-one xs w ≡ direction_of open-one (xs ++ ys) w)
    unfolding direction_of
    direction_more xs ys w = go (open-one w) (decided_more xs ys (count_below w open-one))
      where
        go : (b : Bool) {a c : Direction} → (a ≡ left_out) ⊎ (a ≡ c) → (cond b a as_it_is ≡ left_out) ⊎ (cond b a as_it_is ≡ cond b c as_it_is)
        go true h = h
        go false h = inr refl

    pub part-made_fewer : PartMadeFewer P other open-one
    part-made_fewer xs ys = directed_fewer (direction_of open-one xs) (direction_of open-one (xs ++ ys)) (direction_more xs ys)

    module _ (both : FormedBoth P other open-one) where
      -- a wait of P is one of the choice's plan, which has the same drones and stops
      formed-here : (xs : List Bool) (w : Wait) → FormedWait P w → FormedWait (choice_plan P other open-one xs) w
      formed-here xs w f = record { waiter_in = f.waiter_in; stop_pos = f.stop_pos; stop_in = f.stop_in; awaited_in = f.awaited_in; until_in = f.until_in }

      formed_in : (xs : List Bool) (w : ℕ) → w < P.count → (b : Bool) → open-one w ≡ b → (a : Direction) → FormedWait (choice_plan P other open-one xs) (in_direction (cond b a as_it_is) (P.wait w) (other w))
      formed_in xs w l false e a = formed-here xs (P.wait w) (both.formed w l)
      formed_in xs w l true e as_it_is = formed-here xs (P.wait w) (both.formed w l)
      formed_in xs w l true e turned = formed-here xs (other w) (both.formed_other w l e)
      formed_in xs w l true e left_out = let f : FormedWait P (P.wait w) = both.formed w l in record { waiter_in = f.waiter_in; stop_pos = f.stop_pos; stop_in = f.stop_in; awaited_in = f.awaited_in; until_in = omega arith }

      pub plan_formed : (xs : List Bool) → Formed (choice_plan P other open-one xs)
      unfolding direction_of
      plan_formed xs w l = formed_in xs w l (open-one w) refl (decided_at xs (count_below w open-one))

      cyclic_back : (xs ys : List Bool) → choice_cyclic P other open-one (xs ++ ys) ≡ false → choice_cyclic P other open-one xs ≡ false
      cyclic_back xs ys e = cyclic_fewer (choice_plan P other open-one (xs ++ ys)) (choice_plan P other open-one xs) (plan_formed (xs ++ ys)) (part-made_fewer xs ys) e

      cost_back : (leg : ℕ → ℕ → ℕ) (p : ℕ → ℕ) → NoEmptyLeg P leg p → (xs ys : List Bool) → choice_cyclic P other open-one (xs ++ ys) ≡ false → choice_cost P other open-one leg p xs ≤ choice_cost P other open-one leg p (xs ++ ys)
      unfolding cost
      cost_back leg p some xs ys e = sum_mono P.drones (remaining (choice_plan P other open-one xs) leg p) (remaining (choice_plan P other open-one (xs ++ ys)) leg p)
          (fewer_waits (choice_plan P other open-one (xs ++ ys)) (choice_plan P other open-one xs) leg (plan_formed (xs ++ ys)) (plan_formed xs) (part-made_fewer xs ys) (acyclic_of (choice_plan P other open-one (xs ++ ys)) (plan_formed (xs ++ ys)) e) p p some (λ d l. omega arith)).1

    pub choices_grow : ChoicesGrow P other open-one
    choices_grow both leg p some = record {
      cyclic_stays = λ xs ys e. by_cases (choice_cyclic P other open-one (xs ++ ys)) (λ c. c) (λ c. true_or_false e (cyclic_back both xs ys c));
      cost_grows = cost_back both leg p some;
    }

    direction_left : (w : ℕ) → w < P.count → direction_of open-one (all_left (open_count P other open-one)) w ≡ as_it_is
    unfolding direction_of
    direction_left w l = by_cases (open-one w)
        (λ e. rw e (decided_left (open_count P other open-one) (count_below w open-one) (count_past w P.count open-one l e)))
        (λ e. rw e refl)

    left_fewer : Fewer P (choice_plan P other open-one (all_left (open_count P other open-one)))
    left_fewer = record { drones_same = refl; last_same = λ d. refl; waits_in = λ w l. inr (w, l, ap (λ (a : Direction). in_direction a (P.wait w) (other w)) (sym (direction_left w l))) }

    pub leaving_all : LeavingAll P other open-one
    leaving_all formed e = cyclic_fewer P (choice_plan P other open-one (all_left (open_count P other open-one))) formed left_fewer e

    pub best_order_lem : BestOfChoices P other open-one
    best_order_lem both e leg p some budget = search_is_right (choice_cyclic P other open-one) (choice_cost P other open-one leg p) (choices_grow both leg p some) budget (open_count P other open-one) (leaving_all both.formed e)

    -- ---- what is visited
    kept_in : (p : ℕ → ℕ) → Kept P p → TurnedUnentered P other open-one p → (w : ℕ) → w < P.count → (b : Bool) → open-one w ≡ b → (a : Direction) → (in_direction (cond b a as_it_is) (P.wait w) (other w)).stop ≤ p (in_direction (cond b a as_it_is) (P.wait w) (other w)).waiter → (in_direction (cond b a as_it_is) (P.wait w) (other w)).until ≤ p (in_direction (cond b a as_it_is) (P.wait w) (other w)).awaited
    kept_in p kept un w l false e a h = kept w l h
    kept_in p kept un w l true e as_it_is h = kept w l h
    kept_in p kept un w l true e turned h = absurd (omega (arith, un w l e))
    kept_in p kept un w l true e left_out h = omega arith

    pub choices_kept : ChoicesKept P other open-one
    unfolding direction_of
    choices_kept p kept un xs w l = kept_in p kept un w l (open-one w) refl (decided_at xs (count_below w open-one))

    -- ---- a finished choice leaves none out
    turned_in_lem : (xs : List Bool) (i : ℕ) → i < length xs → decided_at xs i ≡ cond (is_turned (decided_at xs i)) turned as_it_is
    unfolding decided_at
    turned_in_lem [] i h = absurd (omega arith)
    turned_in_lem (true ∷ xs) zero h = refl
    turned_in_lem (false ∷ xs) zero h = refl
    turned_in_lem (b ∷ xs) (suc i) h = turned_in_lem xs i (omega arith)

    direction_whole : (xs : List Bool) → length xs ≡ open_count P other open-one → (w : ℕ) → w < P.count → direction_of open-one xs w ≡ cond (is_turned (direction_of open-one xs w)) turned as_it_is
    unfolding direction_of
    direction_whole xs e w l = by_cases (open-one w)
        (λ o. rw o (turned_in_lem xs (count_below w open-one) (omega (arith, count_past w P.count open-one l o))))
        (λ o. rw o refl)

    pub turned_plan : TurnedPlan P other open-one
    turned_plan xs e w l = ap (λ (a : Direction). in_direction a (P.wait w) (other w)) (direction_whole xs e w l)
