-- Two plans each of which has fewer waits than the other go on alike, so that cycle and cost are the same; and what is visited in a plan without a cycle is come to by the rounds
-- of any plan that waits no longer before a visited stop. Both speak of any two plans and could stand in `precedence`. Assumes nothing.
use mathlib.Core.Path.{◌≡◌, refl, sym, ap, ◌∙◌, subst, fun_ext}
use mathlib.Core.Logic.{◌⊎◌, inl, inr}
use mathlib.Core.Bool.{true, false}
use Prim.Native.Nat.{ℕ, zero, suc, ◌≤◌, ◌<◌}
use native.Mathlib.Omega.{arith}
use lib.Dec.{ltb, leb}
use borrow.Author.Tests.{leb-true, leb-false, not-false}
use Rattle.below.specs.Below.{pick, first_below, sum_below}
use Rattle.below.proofs.Search.{first_below_ext}
use Rattle.below.proofs.Sum.{sum_ext}
use Rattle.below.proofs.Tests.{by_cases, true_or_false}
use Rattle.precedence.specs.Graph.{Wait, Plan, Headway, Formed, Kept, free, play, unvisited, fills, fly_round, fly, legs_left, reached, remaining, cost, at_start, cyclic, Ahead, Fewer}
use Rattle.precedence.proofs.Rounds.{free-unfinished, free_open, free_if, round-free, round_stays, round_le, finished-at}
use Rattle.precedence.proofs.Ahead.{free_ahead, cyclic_fewer}

module _ (P Q : Plan) (formed : Formed P) (formed' : Formed Q) (less : Fewer P Q) (more : Fewer Q P) where
  pub same-cyclic : cyclic P ≡ cyclic Q
  same-cyclic = by_cases (cyclic P)
      (λ e. by_cases (cyclic Q) (λ f. e ∙ sym f) (λ f. true_or_false e (cyclic_fewer Q P formed' more f)))
      (λ e. e ∙ sym (cyclic_fewer P Q formed less e))

  -- a wait of either keeps nobody back whom the other lets go
  same-free : (p : ℕ → ℕ) → free P p ≡ free Q p
  same-free p = fun_ext (λ d. by_cases (free P p d)
      (λ e. e ∙ sym (free_ahead P Q formed less p p (λ c l. omega arith) d refl e))
      (λ e. by_cases (free Q p d) (λ f. true_or_false (free_ahead Q P formed' more p p (λ c l. omega arith) d refl f) e) (λ f. e ∙ sym f)))

  module _ (leg : ℕ → ℕ → ℕ) (p : ℕ → ℕ) where
    same-round : (h : Headway) → fly_round P leg h ≡ fly_round Q leg h
    unfolding fly_round fills
    same-round h = rw (same-free h.place) refl

    same-fly : (k : ℕ) → fly P leg p k ≡ fly Q leg p k
    unfolding fly
    same-fly zero = refl
    same-fly (suc k) = ap (fly_round P leg) (same-fly k) ∙ same-round (fly Q leg p k)

    same_legs : legs_left P leg p ≡ legs_left Q leg p
    unfolding legs_left
    same_legs =
        sum_ext P.drones _ _ (λ d l. ap (λ (n : ℕ). sum_below (suc n) (λ s. pick (ltb (p d) s) (leg d s) 0)) (sym (less.last_same d)))
        ∙ ap (λ (n : ℕ). sum_below n (λ d. sum_below (suc (Q.last d)) (λ s. pick (ltb (p d) s) (leg d s) 0))) (sym less.drones_same)

    same-remaining : (d : ℕ) → remaining P leg p d ≡ remaining Q leg p d
    unfolding remaining reached
    same-remaining d =
        first_below_ext (legs_left P leg p) _ _ (λ k h. ap (λ (y : Headway). leb (P.last d) (y.place d)) (same-fly k) ∙ ap (λ (x : ℕ). leb x ((fly Q leg p k).place d)) (sym (less.last_same d)))
        ∙ ap (λ (n : ℕ). first_below n (λ k. leb (Q.last d) ((fly Q leg p k).place d))) same_legs

    pub same_cost : cost P leg p ≡ cost Q leg p
    unfolding cost
    same_cost = sum_ext P.drones _ _ (λ d l. same-remaining d) ∙ ap (λ (n : ℕ). sum_below n (remaining Q leg p)) (sym less.drones_same)

-- what leads into a visited stop in Q counts for nothing or is a wait of P
abbrev pub VisitedAs : Plan → Plan → (ℕ → ℕ) → Type 0
VisitedAs P Q p = (w : ℕ) → w < Q.count → (Q.wait w).stop ≤ p (Q.wait w).waiter → ((Q.wait w).until ≡ 0) ⊎ ((x : ℕ) × (x < P.count) × (P.wait x ≡ Q.wait w))

module _ (P Q : Plan) (formed : Formed P) (drones_same : Q.drones ≡ P.drones) (last_same : (d : ℕ) → Q.last d ≡ P.last d) (p : ℕ → ℕ) (kept : Kept P p) (visits : VisitedAs P Q p) where
  -- as far as P's rounds have come to visited stops, Q's have too
  Follows : ℕ → Type 0
  Follows k = (d s : ℕ) → d < P.drones → s ≤ p d → s ≤ play P at_start k d → s ≤ play Q at_start k d

  follows-free : (k : ℕ) → Follows k → (d : ℕ) → d < P.drones → suc (play P at_start k d) ≤ p d → play Q at_start k d ≡ play P at_start k d → free P (play P at_start k) d ≡ true → free Q (play Q at_start k) d ≡ true
  unfolding Follows
  follows-free k f d l v same e = free_if Q (play Q at_start k) d (omega (arith, free-unfinished P (play P at_start k) d e, last_same d)) each
    where
      each : (w : ℕ) → w < Q.count → (Q.wait w).waiter ≡ d → (Q.wait w).stop ≡ suc (play Q at_start k d) → (Q.wait w).until ≤ play Q at_start k (Q.wait w).awaited
      each w h x y = go (visits w h (let z : p (Q.wait w).waiter ≡ p d = ap p x in omega arith))
        where
          go : ((Q.wait w).until ≡ 0) ⊎ ((x : ℕ) × (x < P.count) × (P.wait x ≡ Q.wait w)) → (Q.wait w).until ≤ play Q at_start k (Q.wait w).awaited
          go (inl z) = omega arith
          go (inr (u, i, q)) =
              let waiter-is : (P.wait u).waiter ≡ d = ap (λ (z : Wait). z.waiter) q ∙ x in
              let stop_is : (P.wait u).stop ≡ suc (play P at_start k d) = ap (λ (z : Wait). z.stop) q ∙ y ∙ ap suc same in
              let met : (P.wait u).until ≤ play P at_start k (P.wait u).awaited = free_open P (play P at_start k) d e u i waiter-is stop_is in
              let seen : (P.wait u).until ≤ p (P.wait u).awaited = kept u i (let z : p (P.wait u).waiter ≡ p d = ap p waiter-is in omega arith) in
              subst (λ (z : Wait). z.until ≤ play Q at_start k z.awaited) q (f (P.wait u).awaited (P.wait u).until (formed u i).awaited_in seen met)

  follows : (k : ℕ) → Follows k
  unfolding Follows play
  follows zero d s l a b = b
  follows (suc k) d s l a b = by_cases (leb s (play P at_start k d))
      (λ e. omega (arith, follows k d s l a (leb-true s (play P at_start k d) e), round_le Q (play Q at_start k) d))
      (λ e. by_cases (free P (play P at_start k) d)
      (λ f. let next : s ≡ suc (play P at_start k d) = omega (arith, round-free P (play P at_start k) d f, leb-false s (play P at_start k d) e) in
      by_cases (leb s (play Q at_start k d))
      (λ q. omega (arith, leb-true s (play Q at_start k d) q, round_le Q (play Q at_start k) d))
      (λ q. let same : play Q at_start k d ≡ play P at_start k d = omega (arith, leb-false s (play Q at_start k d) q, follows k d (play P at_start k d) l (omega arith) (omega arith)) in
      omega (arith, round-free Q (play Q at_start k) d (follows-free k (follows k) d l (omega arith) same f))))
      (λ f. absurd (omega (arith, round_stays P (play P at_start k) d f, leb-false s (play P at_start k d) e))))

  -- the visited stops are such as Q's rounds from the first stops come to
  pub comes_to : cyclic P ≡ false → ((d : ℕ) → d < P.drones → p d ≤ P.last d) → (k : ℕ) × Ahead Q.drones p (play Q at_start k)
  unfolding cyclic Follows
  comes_to e within = (unvisited P at_start, λ d l. let h : d < P.drones = omega (arith, drones_same) in follows (unvisited P at_start) d (p d) h (omega arith) (omega (arith, within d h, finished-at P (play P at_start (unvisited P at_start)) (not-false _ e) d h)))
