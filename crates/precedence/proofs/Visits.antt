-- When a stop is visited where every leg takes one round: the test of cycles, and that the rounds of stops rise along every edge. Assumes nothing.
use mathlib.Core.Path.{◌≡◌, refl, ap}
use mathlib.Core.Logic.{inl, inr, ◌↔◌}
use mathlib.Core.Bool.{true, false, not}
use Prim.Native.Nat.{ℕ, zero, suc, ◌≤◌, ◌<◌}
use native.Mathlib.Omega.{arith}
use lib.Dec.{ltb, leb}
use borrow.Author.Tests.{ltb-true, ltb-false, leb-true, leb-false, not-true}
use Rattle.below.proofs.Search.{first_below_first}
use Rattle.below.proofs.Tests.{by_cases, true_or_false}
use Rattle.below.specs.Below.{first_below, First}
use Rattle.precedence.proofs.Rounds.{free_open, round_stays, round_le, round-suc, finished-at, cycle_or_finish, rounds-finish}
use Rattle.precedence.specs.Graph.{Plan, Vertex, FormedWait, Formed, free, round, play, finished, unvisited, at_start, cyclic, Edge, own, dep, Walk, edge, step, Cycle, Kept}
use Rattle.precedence.specs.Graph.{Rising}

module _ (P : Plan) where
  open P use {drones, last, count, wait}

  -- ---- T4: rising times leave no cycle

  module _ {time : ℕ → ℕ → ℕ} (rising : Rising P time) where
    edge-rises : {u v : Vertex} → Edge P u v → time u.drone u.stop < time v.drone v.stop
    edge-rises (own d s l h) = rising.own_rises d s l h
    edge-rises (dep w l) = rising.wait_rises w l

    walk_rises : {u v : Vertex} → Walk P u v → time u.drone u.stop < time v.drone v.stop
    walk_rises (edge e) = edge-rises e
    walk_rises (step e a) = omega (arith, edge-rises e, walk_rises a)

    pub rising_acyclic : Cycle P → ⊥
    unfolding Cycle
    rising_acyclic (v, a) = omega (arith, walk_rises a)

  -- ---- the ends of an edge

  module _ (formed : Formed P) where
    -- an edge leads to a stop that is no stop 0
    pub entered : {u v : Vertex} → Edge P u v → (v.drone < drones) × (0 < v.stop) × (v.stop ≤ last v.drone)
    entered (own d s l h) = (l, omega arith, h)
    entered (dep w l) = let f : FormedWait P (wait w) = formed w l in (f.waiter_in, f.stop_pos, f.stop_in)

    pub left : {u v : Vertex} → Edge P u v → (u.drone < drones) × (u.stop ≤ last u.drone)
    left (own d s l h) = (l, omega arith)
    left (dep w l) = let f : FormedWait P (wait w) = formed w l in (f.awaited_in, f.until_in)

  -- ---- one round, seen from a stop

  -- a wait into a stop that is visited after a round is over before it
  pub met-round : (p : ℕ → ℕ) → Kept P p → (w : ℕ) → w < count → (wait w).stop ≤ round P p (wait w).waiter → (wait w).until ≤ p (wait w).awaited
  met-round p kept w l h = by_cases (leb (wait w).stop (p (wait w).waiter))
      (λ e. kept w l (leb-true _ _ e))
      (λ e. let o : p (wait w).waiter < (wait w).stop = leb-false _ _ e in
      by_cases (free P p (wait w).waiter)
      (λ f. free_open P p (wait w).waiter f w l refl (omega (arith, round-suc P p (wait w).waiter)))
      (λ f. absurd (omega (arith, round_stays P p (wait w).waiter f))))

  pub kept-round : (p : ℕ → ℕ) → Kept P p → Kept P (round P p)
  kept-round p kept w l h = omega (arith, met-round p kept w l h, round_le P p (wait w).awaited)

  pub kept-play : (p : ℕ → ℕ) → Kept P p → (k : ℕ) → Kept P (play P p k)
  unfolding play
  kept-play p kept zero = kept
  kept-play p kept (suc k) = kept-round (play P p k) (kept-play p kept k)

  pub kept-start : Formed P → Kept P at_start
  kept-start formed w l h = absurd (omega (arith, (formed w l).stop_pos))

  -- what a stop awaits that is visited after a round was visited before it
  pub before-round : (p : ℕ → ℕ) → Kept P p → {u v : Vertex} → Edge P u v → v.stop ≤ round P p v.drone → u.stop ≤ p u.drone
  before-round p kept (own d s l h) r = omega (arith, round-suc P p d)
  before-round p kept (dep w l) r = met-round p kept w l r

  -- ---- T3: the computed test of cycles

  module _ (formed : Formed P) where
    -- a walk's first stop is visited a round before its last
    walk_before : (p : ℕ → ℕ) → Kept P p → {u v : Vertex} → Walk P u v → (k : ℕ) → v.stop ≤ play P p (suc k) v.drone → u.stop ≤ play P p k u.drone
    unfolding play
    walk_before p kept (edge e) k h = before-round (play P p k) (kept-play p kept k) e h
    walk_before p kept (step {v = v} e a) k h = before-round (play P p k) (kept-play p kept k) e (omega (arith, walk_before p kept a k h, round_le P (play P p k) v.drone))

    pub walk_entered : {u v : Vertex} → Walk P u v → (v.drone < drones) × (0 < v.stop) × (v.stop ≤ last v.drone)
    walk_entered (edge e) = entered formed e
    walk_entered (step e a) = walk_entered a

    pub never : {v : Vertex} → Walk P v v → (k : ℕ) → play P at_start k v.drone < v.stop
    unfolding play
    never a zero = (walk_entered a).1
    never {v} a (suc k) = by_cases (ltb (play P at_start (suc k) v.drone) v.stop) (λ e. ltb-true _ _ e) (λ e. absurd (omega (arith, never a k, walk_before at_start (kept-start formed) a k (ltb-false _ _ e))))

    pub cyclic_cycle : cyclic P ≡ true → Cycle P
    unfolding cyclic
    cyclic_cycle e = elim (cycle_or_finish P formed at_start) [ inl c ↦ c | inr f ↦ true_or_false f (not-true _ e) ]

    pub cycle_cyclic : Cycle P → cyclic P ≡ true
    unfolding cyclic Cycle
    cycle_cyclic (v, a) = by_cases (finished P (play P at_start (unvisited P at_start)))
        (λ e. absurd (omega (arith, never a (unvisited P at_start), finished-at P _ e v.drone (walk_entered a).0, (walk_entered a).2)))
        (λ e. ap not e)

    pub cyclic_iff : (cyclic P ≡ true) ↔ Cycle P
    cyclic_iff = (cyclic_cycle, cycle_cyclic)

    pub acyclic_iff : (cyclic P ≡ false) ↔ (Cycle P → ⊥)
    acyclic_iff = (λ e c. true_or_false (cycle_cyclic c) e, λ n. by_cases (cyclic P) (λ e. absurd (n (cyclic_cycle e))) (λ e. e))

  -- ---- the round of a stop where every leg takes one round: along an edge to an unvisited stop it rises, so that tables are found by it

  -- the round in which the stop s of drone d is visited, 0 if it is visited at first
  unfoldable pub visit_round : (ℕ → ℕ) → ℕ → ℕ → ℕ
  visit_round p d s = first_below (unvisited P p) (λ k. leb s (play P p k d))

  -- what a free drone's next stop awaits is visited
  pub open_edge : (p : ℕ → ℕ) {u v : Vertex} → Edge P u v → free P p v.drone ≡ true → v.stop ≡ suc (p v.drone) → u.stop ≤ p u.drone
  open_edge p (own d s l h) f e = omega arith
  open_edge p (dep w l) f e = free_open P p (wait w).waiter f w l refl e

  module _ (formed : Formed P) (acyclic : Cycle P → ⊥) (p : ℕ → ℕ) where
    -- the stop is visited after its round, and not before
    visit_visited : (d s : ℕ) → d < drones → s ≤ last d → s ≤ play P p (visit_round p d s) d
    unfolding visit_round
    visit_visited d s l h = by_cases (ltb r n)
        (λ e. leb-true _ _ (first.found (ltb-true _ _ e)))
        (λ e. let q : r ≡ n = omega (arith, first.within, ltb-false r n e) in rw q (omega (arith, finished-at P _ (rounds-finish P formed acyclic p) d l)))
      where
        n : ℕ
        n = unvisited P p

        r : ℕ
        r = first_below n (λ k. leb s (play P p k d))

        first : First n (λ k. leb s (play P p k d)) r
        first = first_below_first n (λ k. leb s (play P p k d))

    visit_least : (d s k : ℕ) → k < visit_round p d s → play P p k d < s
    unfolding visit_round
    visit_least d s k h = leb-false _ _ ((first_below_first (unvisited P p) (λ k. leb s (play P p k d))).skipped k h)

    visit_le : (d s k : ℕ) → s ≤ play P p k d → visit_round p d s ≤ k
    visit_le d s k h = by_cases (ltb k (visit_round p d s)) (λ e. absurd (omega (arith, visit_least d s k (ltb-true _ _ e)))) (λ e. ltb-false _ _ e)

    pub visit_bound : (d s : ℕ) → visit_round p d s ≤ unvisited P p
    unfolding visit_round
    visit_bound d s = (first_below_first (unvisited P p) (λ k. leb s (play P p k d))).within

    -- a stop of round 0 is visited at first
    pub visit_none : (d s : ℕ) → d < drones → s ≤ last d → visit_round p d s ≤ 0 → s ≤ p d
    unfolding play
    visit_none d s l h e = let z : visit_round p d s ≡ 0 = omega arith in rw z at (visit_visited d s l h)

    -- the round in which a stop becomes visited comes after the rounds of all that it awaits
    pub visit_edge : {u v : Vertex} → Edge P u v → p v.drone < v.stop → visit_round p u.drone u.stop < visit_round p v.drone v.stop
    unfolding play
    visit_edge {u} {v} e o = go (visit_round p v.drone v.stop) refl
      where
        visited : v.stop ≤ play P p (visit_round p v.drone v.stop) v.drone
        visited = visit_visited v.drone v.stop (entered formed e).0 (entered formed e).2

        go : (r : ℕ) → visit_round p v.drone v.stop ≡ r → visit_round p u.drone u.stop < r
        go zero q = absurd (omega (arith, rw q at visited))
        go (suc k) q =
            let now : v.stop ≤ round P (play P p k) v.drone = rw q at visited in
            let late : play P p k v.drone < v.stop = visit_least v.drone v.stop k (omega arith) in
            by_cases (free P (play P p k) v.drone)
            (λ f. let s : visit_round p u.drone u.stop ≤ k = visit_le u.drone u.stop k (open_edge (play P p k) e f (omega (arith, round-suc P (play P p k) v.drone))) in omega arith)
            (λ f. absurd (omega (arith, round_stays P (play P p k) v.drone f)))
