-- The laws of rounds: who is free, what a round changes, and that rounds finish everybody where the graph has no cycle. Assumes nothing.
use mathlib.Core.Path.{◌≡◌, refl, sym, ap, subst}
use mathlib.Core.Logic.{◌⊎◌, inl, inr}
use mathlib.Core.Bool.{Bool, true, false, not, ◌&&◌}
use Prim.Native.Nat.{ℕ, zero, suc, ◌+◌, ◌-◌, ◌≤◌, ◌<◌}
use native.Mathlib.Omega.{arith}
use lib.Dec.{ltb, leb, eqb}
use borrow.Author.Tests.{ltb-true, ltb-false, leb-true, leb-false, eqb-true, lt-ltb, le-ltb, le-leb, eq-eqb, not-true, not-false}
use Rattle.below.proofs.Every.{all_below-at, all_below_all, all_below_fails}
use Rattle.below.proofs.Greatest.{pigeonhole}
use Rattle.below.proofs.Search.{first_below_first}
use Rattle.below.proofs.Sum.{sum-at, sum_less}
use Rattle.below.proofs.Tests.{by_cases, below_cases, true_or_false, and_left, and_right, and_both}
use Rattle.below.specs.Below.{first_below, all_below}
use Rattle.precedence.specs.Graph.{Plan, Vertex, vertex_at, FormedWait, Formed, blocks, free, round, play, finished, unvisited, Edge, own, dep, Walk, edge, step, Cycle}

module _ (P : Plan) where
  open P use {drones, last, count, wait}

  -- ---- who is free

  -- wait w holds drone d back: what `blocks` tests
  pub record Blocks (p : ℕ → ℕ) (d w : ℕ) : Type 0 where
    pub is_waiter : (wait w).waiter ≡ d
    pub is_next : (wait w).stop ≡ suc (p d)
    pub is_open : p (wait w).awaited < (wait w).until

  pub blocks_true : (p : ℕ → ℕ) (d w : ℕ) → blocks P p d w ≡ true → Blocks p d w
  unfolding blocks
  blocks_true p d w e =
      let ab : eqb (wait w).waiter d && eqb (wait w).stop (suc (p d)) ≡ true = and_left _ _ e in
      record { is_waiter = eqb-true _ _ (and_left _ _ ab); is_next = eqb-true _ _ (and_right (eqb (wait w).waiter d) _ ab); is_open = ltb-true _ _ (and_right (eqb (wait w).waiter d && eqb (wait w).stop (suc (p d))) _ e) }

  pub blocks_if : (p : ℕ → ℕ) (d w : ℕ) → Blocks p d w → blocks P p d w ≡ true
  unfolding blocks
  blocks_if p d w b = and_both _ _ (and_both _ _ (eq-eqb _ _ b.is_waiter) (eq-eqb _ _ b.is_next)) (lt-ltb _ _ b.is_open)

  pub blocks_open : (p : ℕ → ℕ) (d w : ℕ) → (wait w).waiter ≡ d → (wait w).stop ≡ suc (p d) → blocks P p d w ≡ ltb (p (wait w).awaited) (wait w).until
  unfolding blocks
  blocks_open p d w a b = simp (eq-eqb (wait w).waiter d a, eq-eqb (wait w).stop (suc (p d)) b)

  pub free-unfinished : (p : ℕ → ℕ) (d : ℕ) → free P p d ≡ true → p d < last d
  unfolding free
  free-unfinished p d e = ltb-true _ _ (and_left _ _ e)

  -- a free drone awaits nothing at its next stop
  pub free_open : (p : ℕ → ℕ) (d : ℕ) → free P p d ≡ true → (w : ℕ) → w < count → (wait w).waiter ≡ d → (wait w).stop ≡ suc (p d) → (wait w).until ≤ p (wait w).awaited
  unfolding free
  free_open p d e w l a b = by_cases (ltb (p (wait w).awaited) (wait w).until)
      (λ o. true_or_false (blocks_if p d w (record { is_waiter = a; is_next = b; is_open = ltb-true _ _ o })) (not-true _ (all_below-at count (λ w. not (blocks P p d w)) (and_right (ltb (p d) (last d)) _ e) w l)))
      (λ o. ltb-false _ _ o)

  pub free_if : (p : ℕ → ℕ) (d : ℕ) → p d < last d → ((w : ℕ) → w < count → (wait w).waiter ≡ d → (wait w).stop ≡ suc (p d) → (wait w).until ≤ p (wait w).awaited) → free P p d ≡ true
  unfolding free
  free_if p d h o = and_both _ _ (lt-ltb _ _ h) (all_below_all count (λ w. not (blocks P p d w)) each)
    where
      each : (w : ℕ) → w < count → not (blocks P p d w) ≡ true
      each w l = by_cases (blocks P p d w) (λ e. let b : Blocks p d w = blocks_true p d w e in absurd (omega (arith, o w l b.is_waiter b.is_next))) (λ e. ap not e)

  -- the test's value, by the order in which code asks
  pub free-finished : (p : ℕ → ℕ) (d : ℕ) → last d ≤ p d → free P p d ≡ false
  unfolding free
  free-finished p d h = rw (le-ltb (p d) (last d) h)

  -- a drone with a next stop that is not free has a wait that holds it back
  pub blocked : (p : ℕ → ℕ) (d : ℕ) → p d < last d → free P p d ≡ false → (w : ℕ) × (w < count) × Blocks p d w
  unfolding free
  blocked p d h e = by_cases (all_below count (λ w. not (blocks P p d w)))
      (λ a. true_or_false (and_both _ _ (lt-ltb _ _ h) a) e)
      (λ a. let (w, l, b) = all_below_fails count (λ w. not (blocks P p d w)) a in (w, l, blocks_true p d w (not-false _ b)))

  -- ---- what a round changes

  pub round-free : (p : ℕ → ℕ) (d : ℕ) → free P p d ≡ true → round P p d ≡ suc (p d)
  unfolding round
  round-free p d e = rw e

  pub round_stays : (p : ℕ → ℕ) (d : ℕ) → free P p d ≡ false → round P p d ≡ p d
  unfolding round
  round_stays p d e = rw e

  pub round_le : (p : ℕ → ℕ) (d : ℕ) → p d ≤ round P p d
  round_le p d = by_cases (free P p d) (λ e. omega (arith, round-free p d e)) (λ e. omega (arith, round_stays p d e))

  pub round-suc : (p : ℕ → ℕ) (d : ℕ) → round P p d ≤ suc (p d)
  round-suc p d = by_cases (free P p d) (λ e. omega (arith, round-free p d e)) (λ e. omega (arith, round_stays p d e))

  -- who is past a stop after a round: the step that every law of rounds rests on
  pub finished-at : (p : ℕ → ℕ) → finished P p ≡ true → (d : ℕ) → d < drones → last d ≤ p d
  unfolding finished
  finished-at p e d l = leb-true _ _ (all_below-at drones (λ d. leb (last d) (p d)) e d l)

  pub finished_if : (p : ℕ → ℕ) → ((d : ℕ) → d < drones → last d ≤ p d) → finished P p ≡ true
  unfolding finished
  finished_if p h = all_below_all drones (λ d. leb (last d) (p d)) (λ d l. le-leb _ _ (h d l))

  pub unfinished : (p : ℕ → ℕ) → finished P p ≡ false → (d : ℕ) × (d < drones) × (p d < last d)
  unfolding finished
  unfinished p e = let (d, l, f) = all_below_fails drones (λ d. leb (last d) (p d)) e in (d, l, leb-false _ _ f)

  -- ---- walks

  pub join : {u v w : Vertex} → Walk P u v → Walk P v w → Walk P u w
  join (edge e) b = step e b
  join (step e a) b = step e (join a b)

  -- along a drone's own stops
  pub own_walk : (d s t : ℕ) → d < drones → s < t → t ≤ last d → Walk P (vertex_at d s) (vertex_at d t)
  own_walk d s zero l h m = absurd (omega arith)
  own_walk d s (suc t) l h m = elim (below_cases h) [
    | inl k ↦ join (own_walk d s t l k (omega arith)) (edge (own d t l m))
    | inr e ↦ rw e (edge (own d t l m))
  ]

  -- along a drone's own stops, perhaps none, and on by an edge
  pub lead : (d s t : ℕ) → d < drones → s ≤ t → t ≤ last d → {v : Vertex} → Edge P (vertex_at d t) v → Walk P (vertex_at d s) v
  lead d s t l h m {v} e = by_cases (ltb s t)
      (λ k. join (own_walk d s t l (ltb-true s t k) m) (edge e))
      (λ k. let q : s ≡ t = omega (arith, ltb-false s t k) in rw q (edge e))

  -- the edge of a wait, at the numbers that its waiter's side is equal to
  pub dep-at : (w : ℕ) → w < count → {d s : ℕ} → (wait w).waiter ≡ d → (wait w).stop ≡ s → Edge P (vertex_at (wait w).awaited (wait w).until) (vertex_at d s)
  dep-at w l {d} {s} a b = rw (← a, ← b) (dep w l)

  -- ---- T1: where the graph has no cycle, somebody is free

  module _ (formed : Formed P) (p : ℕ → ℕ) where
    -- the stop that drone d is to enter next
    next : ℕ → Vertex
    next d = vertex_at d (suc (p d))

    record Stuck : Type 0 where
      drone : ℕ
      drone_in : drone < drones
      unfinished-at : p drone < last drone

    -- a walk leads to the next stop of each blocked drone from that of another unfinished one
    awaits : (a : Stuck) → free P p a.drone ≡ false → (b : Stuck) × Walk P (next b.drone) (next a.drone)
    unfolding next
    awaits a e =
        let (w, k, b) = blocked p a.drone a.unfinished-at e in
        let f : FormedWait P (wait w) = formed w k in
        let o : p (wait w).awaited < (wait w).until = b.is_open in
        let m : p (wait w).awaited < last (wait w).awaited = omega arith in (
          record { drone = (wait w).awaited; drone_in = f.awaited_in; unfinished-at = m },
          lead (wait w).awaited (suc (p (wait w).awaited)) (wait w).until f.awaited_in o f.until_in (dep-at w k b.is_waiter b.is_next),
        )

    module _ (none : (d : ℕ) → d < drones → free P p d ≡ false) (a : Stuck) where
      trail : ℕ → Stuck
      trail zero = a
      trail (suc i) = (awaits (trail i) (none (trail i).drone (trail i).drone_in)).0

      at : ℕ → Vertex
      at i = next (trail i).drone

      back : (i : ℕ) → Walk P (at (suc i)) (at i)
      unfolding trail at
      back i = (awaits (trail i) (none (trail i).drone (trail i).drone_in)).1

      backs : (i j : ℕ) → i < j → Walk P (at j) (at i)
      backs i zero h = absurd (omega arith)
      backs i (suc j) h = elim (below_cases h) [ inl k ↦ join (back j) (backs i j k) | inr e ↦ rw e (back j) ]

      stuck_cycle : Cycle P
      unfolding Cycle at
      stuck_cycle =
          let (i, j, l, m, e) = pigeonhole drones (λ i. (trail i).drone) (λ i k. (trail i).drone_in) in
          (at i, subst (λ (d : ℕ). Walk P (next d) (at i)) (sym e) (backs i j l))

    -- with somebody unfinished, there is a cycle or the search for a free drone finds one
    pub cycle_or_free : finished P p ≡ false → Cycle P ⊎ (first_below drones (free P p) < drones)
    cycle_or_free e = by_cases (ltb (first_below drones (free P p)) drones) (λ h. inr (ltb-true _ _ h)) (λ h. inl (stuck_cycle (none h) first))
      where
        none : ltb (first_below drones (free P p)) drones ≡ false → (d : ℕ) → d < drones → free P p d ≡ false
        none h d l = (first_below_first drones (free P p)).skipped d (omega (arith, ltb-false (first_below drones (free P p)) drones h))

        first : Stuck
        first = let (d, l, h) = unfinished p e in record { drone = d; drone_in = l; unfinished-at = h }

    -- T1, no deadlock: without a cycle and with somebody unfinished, the search for a free drone finds one
    pub somebody_free : (Cycle P → ⊥) → finished P p ≡ false → (first_below drones (free P p) < drones) × (free P p (first_below drones (free P p)) ≡ true)
    somebody_free acyclic e = elim (cycle_or_free e) [ inl c ↦ absurd (acyclic c) | inr l ↦ (l, (first_below_first drones (free P p)).found l) ]

  -- ---- T2: rounds finish

  -- each round with somebody free leaves fewer stops unvisited: the measure of a loop that plays rounds
  pub unvisited_falls : (p : ℕ → ℕ) (d : ℕ) → d < drones → free P p d ≡ true → unvisited P (round P p) < unvisited P p
  unfolding unvisited
  unvisited_falls p d l e = sum_less drones (λ d. last d - round P p d) (λ d. last d - p d) (λ d l. omega (arith, round_le p d)) d l (omega (arith, round-free p d e, free-unfinished p d e))

  pub unvisited-none : (p : ℕ → ℕ) → unvisited P p ≡ 0 → finished P p ≡ true
  unfolding unvisited
  unvisited-none p z = finished_if p (λ d l. omega (arith, sum-at drones (λ d. last d - p d) d l))

  pub finished-round : (p : ℕ → ℕ) → finished P p ≡ true → finished P (round P p) ≡ true
  finished-round p e = finished_if (round P p) (λ d l. omega (arith, round_le p d, finished-at p e d l))

  module _ (formed : Formed P) where
    progress : (p : ℕ → ℕ) (k : ℕ) → Cycle P ⊎ ((finished P (play P p k) ≡ true) ⊎ (unvisited P (play P p k) + k ≤ unvisited P p))
    unfolding play
    progress p zero = inr (inr (omega arith))
    progress p (suc k) = go (progress p k) (finished P (play P p k)) refl
      where
        q : ℕ → ℕ
        q = play P p k

        go : Cycle P ⊎ ((finished P q ≡ true) ⊎ (unvisited P q + k ≤ unvisited P p)) → (b : Bool) → finished P q ≡ b → Cycle P ⊎ ((finished P (round P q) ≡ true) ⊎ (unvisited P (round P q) + suc k ≤ unvisited P p))
        go (inl c) b e = inl c
        go (inr h) true e = inr (inl (finished-round q e))
        go (inr (inl h)) false e = inr (inl (finished-round q h))
        go (inr (inr h)) false e = elim (cycle_or_free formed q e) [
          | inl c ↦ inl c
          | inr l ↦ inr (inr (omega (arith, unvisited_falls q (first_below drones (free P q)) l ((first_below_first drones (free P q)).found l))))
        ]

    pub cycle_or_finish : (p : ℕ → ℕ) → Cycle P ⊎ (finished P (play P p (unvisited P p)) ≡ true)
    cycle_or_finish p = elim (progress p (unvisited P p)) [ inl c ↦ inl c | inr (inl e) ↦ inr e | inr (inr h) ↦ inr (unvisited-none _ (omega arith)) ]

    -- T2: without a cycle everybody is finished after as many rounds as there are unvisited stops
    pub rounds-finish : (Cycle P → ⊥) → (p : ℕ → ℕ) → finished P (play P p (unvisited P p)) ≡ true
    rounds-finish acyclic p = elim (cycle_or_finish p) [ inl c ↦ absurd (acyclic c) | inr e ↦ e ]
