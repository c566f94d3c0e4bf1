-- Progress that is ahead stays ahead, also with fewer waits. Assumes nothing.
use mathlib.Core.Path.{◌≡◌, refl, sym, ap, ◌∙◌, subst}
use mathlib.Core.Logic.{◌⊎◌, inl, inr}
use mathlib.Core.Bool.{true, false, not}
use Prim.Native.Nat.{ℕ, zero, suc, ◌-◌, ◌≤◌, ◌<◌}
use native.Mathlib.Omega.{arith}
use lib.Dec.{ltb, leb}
use borrow.Author.Tests.{ltb-true, ltb-false, leb-true, leb-false, not-false}
use Rattle.below.proofs.Sum.{sum_ext}
use Rattle.below.proofs.Tests.{by_cases}
use Rattle.precedence.proofs.Rounds.{free-unfinished, free_open, free_if, round-free, round_stays, round_le, round-suc, finished-at, finished_if}
use Rattle.precedence.proofs.Table.{latest_ge, latest-edge}
use Rattle.precedence.proofs.Legs.{reached-table}
use Rattle.precedence.proofs.Visits.{left, acyclic_iff, visit_round, visit_none, visit_edge}
use Rattle.precedence.specs.Graph.{Wait, Plan, Vertex, vertex_at, Formed, free, round, play, finished, unvisited, at_start, cyclic, Edge, own, dep, Cycle}
use Rattle.precedence.specs.Graph.{latest, Table, reached, remaining, NoEmptyLeg, Ahead, Fewer}

module _ (P Q : Plan) where
  module _ (formed : Formed P) (fewer : Fewer P Q) where
    -- a free drone stays free while others go on
    pub free_ahead : (p q : ℕ → ℕ) → Ahead P.drones p q → (d : ℕ) → p d ≡ q d → free P p d ≡ true → free Q q d ≡ true
    free_ahead p q a d same f = free_if Q q d (omega (arith, free-unfinished P p d f, fewer.last_same d)) open_in
      where
        open_in : (w : ℕ) → w < Q.count → (Q.wait w).waiter ≡ d → (Q.wait w).stop ≡ suc (q d) → (Q.wait w).until ≤ q (Q.wait w).awaited
        open_in w l x y = go (fewer.waits_in w l)
          where
            go : ((Q.wait w).until ≡ 0) ⊎ ((x : ℕ) × (x < P.count) × (P.wait x ≡ Q.wait w)) → (Q.wait w).until ≤ q (Q.wait w).awaited
            go (inl z) = omega arith
            go (inr (v, k, e)) =
                let waiter-is : (P.wait v).waiter ≡ d = ap (λ (z : Wait). z.waiter) e ∙ x in
                let stop_is : (P.wait v).stop ≡ suc (p d) = ap (λ (z : Wait). z.stop) e ∙ y ∙ ap suc (sym same) in
                let h : (P.wait v).until ≤ q (P.wait v).awaited = omega (arith, free_open P p d f v k waiter-is stop_is, a (P.wait v).awaited (formed v k).awaited_in) in
                subst (λ (z : Wait). z.until ≤ q z.awaited) e h

    pub round_ahead : (p q : ℕ → ℕ) → Ahead P.drones p q → Ahead P.drones (round P p) (round Q q)
    round_ahead p q a d l = by_cases (ltb (p d) (q d))
        (λ e. omega (arith, ltb-true (p d) (q d) e, round-suc P p d, round_le Q q d))
        (λ e. let same : p d ≡ q d = omega (arith, a d l, ltb-false (p d) (q d) e) in
        by_cases (free P p d)
        (λ f. omega (arith, round-suc P p d, round-free Q q d (free_ahead p q a d same f)))
        (λ f. omega (arith, round_stays P p d f, round_le Q q d)))

    pub play_ahead : (p q : ℕ → ℕ) → Ahead P.drones p q → (k : ℕ) → Ahead P.drones (play P p k) (play Q q k)
    unfolding play
    play_ahead p q a zero = a
    play_ahead p q a (suc k) = round_ahead (play P p k) (play Q q k) (play_ahead p q a k)

    pub finished_ahead : (p q : ℕ → ℕ) → Ahead P.drones p q → finished P p ≡ true → finished Q q ≡ true
    finished_ahead p q a e = finished_if Q q (λ d l. let k : d < P.drones = omega (arith, fewer.drones_same) in omega (arith, fewer.last_same d, a d k, finished-at P p e d k))

    unvisited-same : (p : ℕ → ℕ) → unvisited Q p ≡ unvisited P p
    unfolding unvisited
    unvisited-same p = rw fewer.drones_same (sum_ext P.drones (λ d. Q.last d - p d) (λ d. P.last d - p d) (λ d l. ap (λ (x : ℕ). x - p d) (fewer.last_same d)))

    -- an edge with fewer waits is one of all, or comes out of a first stop
    edge_in : {u v : Vertex} → Edge Q u v → Edge P u v ⊎ (u.stop ≡ 0)
    edge_in (own d s l h) = inl (own d s (omega (arith, fewer.drones_same)) (omega (arith, fewer.last_same d)))
    edge_in (dep w l) = elim (fewer.waits_in w l) [
      | inl z ↦ inr z
      | inr (x, k, e) ↦ inl (subst (λ (z : Wait). Edge P (vertex_at z.awaited z.until) (vertex_at z.waiter z.stop)) e (dep x k))
    ]

    -- with fewer waits there is no new cycle
    pub cyclic_fewer : cyclic P ≡ false → cyclic Q ≡ false
    unfolding cyclic
    cyclic_fewer e = rw unvisited-same (ap not (finished_ahead (play P at_start n) (play Q at_start n) (play_ahead at_start at_start (λ d l. omega arith) n) (not-false _ e)))
      where
        n : ℕ
        n = unvisited P at_start

    module _ (formed' : Formed Q) (acyclic : Cycle P → ⊥) where
      pub acyclic_fewer : Cycle Q → ⊥
      acyclic_fewer = (acyclic_iff Q formed').0 (cyclic_fewer ((acyclic_iff P formed).1 acyclic))

      module _ (leg : ℕ → ℕ → ℕ) (p q : ℕ → ℕ) (some : NoEmptyLeg P leg p) (ahead : Ahead P.drones p q) where
        some_ahead : NoEmptyLeg Q leg q
        some_ahead d s l o h = let k : d < P.drones = omega (arith, fewer.drones_same) in some d s k (omega (arith, ahead d k)) (omega (arith, fewer.last_same d))

        abbrev t : ℕ → ℕ → ℕ
        t = reached P leg p

        abbrev r : ℕ → ℕ → ℕ
        r = reached Q leg q

        T : Table P leg p t
        T = reached-table P leg formed acyclic p some

        R : Table Q leg q r
        R = reached-table Q leg formed' acyclic_fewer q some_ahead

        -- no stop is reached later, where none is that it awaits
        earlier-at : (d s : ℕ) → d < P.drones → s ≤ P.last d → ((u : Vertex) → Edge P u (vertex_at d s) → p d < s → r u.drone u.stop ≤ t u.drone u.stop) → r d s ≤ t d s
        earlier-at d s l h before = by_cases (leb s (q d))
            (λ v. omega (arith, R.at_visited d s l' h' (leb-true _ _ v)))
            (λ v. let o : q d < s = leb-false _ _ v in
            let o' : p d < s = omega (arith, ahead d l) in
            let (u, e, z) = latest-edge Q r d s l' (omega arith) h' in
            omega (arith, R.at_unvisited d s l' h' o, T.at_unvisited d s l h o', awaited u e (edge_in e) o'))
          where
            l' : d < Q.drones
            l' = omega (arith, fewer.drones_same)

            h' : s ≤ Q.last d
            h' = omega (arith, fewer.last_same d)

            awaited : (u : Vertex) → Edge Q u (vertex_at d s) → Edge P u (vertex_at d s) ⊎ (u.stop ≡ 0) → p d < s → r u.drone u.stop ≤ latest P t d s
            awaited u e (inl e') o = omega (arith, before u e' o, latest_ge P t e')
            awaited u e (inr z) o = omega (arith, R.at_visited u.drone u.stop (left Q formed' e).0 (left Q formed' e).1 (omega arith))

        earlier : (k d s : ℕ) → d < P.drones → s ≤ P.last d → visit_round P p d s ≤ k → r d s ≤ t d s
        earlier zero d s l h e = earlier-at d s l h (λ u a o. absurd (omega (arith, visit_none P formed acyclic p d s l h e)))
        earlier (suc k) d s l h e = earlier-at d s l h (λ u a o. earlier k u.drone u.stop (left P formed a).0 (left P formed a).1 (omega (arith, visit_edge P formed acyclic p a o)))

        -- nobody who is ahead, or has fewer waits, has more rounds left
        pub remaining_ahead : (d : ℕ) → d < P.drones → remaining Q leg q d ≤ remaining P leg p d
        unfolding remaining
        remaining_ahead d l = rw (fewer.last_same d) (earlier (visit_round P p d (P.last d)) d (P.last d) l (omega arith) (omega arith))

-- a plan has its own waits
pub fewer_refl : (P : Plan) → Fewer P P
fewer_refl P = record { drones_same = refl; last_same = λ d. refl; waits_in = λ w l. inr (w, l, refl) }
