-- The table of each stop's round: its recurrence, that it has one solution, and that passes over a table find it. Legs are any numbers of
-- rounds. Assumes nothing.
use mathlib.Core.Path.{◌≡◌, refl, sym, ◌∙◌, subst}
use mathlib.Core.Logic.{◌⊎◌, inl, inr}
use mathlib.Core.Bool.{Bool, true, false, ◌&&◌, and-false}
use Prim.Native.Nat.{ℕ, zero, suc, ◌+◌, ◌-◌, ◌≤◌, ◌<◌, max}
use native.Mathlib.Omega.{arith}
use lib.Dec.{ltb, leb, eqb}
use borrow.Author.Tests.{leb-true, leb-false, eqb-true, lt-ltb, le-leb, lt-leb, eq-eqb}
use Rattle.below.proofs.Greatest.{max-at, max_is}
use Rattle.below.proofs.Sum.{sum_mono, sum_gap}
use Rattle.below.proofs.Tests.{by_cases, and_left, and_right, and_both}
use Rattle.below.specs.Below.{pick, sum_below, max_below}
use Rattle.precedence.proofs.Rounds.{dep-at}
use Rattle.precedence.proofs.Visits.{left, visit_round, visit_none, visit_bound, visit_edge}
use Rattle.precedence.specs.Graph.{Plan, Vertex, vertex_at, Formed, unvisited, into, latest, Edge, own, dep, Cycle}
use Rattle.precedence.specs.Graph.{awaited_at, Table, Chain, link, on, legs_left}

module _ (P : Plan) where
  open P use {drones, last, count, wait}

  -- ---- `latest` is the greatest entry over the edges into a stop

  into_true : (d s w : ℕ) → into P d s w ≡ true → ((wait w).waiter ≡ d) × ((wait w).stop ≡ s)
  unfolding into
  into_true d s w e = (eqb-true _ _ (and_left _ _ e), eqb-true _ _ (and_right (eqb (wait w).waiter d) _ e))

  into_own : (w : ℕ) → into P (wait w).waiter (wait w).stop w ≡ true
  unfolding into
  into_own w = and_both _ _ (eq-eqb (wait w).waiter (wait w).waiter refl) (eq-eqb (wait w).stop (wait w).stop refl)

  module _ (t : ℕ → ℕ → ℕ) where
    entry : ℕ → ℕ → ℕ → ℕ
    entry d s w = pick (into P d s w) (t (wait w).awaited (wait w).until) 0

    pub latest_ge : {u v : Vertex} → Edge P u v → t u.drone u.stop ≤ latest P t v.drone v.stop
    unfolding latest entry
    latest_ge (own d s l h) = let e : suc s - 1 ≡ s = omega arith in rw e (omega arith)
    latest_ge (dep w l) = omega (arith, rw (into_own w) at (max-at count (entry (wait w).waiter (wait w).stop) w l))

    -- some edge has it
    pub latest-edge : (d s : ℕ) → d < drones → 0 < s → s ≤ last d → (u : Vertex) × Edge P u (vertex_at d s) × (t u.drone u.stop ≡ latest P t d s)
    unfolding latest entry
    latest-edge d zero l o h = absurd (omega arith)
    latest-edge d (suc s) l o h = by_cases (leb m (t d s))
        (λ e. (vertex_at d s, own d s l h, let q : suc s - 1 ≡ s = omega arith in rw q (omega (arith, leb-true m (t d s) e))))
        (λ e. let big : t d s < m = leb-false m (t d s) e in go big (max_is count (entry d (suc s))))
      where
        m : ℕ
        m = max_below count (entry d (suc s))

        go : t d s < m → (m ≡ 0) ⊎ ((w : ℕ) × (w < count) × (entry d (suc s) w ≡ m)) → (u : Vertex) × Edge P u (vertex_at d (suc s)) × (t u.drone u.stop ≡ max (t d (suc s - 1)) m)
        go big (inl z) = absurd (omega arith)
        go big (inr (w, k, q)) = by_cases (into P d (suc s) w)
            (λ i. let (a, b) = into_true d (suc s) w i in (vertex_at (wait w).awaited (wait w).until, dep-at P w k a b, let z : suc s - 1 ≡ s = omega arith in rw z (omega (arith, rw i at q))))
            (λ i. absurd (omega (arith, rw i at q)))

  -- ---- the same as a loop over the waits finds it

  pub latest_is : (t : ℕ → ℕ → ℕ) (d s : ℕ) → latest P t d s ≡ max (t d (s - 1)) (max_below count (awaited_at P t d s))
  unfolding latest awaited_at
  latest_is t d s = refl

  -- two tables that agree at the edges into a stop have the same latest entry there
  pub latest_ext : (t r : ℕ → ℕ → ℕ) (d s : ℕ) → d < drones → 0 < s → s ≤ last d → ((u : Vertex) → Edge P u (vertex_at d s) → t u.drone u.stop ≡ r u.drone u.stop) → latest P t d s ≡ latest P r d s
  latest_ext t r d s l o h same =
      let (u, e, q) = latest-edge t d s l o h in
      let (v, f, z) = latest-edge r d s l o h in
      omega (arith, same u e, same v f, latest_ge r e, latest_ge t f)

  -- ---- the table

  module _ (leg : ℕ → ℕ → ℕ) (p : ℕ → ℕ) where
    -- the table after k passes, each over the table of the pass before
    passes : ℕ → ℕ → ℕ → ℕ
    passes zero d s = 0
    passes (suc k) d s = pick (leb s (p d)) 0 (leg d s + latest P (passes k) d s)

    -- as many passes as there are unvisited stops
    pub arrival : ℕ → ℕ → ℕ
    arrival = passes (unvisited P p)

    passes_visited : (k d s : ℕ) → s ≤ p d → passes k d s ≡ 0
    unfolding passes
    passes_visited zero d s h = refl
    passes_visited (suc k) d s h = rw (le-leb s (p d) h)

    passes_unvisited : (k d s : ℕ) → p d < s → passes (suc k) d s ≡ leg d s + latest P (passes k) d s
    unfolding passes
    passes_unvisited k d s h = rw (lt-leb s (p d) h)

    module _ (formed : Formed P) (acyclic : Cycle P → ⊥) where
      -- the stops that are visited within k rounds have the entries of t in r too
      abbrev pub Settled : (ℕ → ℕ → ℕ) → ℕ → (ℕ → ℕ → ℕ) → Type 0
      Settled t k r = (d s : ℕ) → d < drones → s ≤ last d → visit_round P p d s ≤ k → r d s ≡ t d s

      -- one entry of a pass: with all rounds up to k settled, an entry of round k + 1 comes out right
      pub settle : {t : ℕ → ℕ → ℕ} → Table P leg p t → (k : ℕ) (r : ℕ → ℕ → ℕ) → Settled t k r → (d s : ℕ) → d < drones → s ≤ last d → p d < s → visit_round P p d s ≤ suc k → leg d s + latest P r d s ≡ t d s
      settle {t} table k r settled d s l h o e = omega (arith, table.at_unvisited d s l h o, latest_ext r t d s l (omega arith) h (λ u a. settled u.drone u.stop (left P formed a).0 (left P formed a).1 (omega (arith, visit_edge P formed acyclic p a o))))

      -- the table has one solution
      pub settled : {t r : ℕ → ℕ → ℕ} → Table P leg p t → Table P leg p r → (k : ℕ) → Settled t k r
      settled {t} {r} table other zero d s l h e = let v : s ≤ p d = visit_none P formed acyclic p d s l h e in omega (arith, table.at_visited d s l h v, other.at_visited d s l h v)
      settled {t} {r} table other (suc k) d s l h e = by_cases (leb s (p d))
          (λ v. omega (arith, table.at_visited d s l h (leb-true _ _ v), other.at_visited d s l h (leb-true _ _ v)))
          (λ v. let o : p d < s = leb-false _ _ v in omega (arith, other.at_unvisited d s l h o, settle table k r (settled table other k) d s l h o e))

      pub table-unique : {t r : ℕ → ℕ → ℕ} → Table P leg p t → Table P leg p r → (d s : ℕ) → d < drones → s ≤ last d → r d s ≡ t d s
      table-unique table other d s l h = settled table other (visit_round P p d s) d s l h (omega arith)

      -- entries that are those of the table make it
      pub table_same : {t r : ℕ → ℕ → ℕ} → Table P leg p t → ((d s : ℕ) → d < drones → s ≤ last d → r d s ≡ t d s) → Table P leg p r
      table_same {t} {r} table same = record {
        at_visited = λ d s l h v. same d s l h ∙ table.at_visited d s l h v;
        at_unvisited = λ d s l h o. omega (arith, same d s l h, table.at_unvisited d s l h o, latest_ext r t d s l (omega arith) h (λ u e. same u.drone u.stop (left P formed e).0 (left P formed e).1));
      }

      -- passes find it
      stable : (k d s : ℕ) → d < drones → s ≤ last d → visit_round P p d s ≤ k → passes (suc k) d s ≡ passes k d s
      stable zero d s l h e = let v : s ≤ p d = visit_none P formed acyclic p d s l h e in passes_visited 1 d s v ∙ sym (passes_visited 0 d s v)
      stable (suc k) d s l h e = by_cases (leb s (p d))
          (λ v. passes_visited (suc (suc k)) d s (leb-true _ _ v) ∙ sym (passes_visited (suc k) d s (leb-true _ _ v)))
          (λ v. let o : p d < s = leb-false _ _ v in
          omega (arith, passes_unvisited (suc k) d s o, passes_unvisited k d s o, latest_ext (passes (suc k)) (passes k) d s l (omega arith) h (λ u a. stable k u.drone u.stop (left P formed a).0 (left P formed a).1 (omega (arith, visit_edge P formed acyclic p a o)))))

      pub arrival_table : Table P leg p (arrival)
      unfolding arrival
      arrival_table = record {
        at_visited = λ d s l h v. passes_visited (unvisited P p) d s v;
        at_unvisited = λ d s l h o. sym (stable (unvisited P p) d s l h (visit_bound P formed acyclic p d s)) ∙ passes_unvisited (unvisited P p) d s o;
      }

      -- ---- chains with legs

      module _ {t : ℕ → ℕ → ℕ} (table : Table P leg p t) where
        -- no chain has more legs than the table says
        pub chain_le : {v : Vertex} {n : ℕ} → v.drone < drones → v.stop ≤ last v.drone → Chain P leg p v n → n ≤ t v.drone v.stop
        chain_le l h (link {v = v} o) = omega (arith, table.at_unvisited v.drone v.stop l h o)
        chain_le l h (on {u = u} {v = v} c e o) = omega (arith, table.at_unvisited v.drone v.stop l h o, latest_ge t e, chain_le (left P formed e).0 (left P formed e).1 c)

        -- and some chain has as many
        chain-within : (k d s : ℕ) → d < drones → p d < s → s ≤ last d → visit_round P p d s ≤ k → Chain P leg p (vertex_at d s) (t d s)
        chain-within zero d s l o h e = absurd (omega (arith, visit_none P formed acyclic p d s l h e))
        chain-within (suc k) d s l o h e =
            let (u, a, q) = latest-edge t d s l (omega arith) h in
            by_cases (leb u.stop (p u.drone))
            (λ v. subst (Chain P leg p (vertex_at d s)) (omega (arith, table.at_unvisited d s l h o, table.at_visited u.drone u.stop (left P formed a).0 (left P formed a).1 (leb-true _ _ v))) (link o))
            (λ v. subst (Chain P leg p (vertex_at d s)) (omega (arith, table.at_unvisited d s l h o)) (on (chain-within k u.drone u.stop (left P formed a).0 (leb-false _ _ v) (left P formed a).1 (omega (arith, visit_edge P formed acyclic p a o))) a o))

        pub chain : (d s : ℕ) → d < drones → p d < s → s ≤ last d → Chain P leg p (vertex_at d s) (t d s)
        chain d s l o h = chain-within (visit_round P p d s) d s l o h (omega arith)

        -- ---- no entry is above the sum of all unvisited legs

        -- the legs of the stops that are visited in rounds 1 to k
        weigh : ℕ → ℕ → ℕ → ℕ
        weigh k d s = pick (ltb (p d) s && leb (visit_round P p d s) k) (leg d s) 0

        weight : ℕ → ℕ
        weight k = sum_below drones (λ d. sum_below (suc (last d)) (weigh k d))

        weigh_up : (k d s : ℕ) → weigh k d s ≤ weigh (suc k) d s
        unfolding weigh
        weigh_up k d s = by_cases (leb (visit_round P p d s) k)
            (λ e. let up : leb (visit_round P p d s) (suc k) ≡ true = le-leb (visit_round P p d s) (suc k) (omega (arith, leb-true (visit_round P p d s) k e)) in rw (e, up) (omega arith))
            (λ e. rw (e, and-false) (omega arith))

        weigh_in : (k d s : ℕ) → weigh k d s ≤ pick (ltb (p d) s) (leg d s) 0
        unfolding weigh
        weigh_in k d s = go (ltb (p d) s) (leb (visit_round P p d s) k)
          where
            go : (a b : Bool) → pick (a && b) (leg d s) 0 ≤ pick a (leg d s) 0
            go true true = omega arith
            go true false = omega arith
            go false b = omega arith

        -- a stop of round k + 1 adds its leg
        weigh_new : (k d s : ℕ) → p d < s → visit_round P p d s ≡ suc k → weigh k d s + leg d s ≤ weigh (suc k) d s
        unfolding weigh
        weigh_new k d s o e = rw (lt-ltb (p d) s o, e, lt-leb (suc k) k (omega arith), le-leb (suc k) (suc k) (omega arith)) (omega arith)

        weight_up : (k : ℕ) → weight k ≤ weight (suc k)
        unfolding weight
        weight_up k = sum_mono drones _ _ (λ d l. sum_mono (suc (last d)) (weigh k d) (weigh (suc k) d) (λ s h. weigh_up k d s))

        weight_new : (k d s : ℕ) → d < drones → s ≤ last d → p d < s → visit_round P p d s ≡ suc k → weight k + leg d s ≤ weight (suc k)
        unfolding weight
        weight_new k d s l h o e = sum_gap drones (λ d. sum_below (suc (last d)) (weigh k d)) (λ d. sum_below (suc (last d)) (weigh (suc k) d)) (leg d s) (λ d l. sum_mono (suc (last d)) (weigh k d) (weigh (suc k) d) (λ s h. weigh_up k d s)) d l
            (sum_gap (suc (last d)) (weigh k d) (weigh (suc k) d) (leg d s) (λ s h. weigh_up k d s) s (omega arith) (weigh_new k d s o e))

        entry_weight : (k d s : ℕ) → d < drones → s ≤ last d → visit_round P p d s ≤ k → t d s ≤ weight k
        entry_weight zero d s l h e = omega (arith, table.at_visited d s l h (visit_none P formed acyclic p d s l h e))
        entry_weight (suc k) d s l h e = by_cases (leb s (p d))
            (λ v. omega (arith, table.at_visited d s l h (leb-true _ _ v)))
            (λ v. by_cases (leb (visit_round P p d s) k)
            (λ b. omega (arith, entry_weight k d s l h (leb-true _ _ b), weight_up k))
            (λ b. let o : p d < s = leb-false _ _ v in
            let (u, a, q) = latest-edge t d s l (omega arith) h in
            omega (
              arith,
              table.at_unvisited d s l h o,
              weight_new k d s l h o (omega (arith, leb-false (visit_round P p d s) k b)),
              entry_weight k u.drone u.stop (left P formed a).0 (left P formed a).1 (omega (arith, visit_edge P formed acyclic p a o)),
            )))

        weight_all : (k : ℕ) → weight k ≤ legs_left P leg p
        unfolding legs_left weight
        weight_all k = sum_mono drones (λ d. sum_below (suc (last d)) (weigh k d)) (λ d. sum_below (suc (last d)) (λ s. pick (ltb (p d) s) (leg d s) 0)) (λ d l. sum_mono (suc (last d)) (weigh k d) (λ s. pick (ltb (p d) s) (leg d s) 0) (λ s h. weigh_in k d s))

        pub entry_bound : (d s : ℕ) → d < drones → s ≤ last d → t d s ≤ legs_left P leg p
        entry_bound d s l h = omega (arith, entry_weight (visit_round P p d s) d s l h (omega arith), weight_all (visit_round P p d s))
