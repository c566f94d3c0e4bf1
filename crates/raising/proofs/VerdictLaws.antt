-- The verdict on a graph from its flat table of rounds, or from a cycle. Assumes nothing.
use mathlib.Core.Path.{◌≡◌, refl, sym, ap, ◌∙◌}
use mathlib.Core.List.{List}
use mathlib.Core.Bool.{Bool, true, false, not}
use Prim.Native.Nat.{ℕ, suc, ◌+◌, ◌*◌, ◌-◌, ◌≤◌, ◌<◌}
use native.Mathlib.Nat.{mul-le-mul_left, le_trans}
use native.Mathlib.Omega.{arith}
use lib.Dec.{leb, eqb}
use lib.ListN.{length}
use borrow.Author.Tests.{leb-true, leb-false, eqb-true, eq-eqb}
use Rattle.below.specs.Below.{at, pick, max_below, sum_below, all_below}
use Rattle.below.proofs.Tests.{by_cases, true_or_false, and_left, and_right, and_both, same_test}
use Rattle.below.proofs.Greatest.{max_ext}
use Rattle.below.proofs.Sum.{sum_ext}
use Rattle.tables.specs.Limits.{Limits}
use Rattle.precedence.specs.Graph.{Plan, Vertex, Formed, FormedWait, Edge, own as own_edge, dep, Walk, edge, step, Cycle, Kept, Table, awaited_at, cyclic, cost, remaining, reached, unvisited, NoEmptyLeg, into as into_stop}
use Rattle.precedence.proofs.Table.{latest_is, latest_ge, table-unique, entry_bound}
use Rattle.precedence.proofs.Legs.{reached-table, legs_bound}
use Rattle.precedence.proofs.Visits.{never, walk_entered, acyclic_iff}
use Rattle.cycles.specs.Flat.{flat_plan, Shape, PlacedWaits}
use Rattle.cycles.specs.Walk.{Course, course_plan, course_with, RoundTable, WithinRounds, Walked, Begun}
use Rattle.cycles.proofs.Placed.{formed}
use Rattle.cycles.proofs.CycleLaws.{walked_judges}
use Rattle.rounds.specs.Remaining.{flat_leg}
use Rattle.rounds.proofs.Bounds.{unvisited-bound}
use Rattle.rounds.proofs.ChainRounds.{flat, flat-table, walked_is}
use Rattle.rounds.proofs.Readiness.{visited_begun}
use Rattle.raising.specs.Judged.{Judgeable, Verdict}

-- ---- a table of a plan whose visited stops are come to shows that there is no cycle

module _ (P : Plan) (leg : ℕ → ℕ → ℕ) (p : ℕ → ℕ) (form : Formed P) (some : NoEmptyLeg P leg p) (kept : Kept P p) (t : ℕ → ℕ → ℕ) (table : Table P leg p t) where
  on_edge : {u v : Vertex} → Edge P u v → p u.drone < u.stop → (p v.drone < v.stop) × (t u.drone u.stop < t v.drone v.stop)
  on_edge (own_edge d s l h) o =
      let n : p d < suc s = omega arith in
      (n, omega (arith, some d (suc s) l n h, table.at_unvisited d (suc s) l h n, latest_ge P t (own_edge d s l h)))
  on_edge (dep w l) o =
      let f : FormedWait P (P.wait w) = form w l in
      let n : p (P.wait w).waiter < (P.wait w).stop = by_cases (leb (P.wait w).stop (p (P.wait w).waiter)) (λ e. absurd (omega (arith, kept w l (leb-true _ _ e)))) (λ e. leb-false _ _ e) in
      (n, omega (arith, some (P.wait w).waiter (P.wait w).stop f.waiter_in n f.stop_in, table.at_unvisited (P.wait w).waiter (P.wait w).stop f.waiter_in f.stop_in n, latest_ge P t (dep w l)))

  on_walk : {u v : Vertex} → Walk P u v → p u.drone < u.stop → (p v.drone < v.stop) × (t u.drone u.stop < t v.drone v.stop)
  on_walk (edge e) o = on_edge e o
  on_walk (step e w) o = let (n, a) = on_edge e o in let (m, b) = on_walk w n in (m, omega arith)

  pub come_to_no_cycle : WithinRounds P p → ((v : Vertex) → Walk P v v → v.drone < P.drones) → Cycle P → ⊥
  unfolding Cycle
  come_to_no_cycle (k, ahead) in-drones (v, w) =
      let (m, b) = on_walk w (omega (arith, ahead v.drone (in-drones v w), never P form w k)) in
      omega arith

-- ---- a flat table is a table of the plan

module _ (C : Course) (placed : PlacedWaits C.own C.off C.last C.drones C.stops C.from C.into C.waits) (legs p start : ℕ → ℕ) (stands : (d : ℕ) → d < C.drones → start d ≡ C.off d + p d) where
  open C use {own, off, last, drones, stops, from, into, waits}

  -- a wait into the stop s of drone d, by its flat number
  into_place : (d s w : ℕ) → d < drones → s ≤ last d → w < waits → into_stop (course_plan C) d s w ≡ eqb (into w) (off d + s)
  unfolding into_stop
  into_place d s w l h k = same_test _ _
      (λ e. let a : own (into w) ≡ d = eqb-true _ _ (and_left _ _ e) in
      let b : into w - off (own (into w)) ≡ s = eqb-true _ _ (and_right (eqb (own (into w)) d) _ e) in
      eq-eqb (into w) (off d + s) (omega (arith, ap off a, placed.into_later w k)))
      (λ e. let q : into w ≡ off d + s = eqb-true (into w) (off d + s) e in
      let a : own (into w) ≡ d = ap own q ∙ placed.shape.place_own d s l h in
      and_both _ _ (eq-eqb _ _ a) (eq-eqb (into w - off (own (into w))) s (omega (arith, ap off a))))

  module _ (t : ℕ → ℕ) where
    abbrev spread : ℕ → ℕ → ℕ
    spread d s = t (off d + s)

    awaited_place : (d s : ℕ) → d < drones → s ≤ last d → max_below waits (awaited_at (course_plan C) spread d s) ≡ max_below waits (λ w. pick (eqb (into w) (off d + s)) (t (from w)) 0)
    unfolding awaited_at
    awaited_place d s l h = max_ext waits (awaited_at (course_plan C) spread d s) (λ w. pick (eqb (into w) (off d + s)) (t (from w)) 0)
        (λ w k. let q : off (own (from w)) + (from w - off (own (from w))) ≡ from w = omega (arith, placed.shape.off_le (from w) (placed.from_in w k)) in
        rw (into_place d s w l h k, q) refl)

    pub spread_table : RoundTable C legs start t → Table (course_plan C) (flat_leg off legs) p spread
    spread_table T = record {
      at_visited = λ d s l h o. T.at_visited (off d + s) (placed.shape.place_in d s l h) (omega (arith, ap start (placed.shape.place_own d s l h), stands d l));
      at_unvisited = λ d s l h o.
          let q : off d + s - 1 ≡ off d + (s - 1) = omega arith in
          omega (
            arith,
            T.at_unvisited (off d + s) (placed.shape.place_in d s l h) (omega (arith, ap start (placed.shape.place_own d s l h), stands d l)),
            latest_is (course_plan C) spread d s,
            awaited_place d s l h,
            ap t q,
          );
    }

-- ---- only the entries of stops count, the places of drones and the waits themselves

one_awaited : Course → (ℕ → ℕ) → ℕ → ℕ → ℕ
one_awaited C t v k = pick (eqb (C.into k) v) (t (C.from k)) 0

module _ (C : Course) (placed : PlacedWaits C.own C.off C.last C.drones C.stops C.from C.into C.waits) (leg start : ℕ → ℕ) (stands : (d : ℕ) → d < C.drones → C.off d ≤ start d) where
  pub rounds_agree : (t r : ℕ → ℕ) → ((v : ℕ) → v < C.stops → t v ≡ r v) → RoundTable C leg start t → RoundTable C leg start r
  unfolding one_awaited
  rounds_agree t r same T = record {
    at_visited = λ v l h. sym (same v l) ∙ T.at_visited v l h;
    at_unvisited = λ v l h. omega (
      arith,
      same v l,
      same (v - 1) (omega arith),
      T.at_unvisited v l h,
      max_ext C.waits (one_awaited C t v) (one_awaited C r v) (λ k i. ap (λ (x : ℕ). pick (eqb (C.into k) v) x 0) (same (C.from k) (placed.from_in k i))),
    );
  }

  pub rounds_from : (places t : ℕ → ℕ) → ((d : ℕ) → d < C.drones → places d ≡ start d) → RoundTable C leg places t → RoundTable C leg start t
  rounds_from places t same T = record {
    at_visited = λ v l h. T.at_visited v l (omega (arith, same (C.own v) (placed.shape.own_in v l)));
    at_unvisited = λ v l h. T.at_unvisited v l (omega (arith, same (C.own v) (placed.shape.own_in v l)));
  }

pub rounds_waits : (owners starts lasts : List ℕ) (drones n : ℕ) (from into f i : List ℕ) (m : ℕ) (leg start t : ℕ → ℕ) → ((k : ℕ) → k < m → at from k ≡ at f k) → ((k : ℕ) → k < m → at into k ≡ at i k)
    → RoundTable (course_with owners starts lasts drones n from into m) leg start t → RoundTable (course_with owners starts lasts drones n f i m) leg start t
unfolding one_awaited
rounds_waits owners starts lasts drones n from into f i m leg start t same_from same-into T = record {
  at_visited = T.at_visited;
  at_unvisited = λ v l h. omega (
    arith,
    T.at_unvisited v l h,
    max_ext m (one_awaited (course_with owners starts lasts drones n from into m) t v) (one_awaited (course_with owners starts lasts drones n f i m) t v) (λ k j. rw (same_from k j, same-into k j) refl),
  );
}

-- ---- the verdicts

module _ {L : Limits} (owners starts lasts : List ℕ) (drones n : ℕ) (from into : List ℕ) (m : ℕ) (legs visited : List ℕ) (J : Judgeable L owners starts lasts drones n from into m legs visited) where
  abbrev Q : Plan
  Q = flat_plan (at owners) (at starts) (at lasts) drones (at from) (at into) m

  abbrev K : Course
  K = course_with owners starts lasts drones n from into m

  abbrev leg : ℕ → ℕ → ℕ
  leg = flat_leg (at starts) (at legs)

  abbrev S : Shape (at owners) (at starts) (at lasts) drones n
  S = J.tables.placed.shape

  abbrev Q-formed : Formed Q
  Q-formed = formed (at owners) (at starts) (at lasts) drones n (at from) (at into) m J.tables.placed

  Q-some : NoEmptyLeg Q leg (at visited)
  Q-some d s l o h = J.some_legs (at starts d + s) (S.place_in d s l h) (rw (S.place_own d s l h) (omega arith))

  pub cycle_verdict : cyclic Q ≡ true → (c : ℕ) → Verdict Q leg (at visited) true c
  cycle_verdict x c = record { says_cyclic = sym x; says_cost = λ e. true_or_false x e }

  -- ---- a settled table

  module _ (cur : List ℕ) (stands : (d : ℕ) → d < drones → at cur d ≡ at starts d + at visited d) (t : List ℕ) (T : RoundTable (course_with owners starts lasts drones n from into m) (at legs) (at cur) (at t)) where
    Q-table : Table Q leg (at visited) (λ d s. at t (at starts d + s))
    Q-table = spread_table (course_with owners starts lasts drones n from into m) J.tables.placed (at legs) (at visited) (at cur) stands (at t) T

    Q-none : Cycle Q → ⊥
    Q-none = come_to_no_cycle Q leg (at visited) Q-formed Q-some J.kept (λ d s. at t (at starts d + s)) Q-table J.comes_to (λ v w. (walk_entered Q Q-formed w).0)

    rounds-sum : sum_below drones (λ d. at t (at starts d + at lasts d)) ≡ cost Q leg (at visited)
    unfolding cost remaining
    rounds-sum = sum_ext drones (λ d. at t (at starts d + at lasts d)) (λ d. reached Q leg (at visited) d (at lasts d)) (λ d l. table-unique Q leg (at visited) Q-formed Q-none (reached-table Q leg Q-formed Q-none (at visited) Q-some) Q-table d (at lasts d) l (omega arith))

    pub table_verdict : (c : ℕ) → c ≡ sum_below drones (λ d. at t (at starts d + at lasts d)) → Verdict Q leg (at visited) false c
    table_verdict c e = record { says_cyclic = sym ((acyclic_iff Q Q-formed).1 Q-none); says_cost = λ q. e ∙ rounds-sum }

    -- its entries are small, whatever the log allows
    pub settled_last : (d : ℕ) → d < drones → at starts d + at lasts d < L.stops
    settled_last d l = omega (arith, S.place_in d (at lasts d) l (omega arith), J.tables.few_stops)

    pub settled_small : (d : ℕ) → d < drones → at t (at starts d + at lasts d) ≤ L.leg * L.stops
    settled_small d l = le_trans (entry_bound Q leg (at visited) Q-formed Q-none Q-table d (at lasts d) l (omega arith)) (le_trans (legs_bound Q leg L.leg (at visited) (λ d s l o h. J.short_legs (at starts d + s) (S.place_in d s l h)))
        (mul-le-mul_left L.leg (let h : unvisited Q (at visited) ≤ L.stops = omega (arith, unvisited-bound (at owners) (at starts) (at lasts) drones n (at from) (at into) m S (at visited), J.tables.few_stops) in h)))

  -- ---- the table that a walk leaves

  module _ (start : List ℕ) (size : length start ≡ L.drones) (stands : (d : ℕ) → d < drones → at start d ≡ at starts d + at visited d) where
    pub judged_begun : Begun L (course_with owners starts lasts drones n from into m) start
    judged_begun = visited_begun owners starts lasts drones n from into m visited J.tables J.within J.kept start size stands

    module _ {b : ℕ} {cur t : List ℕ} (W : Walked L (course_with owners starts lasts drones n from into m) (at legs) b start cur t) where
      pub walked_verdict : {done : Bool} → done ≡ all_below drones (λ d. leb (at starts d + at lasts d) (at cur d)) → not done ≡ cyclic Q
      walked_verdict e = ap not e ∙ walked_judges (course_with owners starts lasts drones n from into m) J.tables.placed W (J.comes_to.0, λ d l. omega (arith, stands d l, J.comes_to.1 d l))

      leg_is : (v : ℕ) → v < n → at legs v ≡ leg (at owners v) (v - at starts (at owners v))
      leg_is v l = ap (at legs) (omega (arith, S.off_le v l))

      pub walked_rounds : cyclic Q ≡ false → RoundTable (course_with owners starts lasts drones n from into m) (at legs) (at start) (at t)
      walked_rounds e = rounds_agree K J.tables.placed (at legs) (at start) (λ d l. omega (arith, stands d l)) (flat K J.tables.placed (reached Q leg (at visited))) (at t) (λ v l. sym (walked_is K J.tables.placed leg (at legs) leg_is (at visited) start stands W e R v l))
          (flat-table K J.tables.placed leg (at legs) leg_is (at visited) (at start) stands R)
        where
          R : Table Q leg (at visited) (reached Q leg (at visited))
          R = reached-table Q leg Q-formed ((acyclic_iff Q Q-formed).0 e) (at visited) Q-some
