-- The table that a walk leaves is the table of rounds of the plan, with any legs, where the graph has no cycle; its entries are the rounds in which the stops are
-- visited (`reached-table`), and those at the last stops add up to the cost. Assumes nothing.
use mathlib.Core.Path.{◌≡◌, refl, ap, ◌∙◌, subst}
use mathlib.Core.List.{List}
use mathlib.Core.Bool.{false}
use Prim.Native.Nat.{ℕ, ◌+◌, ◌-◌, ◌≤◌, ◌<◌}
use native.Mathlib.Omega.{arith}
use lib.Dec.{ltb, leb, eqb}
use lib.ListN.{length}
use borrow.Author.Tests.{leb-true, leb-false, eqb-true, eq-eqb, lt-ltb, le-ltb}
use Rattle.below.proofs.Greatest.{max_ext}
use Rattle.below.proofs.Index.{list_below_is, get_d_list_below}
use Rattle.below.proofs.Sum.{sum_ext}
use Rattle.below.proofs.Tests.{by_cases, and_left, and_right, and_both, same_test}
use Rattle.below.specs.Below.{pick, max_below, sum_below, at}
use Rattle.tables.specs.Limits.{Limits}
use Rattle.precedence.specs.Graph.{Plan, Table, reached, remaining, cost, cyclic, into as into_stop, awaited_at}
use Rattle.precedence.proofs.Table.{latest_is}
use Rattle.cycles.proofs.CycleLaws.{walked_all}
use Rattle.cycles.specs.Flat.{flat_plan, PlacedWaits}
use Rattle.cycles.specs.Walk.{Course, course_plan, RoundTable, Walked}
use Rattle.rounds.specs.Remaining.{flat_leg, stop_round, stop_rounds}

module _ (C : Course) (placed : PlacedWaits C.own C.off C.last C.drones C.stops C.from C.into C.waits) where
  open C use {own, off, last, drones, stops, from, into, waits}

  -- a table of the drones' stops, by the stops' flat numbers
  abbrev pub flat : (ℕ → ℕ → ℕ) → ℕ → ℕ
  flat t v = t (own v) (v - off (own v))

  number_in_lem : (v : ℕ) → v < stops → v - off (own v) ≤ last (own v)
  number_in_lem v l = omega (arith, placed.shape.number_in_lem v l)

  -- a wait into stop v, by its drone and number
  into-flat : (v w : ℕ) → v < stops → w < waits → into_stop (course_plan C) (own v) (v - off (own v)) w ≡ eqb (into w) v
  unfolding into_stop
  into-flat v w l k = same_test _ _
      (λ e. let a : own (into w) ≡ own v = eqb-true _ _ (and_left _ _ e) in
      let b : into w - off (own (into w)) ≡ v - off (own v) = eqb-true _ _ (and_right (eqb (own (into w)) (own v)) _ e) in
      eq-eqb (into w) v (omega (arith, ap off a, placed.shape.off_le v l, placed.into_later w k)))
      (λ e. let q : into w ≡ v = eqb-true (into w) v e in and_both _ _ (eq-eqb _ _ (ap own q)) (eq-eqb _ _ (ap (λ (u : ℕ). u - off (own u)) q)))

  awaited-flat : (t : ℕ → ℕ → ℕ) (v : ℕ) → v < stops → max_below waits (awaited_at (course_plan C) t (own v) (v - off (own v))) ≡ max_below waits (λ w. pick (eqb (into w) v) (flat t (from w)) 0)
  unfolding awaited_at
  awaited-flat t v l = max_ext waits (awaited_at (course_plan C) t (own v) (v - off (own v))) (λ w. pick (eqb (into w) v) (flat t (from w)) 0) (λ w k. rw (into-flat v w l k) refl)

  -- the stop s of drone d
  pub flat-at : (t : ℕ → ℕ → ℕ) (d s : ℕ) → d < drones → s ≤ last d → flat t (off d + s) ≡ t d s
  flat-at t d s l h =
      let e : off d + s - off d ≡ s = omega arith in
      rw (placed.shape.place_own d s l h, e) refl

  -- the own stop before
  flat-before : (t : ℕ → ℕ → ℕ) (v : ℕ) → v < stops → off (own v) < v → flat t (v - 1) ≡ t (own v) (v - off (own v) - 1)
  flat-before t v l h =
      let e : off (own v) + (v - off (own v) - 1) ≡ v - 1 = omega arith in
      subst (λ (u : ℕ). flat t u ≡ t (own v) (v - off (own v) - 1)) e (flat-at t (own v) (v - off (own v) - 1) (placed.shape.own_in v l) (omega (arith, placed.shape.number_in_lem v l)))

  -- the drones stand at their visited stops p
  module _ (leg : ℕ → ℕ → ℕ) (legs : ℕ → ℕ) (same : (v : ℕ) → v < stops → legs v ≡ flat leg v) (p start : ℕ → ℕ) (stands : (d : ℕ) → d < drones → start d ≡ off d + p d) where
    pub flat-table : {t : ℕ → ℕ → ℕ} → Table (course_plan C) leg p t → RoundTable C legs start (flat t)
    flat-table {t} table = record {
      at_visited = λ v l h. table.at_visited (own v) (v - off (own v)) (placed.shape.own_in v l) (number_in_lem v l) (omega (arith, stands (own v) (placed.shape.own_in v l)));
      at_unvisited = λ v l h.
          let o : p (own v) < v - off (own v) = omega (arith, stands (own v) (placed.shape.own_in v l)) in
          omega (
            arith,
            table.at_unvisited (own v) (v - off (own v)) (placed.shape.own_in v l) (number_in_lem v l) o,
            latest_is (course_plan C) t (own v) (v - off (own v)),
            flat-before t v l (omega arith),
            awaited-flat t v l,
            same v l,
          );
    }

  -- a walk that has ended leaves the table of rounds, whatever the legs
  module _ (leg : ℕ → ℕ → ℕ) (legs : ℕ → ℕ) (same : (v : ℕ) → v < stops → legs v ≡ flat leg v) (p : ℕ → ℕ) (start : List ℕ) (stands : (d : ℕ) → d < drones → at start d ≡ off d + p d) {L : Limits} {b : ℕ} {cur tab : List ℕ} (W : Walked L C legs b start cur tab) (acyclic : cyclic (course_plan C) ≡ false) where
    pub walked_is : {t : ℕ → ℕ → ℕ} → Table (course_plan C) leg p t → (v : ℕ) → v < stops → at tab v ≡ flat t v
    walked_is {t} table v l = W.visited (flat t) (flat-table leg legs same p (at start) stands table) v l (walked_all C placed W acyclic v l)

module _ (own off last : ℕ → ℕ) (drones n : ℕ) (from into : ℕ → ℕ) (m : ℕ) (placed : PlacedWaits own off last drones n from into m) (leg p : ℕ → ℕ) where
  abbrev P : Plan
  P = flat_plan own off last drones from into m

  abbrev R : ℕ → ℕ
  R = stop_round own off last drones from into m leg p

  -- the stop s of drone d
  pub round-at : (d s : ℕ) → d < drones → s ≤ last d → R (off d + s) ≡ reached P (flat_leg off leg) p d s
  unfolding stop_round
  round-at d s l h =
      let e : off d + s - off d ≡ s = omega arith in
      rw (placed.shape.place_own d s l h, e) refl

  pub round_is : (v : ℕ) → R v ≡ reached P (flat_leg off leg) p (own v) (v - off (own v))
  unfolding stop_round
  round_is v = refl

  -- a table of these entries
  pub table_is : (L : Limits) → n ≤ L.stops → (t : List ℕ) → length t ≡ L.stops → ((v : ℕ) → v < n → at t v ≡ R v) → ((v : ℕ) → n ≤ v → at t v ≡ 0) → t ≡ stop_rounds L own off last drones n from into m leg p
  unfolding stop_rounds
  table_is L few t e here past = list_below_is L.stops (λ v. pick (ltb v n) (R v) 0) 0 t e each
    where
      each : (v : ℕ) → v < L.stops → at t v ≡ pick (ltb v n) (R v) 0
      each v l = by_cases (leb n v)
          (λ c. rw (le-ltb v n (leb-true _ _ c)) (past v (leb-true _ _ c)))
          (λ c. rw (lt-ltb v n (leb-false _ _ c)) (here v (leb-false _ _ c)))

  pub table_at : (L : Limits) → n ≤ L.stops → (v : ℕ) → v < n → at (stop_rounds L own off last drones n from into m leg p) v ≡ R v
  unfolding stop_rounds
  table_at L few v l = get_d_list_below L.stops (λ v. pick (ltb v n) (R v) 0) 0 v (omega arith) ∙ rw (lt-ltb v n l) refl

  -- the entries at the last stops are the remaining rounds
  pub sum_is : (t : ℕ → ℕ) → ((v : ℕ) → v < n → t v ≡ R v) → sum_below drones (λ d. t (off d + last d)) ≡ cost P (flat_leg off leg) p
  unfolding cost remaining
  sum_is t here = sum_ext drones (λ d. t (off d + last d)) (λ d. reached P (flat_leg off leg) p d (last d)) (λ d l. here (off d + last d) (placed.shape.place_in d (last d) l (omega arith)) ∙ round-at d (last d) l (omega arith))
