-- What tables that are ready say of their plan: its waits are formed, its graph has no cycle, and rounds and cost stay small. Assumes nothing.
use mathlib.Core.Path.{◌≡◌, sym, ap, ◌∙◌}
use mathlib.Core.List.{List}
use Prim.Native.Nat.{ℕ, ◌+◌, ◌*◌, ◌-◌, ◌≤◌, ◌<◌}
use native.Mathlib.Nat.{mul-le-mul_left, le_trans}
use native.Mathlib.Omega.{arith}
use lib.ListN.{length}
use Rattle.below.specs.Below.{sum_below, at}
use Rattle.tables.specs.Limits.{Limits}
use Rattle.precedence.specs.Graph.{Plan, Formed, Cycle, Kept, unvisited, legs_left, cost, makespan, NoEmptyLeg}
use Rattle.precedence.proofs.Table.{entry_bound}
use Rattle.precedence.proofs.Legs.{reached-table, legs_bound, makespan-bound}
use Rattle.precedence.proofs.Visits.{acyclic_iff}
use Rattle.cycles.proofs.Placed.{formed}
use Rattle.cycles.proofs.MetLaws.{met_is}
use Rattle.cycles.specs.Flat.{flat_plan, FlatTables, Shape}
use Rattle.cycles.specs.Walk.{course_with, Begun, Walked}
use Rattle.rounds.specs.Remaining.{Ready, flat_leg, stop_round, stop_rounds}
use Rattle.rounds.proofs.Bounds.{unvisited-bound, cost_limit}
use Rattle.rounds.proofs.ChainRounds.{walked_is, round-at, round_is, table_is, table_at, sum_is}

-- drones that stand at visited stops of theirs, where "for every dependency whose waiting stop is visited .., the stop it waits for is visited"
module _ {L : Limits} (owners starts lasts : List ℕ) (drones n : ℕ) (from into : List ℕ) (m : ℕ) (visited : List ℕ) (tables : FlatTables L owners starts lasts drones n from into m) (within : (d : ℕ) → d < drones → at visited d ≤ at lasts d) where
  -- a walk can begin there
  pub visited_begun : Kept (flat_plan (at owners) (at starts) (at lasts) drones (at from) (at into) m) (at visited) → (start : List ℕ) → length start ≡ L.drones → ((d : ℕ) → d < drones → at start d ≡ at starts d + at visited d) → Begun L (course_with owners starts lasts drones n from into m) start
  visited_begun keeps start size stands = record {
    size = size;
    low = λ d l. omega (arith, stands d l);
    high = λ d l. omega (arith, stands d l, within d l);
    kept = λ k l h.
        let a : at into k < n = tables.placed.into_in k l in
        let b : at from k < n = tables.placed.from_in k l in
        let oa : at owners (at into k) < drones = tables.placed.shape.own_in (at into k) a in
        let ob : at owners (at from k) < drones = tables.placed.shape.own_in (at from k) b in
        met_is (course_with owners starts lasts drones n from into m) (at start) k (omega (arith, stands (at owners (at from k)) ob, keeps k l (omega (arith, stands (at owners (at into k)) oa))));
  }

module _ {L : Limits} (owners starts lasts : List ℕ) (drones n : ℕ) (from into : List ℕ) (m : ℕ) (legs visited : List ℕ) (ready : Ready L owners starts lasts drones n from into m legs visited) where
  abbrev P : Plan
  P = flat_plan (at owners) (at starts) (at lasts) drones (at from) (at into) m

  pub ready_formed : Formed P
  ready_formed = formed (at owners) (at starts) (at lasts) drones n (at from) (at into) m ready.tables.placed

  pub ready_acyclic : Cycle P → ⊥
  ready_acyclic = (acyclic_iff P ready_formed).0 ready.acyclic

  pub ready_unvisited : unvisited P (at visited) + drones ≤ L.stops
  ready_unvisited = omega (arith, unvisited-bound (at owners) (at starts) (at lasts) drones n (at from) (at into) m ready.tables.placed.shape (at visited), ready.tables.few_stops)

  -- ---- its legs

  abbrev leg : ℕ → ℕ → ℕ
  leg = flat_leg (at starts) (at legs)

  abbrev S : Shape (at owners) (at starts) (at lasts) drones n
  S = ready.tables.placed.shape

  pub ready_some : NoEmptyLeg P leg (at visited)
  ready_some d s l o h = ready.some_legs (at starts d + s) (S.place_in d s l h) (rw (S.place_own d s l h) (omega arith))

  short : (d s : ℕ) → d < drones → 0 < s → s ≤ at lasts d → leg d s ≤ L.leg
  short d s l o h = ready.short_legs (at starts d + s) (S.place_in d s l h)

  pub ready_legs : legs_left P leg (at visited) ≤ L.leg * L.stops
  ready_legs = le_trans (legs_bound P leg L.leg (at visited) short) (mul-le-mul_left L.leg (let h : unvisited P (at visited) ≤ L.stops = omega (arith, ready_unvisited) in h))

  pub ready_rounds : makespan P leg (at visited) ≤ L.leg * L.stops
  ready_rounds = omega (arith, makespan-bound P leg ready_formed ready_acyclic (at visited) ready_some, ready_legs)

  -- "Cost is at most 7,618,560"
  pub ready_cost : L.drones + L.drones ≤ L.stops → cost P leg (at visited) ≤ L.leg * (L.drones * (L.stops - L.drones))
  ready_cost = cost_limit L n L.leg P leg (at visited) short (unvisited-bound (at owners) (at starts) (at lasts) drones n (at from) (at into) m S (at visited)) ready.tables.few_stops ready.tables.few_drones

  -- ---- the table of rounds

  abbrev R : ℕ → ℕ
  R = stop_round (at owners) (at starts) (at lasts) drones (at from) (at into) m (at legs) (at visited)

  -- where the drones stand
  pub ready_stand : (d : ℕ) → d < drones → at starts d + at visited d < L.stops
  ready_stand d l = omega (arith, ready.within d l, ready.tables.placed.shape.place_in d (at lasts d) l (omega arith), ready.tables.few_stops)

  module _ (start : List ℕ) (size : length start ≡ L.drones) (stands : (d : ℕ) → d < drones → at start d ≡ at starts d + at visited d) where
    pub ready_begun : Begun L (course_with owners starts lasts drones n from into m) start
    ready_begun = visited_begun owners starts lasts drones n from into m visited ready.tables ready.within ready.kept start size stands

    leg_is : (v : ℕ) → v < n → at legs v ≡ leg (at owners v) (v - at starts (at owners v))
    leg_is v l = ap (at legs) (omega (arith, S.off_le v l))

    pub ready_table : (b : ℕ) (cur t : List ℕ) → Walked L (course_with owners starts lasts drones n from into m) (at legs) b start cur t → t ≡ stop_rounds L (at owners) (at starts) (at lasts) drones n (at from) (at into) m (at legs) (at visited)
    ready_table b cur t W =
        table_is (at owners) (at starts) (at lasts) drones n (at from) (at into) m ready.tables.placed (at legs) (at visited) L ready.tables.few_stops t W.size
        (λ v l. walked_is (course_with owners starts lasts drones n from into m) ready.tables.placed leg (at legs) leg_is (at visited) start stands W ready.acyclic (reached-table P leg ready_formed ready_acyclic (at visited) ready_some) v l ∙ sym (round_is (at owners) (at starts) (at lasts) drones n (at from) (at into) m ready.tables.placed (at legs) (at visited) v))
        W.past

  -- a table of the rounds
  module _ (t : List ℕ) (e : t ≡ stop_rounds L (at owners) (at starts) (at lasts) drones n (at from) (at into) m (at legs) (at visited)) where
    entry_is : (v : ℕ) → v < n → at t v ≡ R v
    entry_is v l = ap (λ (x : List ℕ). at x v) e ∙ table_at (at owners) (at starts) (at lasts) drones n (at from) (at into) m ready.tables.placed (at legs) (at visited) L ready.tables.few_stops v l

    pub last_in : (d : ℕ) → d < drones → at starts d + at lasts d < L.stops
    last_in d l = omega (arith, ready.tables.placed.shape.place_in d (at lasts d) l (omega arith), ready.tables.few_stops)

    pub last_small : (d : ℕ) → d < drones → at t (at starts d + at lasts d) ≤ L.leg * L.stops
    last_small d l =
        let v : at starts d + at lasts d < n = ready.tables.placed.shape.place_in d (at lasts d) l (omega arith) in
        omega (arith, entry_is (at starts d + at lasts d) v, round-at (at owners) (at starts) (at lasts) drones n (at from) (at into) m ready.tables.placed (at legs) (at visited) d (at lasts d) l (omega arith), entry_bound P leg (at visited) ready_formed ready_acyclic (reached-table P leg ready_formed ready_acyclic (at visited) ready_some) d (at lasts d) l (omega arith), ready_legs)

    pub last_sum : sum_below drones (λ d. at t (at starts d + at lasts d)) ≡ cost P leg (at visited)
    last_sum = sum_is (at owners) (at starts) (at lasts) drones n (at from) (at into) m ready.tables.placed (at legs) (at visited) (at t) entry_is
