-- The theorems about the plan graph, each with all that it asks. P is any plan whose waits name stops that are there (`Formed P`); "no cycle" is `Cycle P → ⊥`.
-- They are proved in proofs/Theorems.antt. Assumes nothing.
use Rattle.std.specs.Prelude.{◌≡◌, ◌↔◌, Bool, true, false, ℕ, ◌+◌, ◌*◌, ◌≤◌, ◌<◌}
use Rattle.below.specs.Below.{first_below, max_below}
use Rattle.precedence.specs.Graph.{Plan, vertex_at, Formed, free, play, finished, unvisited, cyclic, Cycle, Chain, Longest, Rising, Table, held_round, held_play, held_rounds, Ahead, Fewer}
use Rattle.precedence.specs.Graph.{legs_left, visited_after, reached, remaining, cost, makespan, NoEmptyLeg, one_round}

-- ---- for any plan
module _ (P : Plan) where
  open P use {drones, last}

  -- nobody is stuck for ever: without a cycle, while a drone is unfinished some drone is free, and the search finds it
  abbrev pub NobodyStuck : Type 0
  NobodyStuck = Formed P → (Cycle P → ⊥) → (p : ℕ → ℕ) → finished P p ≡ false → (first_below drones (free P p) < drones) × (free P p (first_below drones (free P p)) ≡ true)

  -- the computed test of a cycle says whether there is one
  abbrev pub CyclicIsCycle : Type 0
  CyclicIsCycle = Formed P → (cyclic P ≡ true) ↔ Cycle P

  -- a number that rises along every edge leaves no cycle
  abbrev pub RisingNoCycle : Type 0
  RisingNoCycle = (time : ℕ → ℕ → ℕ) → Rising P time → Cycle P → ⊥

  -- ---- rounds with legs, none of them empty

  module _ (leg : ℕ → ℕ → ℕ) where
    -- undelayed rounds finish everybody in no more rounds than "the sum of the unvisited stops' legs"
    abbrev pub RoundsFinish : Type 0
    RoundsFinish = Formed P → (Cycle P → ⊥) → (p : ℕ → ℕ) → NoEmptyLeg P leg p → finished P (visited_after P leg p (legs_left P leg p)) ≡ true

    -- "A stop is reached LEG rounds after the last stop it awaits, its own drone's stop before it included": the rounds as played are the table, no other table has
    -- this recurrence, and no stop is reached later than the sum of the legs
    pub record TableOfRounds (p : ℕ → ℕ) : Type 0 where
      pub table : Table P leg p (reached P leg p)
      pub unique : (t : ℕ → ℕ → ℕ) → Table P leg p t → (d s : ℕ) → d < drones → s ≤ last d → t d s ≡ reached P leg p d s
      pub bound : (d s : ℕ) → d < drones → s ≤ last d → reached P leg p d s ≤ legs_left P leg p

    abbrev pub RoundsTable : Type 0
    RoundsTable = Formed P → (Cycle P → ⊥) → (p : ℕ → ℕ) → NoEmptyLeg P leg p → TableOfRounds p

    -- remaining rounds are the sum of the longest chain of unvisited stops to the last stop: there is one, and none has more
    abbrev pub RemainingIsLongest : Type 0
    RemainingIsLongest = Formed P → (Cycle P → ⊥) → (p : ℕ → ℕ) → NoEmptyLeg P leg p → (d : ℕ) → d < drones → p d < last d → Longest P leg p d (remaining P leg p d)

    -- a finished drone has no remaining round and no chain
    abbrev pub FinishedHasNone : Type 0
    FinishedHasNone = Formed P → (Cycle P → ⊥) → (p : ℕ → ℕ) → NoEmptyLeg P leg p → (d : ℕ) → d < drones → last d ≤ p d → (remaining P leg p d ≡ 0) × ((n : ℕ) → Chain P leg p (vertex_at d (last d)) n → ⊥)

    -- the cost is at most the legs left for each drone
    abbrev pub CostBound : Type 0
    CostBound = (p : ℕ → ℕ) → cost P leg p ≤ drones * legs_left P leg p

    -- everybody has landed when the drone has that has the most rounds left
    abbrev pub MakespanIsLargest : Type 0
    MakespanIsLargest = Formed P → (Cycle P → ⊥) → (p : ℕ → ℕ) → NoEmptyLeg P leg p → makespan P leg p ≡ max_below drones (remaining P leg p)

  -- with legs of one these rounds are those in which every leg takes one, and the legs left are the unvisited stops
  pub record PlayedWithOne (p : ℕ → ℕ) : Type 0 where
    pub same_places : (k : ℕ) → visited_after P one_round p k ≡ play P p k
    pub same_bound : legs_left P one_round p ≡ unvisited P p

  abbrev pub LegsOfOne : Type 0
  LegsOfOne = (p : ℕ → ℕ) → PlayedWithOne p

  -- ---- held rounds, with legs of one

  -- a round in which some drones are held raises nobody's remaining rounds
  abbrev pub HeldRoundRaisesNone : Type 0
  HeldRoundRaisesNone = Formed P → (Cycle P → ⊥) → (h : ℕ → Bool) (p : ℕ → ℕ) (d : ℕ) → d < drones → remaining P one_round (held_round P h p) d ≤ remaining P one_round p d

  -- R + D rounds finish everybody: R the largest number of remaining rounds, D the number of rounds in which somebody is held
  abbrev pub HeldRoundsFinish : Type 0
  HeldRoundsFinish = Formed P → (Cycle P → ⊥) → (held : ℕ → ℕ → Bool) (p : ℕ → ℕ) (n : ℕ) → max_below drones (remaining P one_round p) + held_rounds P held n ≤ n → finished P (held_play P held p n) ≡ true

-- ---- fewer waits

-- with fewer waits, or further on, nobody has more rounds left, and no cycle comes
abbrev pub FewerWaits : Plan → Plan → (ℕ → ℕ → ℕ) → Type 0
FewerWaits P Q leg = Formed P → Formed Q → Fewer P Q → (Cycle P → ⊥) → (p q : ℕ → ℕ) → NoEmptyLeg P leg p → Ahead P.drones p q → (cyclic Q ≡ false) × ((d : ℕ) → d < P.drones → remaining Q leg q d ≤ remaining P leg p d)
