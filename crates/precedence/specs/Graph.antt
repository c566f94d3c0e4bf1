-- The plan graph, its rounds, cycles and chains: every definition of this crate on one page (document 01, "The graph" and "The calls"; source document 004,
-- Definitions 1 and 2). A plan is given by functions on numbers, so that it can be read from lists, from lent tables or from a plan with some dependencies
-- turned; no limit is built in. The laws are in proofs/, the theorems in `Theorems`. Assumes nothing.
use Rattle.std.specs.Prelude.{◌≡◌, ◌⊎◌, Bool, not, ◌&&◌, List, [], ℕ, zero, suc, ◌+◌, ◌-◌, ◌≤◌, ◌<◌, max, ltb, leb, eqb, length}
use Rattle.below.specs.Below.{pick, first_below, all_below, any_below, count_below, sum_below, max_below, list_below, at}

-- a wait: drone `waiter` may enter its stop `stop` only after drone `awaited` has visited its stop `until`. A wait until stop 0 counts for nothing
pub record Wait : Type 0 where
  pub waiter : ℕ
  pub stop : ℕ
  pub awaited : ℕ
  pub until : ℕ

-- "If drone j is there first at its stop s and drone i later at its stop k, then i may enter stop k only after j has visited stop s+1"
abbrev pub departure : (j s i k : ℕ) → Wait
departure j s i k = record { waiter = i; stop = k; awaited = j; until = suc s }

-- "Drones, stops and dependencies are numbered from 0": drones 0 to drones - 1, drone d with the stops 0 to last d; waits 0 to count - 1
pub record Plan : Type 0 where
  pub drones : ℕ
  pub last : ℕ → ℕ
  pub count : ℕ
  pub wait : ℕ → Wait

-- a vertex of the graph: the stop `stop` of the drone `drone` (004, Definition 2)
pub record Vertex : Type 0 where
  pub drone : ℕ
  pub stop : ℕ

abbrev pub vertex_at : ℕ → ℕ → Vertex
vertex_at d s = record { drone = d; stop = s }

-- how far the drones are: each one's last visited stop, and the rounds that it has flown towards the next
pub record Headway : Type 0 where
  pub place : ℕ → ℕ
  pub flown : ℕ → ℕ

-- .. and in lists
pub record HeadwayLists : Type 0 where
  pub places : List ℕ
  pub flowns : List ℕ

abbrev pub headway_in : HeadwayLists → Headway
headway_in h = record { place = at h.places; flown = at h.flowns }

-- "its last visited stop (0 at first)"
abbrev pub at_start : ℕ → ℕ
at_start d = 0

module _ (P : Plan) where
  open P use {drones, last, count, wait}

  -- ---- the waits of a plan

  -- both stops are there, and nobody waits to enter a stop 0
  pub record FormedWait (w : Wait) : Type 0 where
    pub waiter_in : w.waiter < drones
    pub stop_pos : 0 < w.stop
    pub stop_in : w.stop ≤ last w.waiter
    pub awaited_in : w.awaited < drones
    pub until_in : w.until ≤ last w.awaited

  abbrev pub Formed : Type 0
  Formed = (w : ℕ) → w < count → FormedWait (wait w)

  -- ---- rounds in which every leg takes one. "A drone's progress is its last visited stop": p : ℕ → ℕ

  -- wait w is into the next stop of drone d, and the awaited stop is not visited
  unfoldable pub blocks : (ℕ → ℕ) → ℕ → ℕ → Bool
  blocks p d w = eqb (wait w).waiter d && eqb (wait w).stop (suc (p d)) && ltb (p (wait w).awaited) (wait w).until

  -- an "unfinished drone whose next stop has all awaited stops visited"
  unfoldable pub free : (ℕ → ℕ) → ℕ → Bool
  free p d = ltb (p d) (last d) && all_below count (λ w. not (blocks p d w))

  -- "A round: each unfinished drone whose next stop has all awaited stops visited at the round's start visits that stop"
  unfoldable pub round : (ℕ → ℕ) → ℕ → ℕ
  round p d = pick (free p d) (suc (p d)) (p d)

  -- "rounds are played": k rounds
  unfoldable pub play : (ℕ → ℕ) → ℕ → ℕ → ℕ
  play p zero = p
  play p (suc k) = round (play p k)

  -- "every drone stands at its last stop"
  unfoldable pub finished : (ℕ → ℕ) → Bool
  finished p = all_below drones (λ d. leb (last d) (p d))

  -- the number of unvisited stops
  unfoldable pub unvisited : (ℕ → ℕ) → ℕ
  unvisited p = sum_below drones (λ d. last d - p d)

  -- wait w is one into the stop s of drone d
  unfoldable pub into : ℕ → ℕ → ℕ → Bool
  into d s w = eqb (wait w).waiter d && eqb (wait w).stop s

  -- the greatest entry of a table t of rounds among what the stop s of drone d awaits, its own stop before it included
  unfoldable pub latest : (ℕ → ℕ → ℕ) → ℕ → ℕ → ℕ
  latest t d s = max (t d (s - 1)) (max_below count (λ w. pick (into d s w) (t (wait w).awaited (wait w).until) 0))

  -- the computed test of a cycle: the rounds from the first stops do not finish everybody
  unfoldable pub cyclic : Bool
  cyclic = not (finished (play at_start (unvisited at_start)))

  -- ---- rounds with legs: `leg d s` rounds to the stop s of drone d from the one before it. With legs of one they are the rounds above

  module _ (leg : ℕ → ℕ → ℕ) where
    -- the legs of the stops of drone d after its stop x, added up
    abbrev pub legs_ahead : ℕ → ℕ → ℕ
    legs_ahead d x = sum_below (suc (last d)) (λ s. pick (ltb x s) (leg d s) 0)

    -- "the sum of the unvisited stops' legs"
    unfoldable pub legs_left : (ℕ → ℕ) → ℕ
    legs_left p = sum_below drones (λ d. legs_ahead d (p d))

    -- .. less what is flown of them
    unfoldable pub to_fly : Headway → ℕ
    to_fly h = sum_below drones (λ d. legs_ahead d (h.place d) - h.flown d)

    -- one round more fills the leg of drone d
    unfoldable pub fills : Headway → ℕ → Bool
    fills h d = leb (leg d (suc (h.place d))) (suc (h.flown d))

    -- a round: "each unfinished drone whose next stop has all awaited stops visited at the round's start" flies one round more, and visits that stop when its leg is full
    unfoldable pub fly_round : Headway → Headway
    fly_round h = record {
      place = λ d. pick (free h.place d && fills h d) (suc (h.place d)) (h.place d);
      flown = λ d. pick (free h.place d) (pick (fills h d) 0 (suc (h.flown d))) (h.flown d);
    }

    -- k rounds; "a drone under way counts its full leg"
    unfoldable pub fly : (ℕ → ℕ) → ℕ → Headway
    fly p zero = record { place = p; flown = λ d. 0 }
    fly p (suc k) = fly_round (fly p k)

    -- the drones' last visited stops after k rounds
    abbrev pub visited_after : (ℕ → ℕ) → ℕ → ℕ → ℕ
    visited_after p k = (fly p k).place

    -- the round in which the stop s of drone d is visited; "stops visited before the count begins are reached at round 0"
    unfoldable pub reached : (ℕ → ℕ) → ℕ → ℕ → ℕ
    reached p d s = first_below (legs_left p) (λ k. leb s (visited_after p k d))

    -- "A drone's remaining rounds are those until it finishes, 0 if finished"
    unfoldable pub remaining : (ℕ → ℕ) → ℕ → ℕ
    remaining p d = reached p d (last d)

    -- "Remaining cost is their sum"
    unfoldable pub cost : (ℕ → ℕ) → ℕ
    cost p = sum_below drones (remaining p)

    -- the undelayed rounds until everybody has landed: the least number of rounds after which every drone stands at its last stop
    unfoldable pub makespan : (ℕ → ℕ) → ℕ
    makespan p = first_below (legs_left p) (λ k. finished (visited_after p k))

    -- no leg to an unvisited stop is empty ("1 to 60 rounds")
    abbrev pub NoEmptyLeg : (ℕ → ℕ) → Type 0
    NoEmptyLeg p = (d s : ℕ) → d < drones → p d < s → s ≤ last d → 0 < leg d s

  -- ---- the graph

  -- "Stops of one drone follow each other"; an awaited stop comes before the one that waits for it (004, Definition 2: edges of type 1 and 2)
  pub data Edge : Vertex → Vertex → Type 0 where
    own : (d s : ℕ) → d < drones → s < last d → Edge (vertex_at d s) (vertex_at d (suc s))
    dep : (w : ℕ) → w < count → Edge (vertex_at (wait w).awaited (wait w).until) (vertex_at (wait w).waiter (wait w).stop)

  -- one edge or more, each from where the one before it ends
  pub data Walk : Vertex → Vertex → Type 0 where
    edge : {u v : Vertex} → Edge u v → Walk u v
    step : {u v w : Vertex} → Edge u v → Walk v w → Walk u w

  -- a walk back to where it began: "the graph has no cycle" is `Cycle P → ⊥`
  unfoldable pub Cycle : Type 0
  Cycle = (v : Vertex) × Walk v v

  -- "for every dependency whose waiting stop is visited .., the stop it waits for is visited"
  abbrev pub Kept : (ℕ → ℕ) → Type 0
  Kept p = (w : ℕ) → w < count → (wait w).stop ≤ p (wait w).waiter → (wait w).until ≤ p (wait w).awaited

  -- "the .. chain of unvisited stops that ends at [v], each stop awaited by the one after it (a drone's own stop before it counts as awaited)"; it "counts [the]
  -- sum" of its stops' legs, which is the number of its stops where every leg takes one round
  pub data Chain (leg : ℕ → ℕ → ℕ) (p : ℕ → ℕ) : Vertex → ℕ → Type 0 where
    link : {v : Vertex} → p v.drone < v.stop → Chain leg p v (leg v.drone v.stop)
    on : {u v : Vertex} {n : ℕ} → Chain leg p u n → Edge u v → p v.drone < v.stop → Chain leg p v (leg v.drone v.stop + n)

  -- n is the sum of "the longest chain of unvisited stops that ends at its last stop", "the one with the largest sum of legs"
  pub record Longest (leg : ℕ → ℕ → ℕ) (p : ℕ → ℕ) (d n : ℕ) : Type 0 where
    pub chain : Chain leg p (vertex_at d (last d)) n
    pub none_longer : (m : ℕ) → Chain leg p (vertex_at d (last d)) m → m ≤ n

  -- a number for each stop that rises along every edge, as planned times do (004: an accepted plan's graph has no cycle)
  pub record Rising (time : ℕ → ℕ → ℕ) : Type 0 where
    pub own_rises : (d s : ℕ) → d < drones → s < last d → time d s < time d (suc s)
    pub wait_rises : (w : ℕ) → w < count → time (wait w).awaited (wait w).until < time (wait w).waiter (wait w).stop

  -- ---- the table of each stop's round, with a leg for each stop: a stop is reached its leg after the latest stop that it awaits

  -- what wait w adds: the entry of what it awaits if it is one into the stop s of drone d, or else 0
  unfoldable pub awaited_at : (ℕ → ℕ → ℕ) → ℕ → ℕ → ℕ → ℕ
  awaited_at t d s w = pick (into d s w) (t (wait w).awaited (wait w).until) 0

  module _ (leg : ℕ → ℕ → ℕ) (p : ℕ → ℕ) where
    -- "visited stops are in no chain": their round is 0
    pub record Table (t : ℕ → ℕ → ℕ) : Type 0 where
      pub at_visited : (d s : ℕ) → d < drones → s ≤ last d → s ≤ p d → t d s ≡ 0
      pub at_unvisited : (d s : ℕ) → d < drones → s ≤ last d → p d < s → t d s ≡ leg d s + latest t d s

  -- ---- rounds in which some drones are held, every leg of one round ("Point 13 speaks of legs of one only")

  -- the drones that pass h neither depart nor arrive
  unfoldable pub held_round : (ℕ → Bool) → (ℕ → ℕ) → ℕ → ℕ
  held_round h p d = pick (h d) (p d) (round p d)

  -- k rounds; in round i the drones that pass `held i` are held
  unfoldable pub held_play : (ℕ → ℕ → Bool) → (ℕ → ℕ) → ℕ → ℕ → ℕ
  held_play held p zero = p
  held_play held p (suc k) = held_round (held k) (held_play held p k)

  -- how many of the first k rounds hold somebody
  unfoldable pub held_rounds : (ℕ → ℕ → Bool) → ℕ → ℕ
  held_rounds held k = count_below k (λ i. any_below drones (held i))

  -- ---- progress in a list

  -- a round on a list of last visited stops
  unfoldable pub round_list : List ℕ → List ℕ
  round_list ps = list_below (length ps) (round (at ps))

  unfoldable pub play_list : List ℕ → ℕ → List ℕ
  play_list ps zero = ps
  play_list ps (suc k) = round_list (play_list ps k)

  -- the test of cycles on lists, for flights that are computed
  unfoldable pub cyclic_list : Bool
  cyclic_list = not (finished (at (play_list (list_below drones (λ d. 0)) (unvisited at_start))))

  -- rounds with legs on lists of last visited stops and of rounds flown
  module _ (leg : ℕ → ℕ → ℕ) where
    unfoldable pub fly_round_list : HeadwayLists → HeadwayLists
    fly_round_list h = record { places = list_below (length h.places) (fly_round leg (headway_in h)).place; flowns = list_below (length h.places) (fly_round leg (headway_in h)).flown }

    unfoldable pub fly_list : List ℕ → ℕ → HeadwayLists
    fly_list ps zero = record { places = ps; flowns = [] }
    fly_list ps (suc k) = fly_round_list (fly_list ps k)

    unfoldable pub remaining_list : List ℕ → ℕ → ℕ
    remaining_list ps d = first_below (legs_left leg (at ps)) (λ k. leb (last d) (at (fly_list ps k).places d))

-- legs of one round
abbrev pub one_round : ℕ → ℕ → ℕ
one_round d s = 1

-- q is at least as far as p, for n drones
abbrev pub Ahead : ℕ → (ℕ → ℕ) → (ℕ → ℕ) → Type 0
Ahead n p q = (d : ℕ) → d < n → p d ≤ q d

-- Q is P with some waits left out
pub record Fewer (P Q : Plan) : Type 0 where
  pub drones_same : Q.drones ≡ P.drones
  pub last_same : (d : ℕ) → Q.last d ≡ P.last d
  pub waits_in : (w : ℕ) → w < Q.count → ((Q.wait w).until ≡ 0) ⊎ ((x : ℕ) × (x < P.count) × (P.wait x ≡ Q.wait w))
