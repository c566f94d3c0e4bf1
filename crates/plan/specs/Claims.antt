-- What is claimed of the numbering of the stops, the plan check and the graph of an accepted plan; the proofs are in proofs/. Assumes nothing.
use Rattle.std.specs.Prelude.{◌≡◌, ◌≢◌, ◌⊎◌, ◌↔◌, true, false, cond, List, ℕ, suc, ◌+◌, ◌-◌, ◌≤◌, ◌<◌, leb, eqb}
use Rattle.below.specs.Below.{at, is_in}
use Rattle.tables.specs.Tables.{PlanLists, drones, dependencies}
use Rattle.precedence.specs.Graph.{Formed, cyclic, Cycle}
use Rattle.plan.specs.Stops.{start, owner, stop_number}
use Rattle.near.specs.Near.{pair_count}
use Rattle.plan.specs.Visits.{Visits, same_location, visits_with}
use Rattle.plan.specs.Check.{fault_at, first_fault, collide, partner, collider, apart}
use Rattle.plan.specs.Answers.{check_of}
use Rattle.plan.specs.Dependencies.{dependency_total, column, flag_of}
use Rattle.plan.specs.Field.{Dependency, FieldPlan, Status, as_planned, before, after_turn, after_turns, after_withdrawal, of_withdrawn, graph, fixed, Checked, AcceptedPlan, meets_of, plan_of}

-- ---- the stops of all drones, numbered through

-- n stops: stop v is number `num v` of drone `own v`; drone d has the stops 0 to `last d`, and its stop s is stop `off d + s`
pub record Numbered (own num off last : ℕ → ℕ) (drones n : ℕ) : Type 0 where
  pub own_in : (v : ℕ) → v < n → own v < drones
  pub number_in_lem : (v : ℕ) → v < n → num v ≤ last (own v)
  pub number_is : (v : ℕ) → v < n → off (own v) + num v ≡ v
  pub place_in : (d s : ℕ) → d < drones → s ≤ last d → off d + s < n
  pub place_own : (d s : ℕ) → d < drones → s ≤ last d → own (off d + s) ≡ d
  pub place_number : (d s : ℕ) → d < drones → s ≤ last d → num (off d + s) ≡ s
  -- the stops of drone 0 stand first: owners never fall
  pub grouped : (v w : ℕ) → v ≤ w → w < n → own v ≤ own w

-- two stops, each as a drone and its stop
abbrev pub pair : (own num : ℕ → ℕ) → ℕ → ℕ → Dependency
pair own num v w = record { first = own v; first_stop = num v; second = own w; second_stop = num w }

-- ---- the plan in the tables

module _ (p : PlanLists) where
  -- the number of stops of all drones, and each stop's drone, number, location, time and leg
  abbrev pub stop_total : ℕ
  stop_total = start p.stop_counts (drones p)

  abbrev pub owner_in : ℕ → ℕ
  owner_in = owner (drones p) p.stop_counts

  abbrev pub number_in : ℕ → ℕ
  number_in = stop_number (drones p) p.stop_counts

  abbrev pub location_in : ℕ → ℕ
  location_in = at p.locations

  abbrev pub time_in : ℕ → ℕ
  time_in = at p.times

  abbrev pub leg_in : ℕ → ℕ
  leg_in = at p.legs

  abbrev pub visits_in : Visits
  visits_in = visits_with (meets_of p) owner_in number_in location_in time_in stop_total

  -- "stops M of one drone: 1 to ..": each drone has a stop
  abbrev pub HaveStops : Type 0
  HaveStops = (d : ℕ) → d < drones p → 1 ≤ at p.stop_counts d

  -- "LEG 0 at stop 0 and 1 to 60 rounds elsewhere": no leg into a stop that is not a drone's stop 0 is empty
  abbrev pub HaveLegs : Type 0
  HaveLegs = (v : ℕ) → v < stop_total → number_in v ≢ 0 → 1 ≤ leg_in v

  -- no stop is at fault: 7, 8, 9 and 12 are not said
  abbrev pub NoFault : Type 0
  NoFault = first_fault visits_in leg_in ≡ stop_total

  -- no two drones collide: 10 is not said
  abbrev pub NoCollision : Type 0
  NoCollision = apart visits_in ≡ true

  -- the stop that a collision is reported at, or the number of stops
  abbrev pub collider_in : ℕ
  collider_in = collider visits_in

  -- the two stops of a collision that is reported: "10 gives two of each, the pair with the lowest lower-numbered drone, then its stop, then the other drone,
  -- then its stop"
  pub record Reported (v w : ℕ) : Type 0 where
    pub first_in : v < stop_total
    pub second_in : w < stop_total
    pub collision : collide visits_in v w ≡ true
    pub lowest : (x y : ℕ) → x < stop_total → y < stop_total → collide visits_in x y ≡ true → ((v ≡ x) × (w ≡ y)) ⊎ (before (pair owner_in number_in v w) (pair owner_in number_in x y) ≡ true)

  -- how many dependencies the plan has, and f of each of them, (v, w) being its two stops, in order
  abbrev pub planned_total : ℕ
  planned_total = dependency_total visits_in

  abbrev pub planned_list : (ℕ → ℕ → ℕ) → List ℕ
  planned_list f = column visits_in f

  -- f of the plan's dependency k
  abbrev pub planned : (ℕ → ℕ → ℕ) → ℕ → ℕ
  planned f = at (planned_list f)

  -- "the dependencies are exactly its own, in order"
  pub record HoldsPlanned : Type 0 where
    pub total : dependencies p ≡ planned_total
    pub first_drones_lem : (k : ℕ) → k < dependencies p → at p.first_drones k ≡ planned (λ v w. owner_in v) k
    pub first_stops_lem : (k : ℕ) → k < dependencies p → at p.first_stops k ≡ planned (λ v w. number_in v) k
    pub second_drones_lem : (k : ℕ) → k < dependencies p → at p.second_drones k ≡ planned (λ v w. owner_in w) k
    pub second_stops_lem : (k : ℕ) → k < dependencies p → at p.second_stops k ≡ planned (λ v w. number_in w) k

-- the computed check finds nothing exactly when the plan is as document 01 asks, and the tables hold an accepted plan exactly when they hold the plan's own
-- dependencies too and no leg is empty
pub record AcceptedClaims : Type 0 where
  pub taken_exactly : (p : PlanLists) → HaveStops p → (NoFault p × NoCollision p) ↔ Checked (plan_of p)
  pub accepted_exactly : (p : PlanLists) → HaveStops p → (NoFault p × NoCollision p × HoldsPlanned p × HaveLegs p) ↔ AcceptedPlan (plan_of p)
  -- a collision is reported exactly when there is one, and it is the lowest
  pub reported_exactly : (p : PlanLists) → NoCollision p ↔ (collider_in p ≡ stop_total p)
  pub reported : (p : PlanLists) → HaveStops p → collider_in p < stop_total p → Reported p (collider_in p) (partner (visits_in p) (collider_in p))
  -- the flag byte that is planned for a dependency is right
  pub right_flags : (p : PlanLists) → HaveStops p → HoldsPlanned p → (k : ℕ) → k < dependencies p → planned p (flag_of (owner_in p) (number_in p) (stop_total p)) k ≡ cond (fixed (plan_of p) k) 2 0

-- ---- legs of at most one: what the check of document 01's plans said, it says

module _ (S : Visits) where
  open S use {num, loc, time, n}

  -- the number of the refusal at stop v of a plan without legs
  abbrev pub plain_fault : ℕ → ℕ
  plain_fault v = cond (eqb (num v) 0) (cond (eqb (time v) 0) 0 7) (cond (leb (time v) (time (v - 1))) 8 (cond (eqb (loc v) (loc (v - 1))) 9 0))

  -- no leg is above one, as those that a `plan=1` text reads as
  abbrev pub ShortLegs : (ℕ → ℕ) → Type 0
  ShortLegs leg = (v : ℕ) → v < n → leg v ≤ 1

pub record PlainClaims : Type 0 where
  pub plain_fault_lem : (S : Visits) (leg : ℕ → ℕ) (v : ℕ) → leg v ≤ 1 → fault_at S leg v ≡ plain_fault S v
  -- 12 is never said
  pub plain_never_12 : (S : Visits) (leg : ℕ → ℕ) (v : ℕ) → leg v ≤ 1 → fault_at S leg v ≢ 12
  pub plain_check : (S : Visits) (leg leg' : ℕ → ℕ) → ShortLegs S leg → ShortLegs S leg' → check_of S leg ≡ check_of S leg'

-- ---- collisions by timesteps (source document 004, Definition 1 and Assumption 1)

module _ (F : FieldPlan) where
  open F use {drones, last, location, time, leg, meets}

  -- the plan check stop by stop: what refusals 7, 8, 12 and 9 ask
  pub record StopsChecked : Type 0 where
    pub starts : (d : ℕ) → d < drones → time d 0 ≡ 0
    pub rises : (d s : ℕ) → d < drones → s < last d → time d s < time d (suc s)
    pub rises_by_leg : (d s : ℕ) → d < drones → s < last d → time d s + leg d (suc s) ≤ time d (suc s)
    pub moves : (d s : ℕ) → d < drones → s < last d → location d s ≢ location d (suc s)

  -- at timestep t drone d is at location l: it has moved there by its stop's time and moves on later, if at all. (004: a tuple "indicates that agent i is
  -- planned to perform a move action into the location .. at timestep" its time; "a wait action is implicitly defined between two consecutive tuples")
  pub record LocatedAt (d l t : ℕ) : Type 0 where
    pub stop : ℕ
    pub stop_in : stop ≤ last d
    pub here : location d stop ≡ l
    pub since : time d stop ≤ t
    pub until : stop < last d → t < time d (suc stop)

  -- at timestep t drone d moves away from location l
  pub record Leaves (d l t : ℕ) : Type 0 where
    pub stop : ℕ
    pub goes_on : stop < last d
    pub here : location d stop ≡ l
    pub then : time d (suc stop) ≡ t

  -- at timestep t drone d moves into location l
  pub record Enters (d l t : ℕ) : Type 0 where
    pub stop : ℕ
    pub goes_on : stop < last d
    pub here : location d (suc stop) ≡ l
    pub then : time d (suc stop) ≡ t

  -- 004, Definition 1: "We say two agents i, j collide if either of the following happens: 1. i and j are at the same location at the same timestep.
  -- 2. i leaves a location l at a timestep t and j enters the same location l at the timestep t." Two locations are the same here where they meet
  abbrev pub Collides : ℕ → ℕ → Type 0
  Collides i j = (l : ℕ) × (m : ℕ) × (t : ℕ) × (meets l m ≡ true) × ((LocatedAt i l t × LocatedAt j m t) ⊎ (Leaves i l t × Enters j m t))

  -- "A drone occupies a stop's location from its time to the time of its next stop, both included. It occupies its last location for ever."
  pub record Occupies (d l t : ℕ) : Type 0 where
    pub stop : ℕ
    pub stop_in : stop ≤ last d
    pub here : location d stop ≡ l
    pub since : time d stop ≤ t
    pub until : stop < last d → t ≤ time d (suc stop)

  -- "two such spans at one location share a timestep", since request 7 two "when their locations are equal or near"
  abbrev pub SpansShare : ℕ → ℕ → Type 0
  SpansShare i j = (l : ℕ) × (m : ℕ) × (t : ℕ) × (meets l m ≡ true) × Occupies i l t × Occupies j m t

  -- in one timestep two drones move each to the location of the other
  pub record Swaps (i j : ℕ) : Type 0 where
    pub stop_of_i : ℕ
    pub stop_of_j : ℕ
    pub i_goes_on : stop_of_i < last i
    pub j_goes_on : stop_of_j < last j
    pub i_to_j : location i (suc stop_of_i) ≡ location j stop_of_j
    pub j_to_i : location j (suc stop_of_j) ≡ location i stop_of_i
    pub together : time i (suc stop_of_i) ≡ time j (suc stop_of_j)

  -- no two different drones do so, in either order
  abbrev pub Never : (ℕ → ℕ → Type 0) → Type 0
  Never C = (i j : ℕ) → i < drones → j < drones → i ≢ j → C i j → ⊥

-- of a plan whose single stops pass, the test of collisions says exactly what 004 says, and what document 01 says of spans. "This covers equal place and time, and
-- leaving a location in the timestep in which another enters it. A swap is covered too."
pub record Definition1 : Type 0 where
  pub collisions : (p : PlanLists) → HaveStops p → NoFault p → NoCollision p ↔ Never (plan_of p) (Collides (plan_of p))
  pub spans : (p : PlanLists) → HaveStops p → NoFault p → NoCollision p ↔ Never (plan_of p) (SpansShare (plan_of p))
  -- in each timestep a drone is at one location
  pub one_location : (F : FieldPlan) → StopsChecked F → (d t : ℕ) → d < F.drones → (l : ℕ) × LocatedAt F d l t × ((m : ℕ) → LocatedAt F d m t → l ≡ m)
  pub swap_covered : (F : FieldPlan) → ((l : ℕ) → F.meets l l ≡ true) → (i j : ℕ) → Swaps F i j → Collides F i j
  -- .. which holds of the plan that tables hold
  pub same_meets : (p : PlanLists) (l : ℕ) → meets_of p l l ≡ true
  -- "A plan read without a site text behaves as before": only the same locations meet
  pub without_site : (p : PlanLists) → pair_count p.pairs ≡ 0 → (a b : ℕ) → meets_of p a b ≡ same_location a b

-- ---- the graph

module _ (F : FieldPlan) where
  open F use {count, dependency}

  -- the rule of dependency w, and what a turn of it does to the rules
  pub record TurnRules (s : Status) (w : ℕ) : Type 0 where
    -- "If drone j is there first at its stop s and drone i later at its stop k, then i may enter stop k only after j has visited stop s+1"
    pub planned_rule : of_withdrawn F s w ≡ false → s.turned w ≡ false → (graph F s).wait w ≡ record { waiter = (dependency w).second; stop = (dependency w).second_stop; awaited = (dependency w).first; until = suc (dependency w).first_stop }
    -- "Turning the dependency makes the rule: j may enter s only after i has visited k+1"
    pub turned_rule : of_withdrawn F s w ≡ false → s.turned w ≡ false → (graph F (after_turn s w)).wait w ≡ record { waiter = (dependency w).first; stop = (dependency w).first_stop; awaited = (dependency w).second; until = suc (dependency w).second_stop }
    -- every other dependency keeps its rule
    pub other_rules : (v : ℕ) → v ≢ w → (graph F (after_turn s w)).wait v ≡ (graph F s).wait v
    -- "Turning twice gives the first rule again"
    pub turned_twice : graph F (after_turn (after_turn s w) w) ≡ graph F s

  -- the same of a turn of a list, all at once
  pub record GroupRules (s : Status) (ws : List ℕ) : Type 0 where
    pub turned_rules : (w : ℕ) → is_in w ws ≡ true → of_withdrawn F s w ≡ false → s.turned w ≡ false → (graph F (after_turns s ws)).wait w ≡ record { waiter = (dependency w).first; stop = (dependency w).first_stop; awaited = (dependency w).second; until = suc (dependency w).second_stop }
    pub other_rules : (v : ℕ) → is_in v ws ≡ false → (graph F (after_turns s ws)).wait v ≡ (graph F s).wait v
    pub turned_twice : graph F (after_turns (after_turns s ws) ws) ≡ graph F s

  -- what a withdrawal of drone d does to the rules: those of its dependencies count for nothing, on either side, and every other stays
  pub record WithdrawalRules (s : Status) (d : ℕ) : Type 0 where
    pub own_rules : (w : ℕ) → ((dependency w).first ≡ d) ⊎ ((dependency w).second ≡ d) → ((graph F (after_withdrawal s d)).wait w).until ≡ 0
    pub other_rules : (w : ℕ) → (dependency w).first ≢ d → (dependency w).second ≢ d → (graph F (after_withdrawal s d)).wait w ≡ (graph F s).wait w

  -- a dependency of the stop s of drone d and the stop k of drone e, whichever is there first
  abbrev pub Between : ℕ → ℕ → ℕ → ℕ → Dependency → Type 0
  Between d s e k x = (x ≡ record { first = d; first_stop = s; second = e; second_stop = k }) ⊎ (x ≡ record { first = e; first_stop = k; second = d; second_stop = s })

  -- "none of the fixed ones turned"
  abbrev pub Unfixed : Status → Type 0
  Unfixed s = (w : ℕ) → w < count → s.turned w ≡ true → fixed F w ≡ false

  -- the graph of an accepted plan names only stops that are there, whatever is turned but fixed ones; as planned it has no cycle
  pub record PlannedGraph : Type 0 where
    pub formed : (s : Status) → Unfixed s → Formed (graph F s)
    pub no_cycle : Cycle (graph F as_planned) → ⊥
    pub acyclic : cyclic (graph F as_planned) ≡ false

  -- "Two visits of one location by different drones make exactly one dependency", since request 7 two "when their locations are equal or near"
  pub record OneDependency (d s e k : ℕ) : Type 0 where
    pub index : ℕ
    pub index_in : index < count
    pub is_theirs : Between d s e k (dependency index)
    pub no_other : (w : ℕ) → w < count → Between d s e k (dependency w) → w ≡ index

-- the dependencies of an accepted plan, what a turn does, and the graph as planned
pub record GraphClaims : Type 0 where
  pub one_dependency : (F : FieldPlan) → AcceptedPlan F → (d s e k : ℕ) → d < F.drones → s ≤ F.last d → e < F.drones → k ≤ F.last e → d ≢ e → F.meets (F.location d s) (F.location e k) ≡ true → OneDependency F d s e k
  pub turn_rules : (F : FieldPlan) (s : Status) (w : ℕ) → TurnRules F s w
  pub group_rules : (F : FieldPlan) (s : Status) (ws : List ℕ) → GroupRules F s ws
  pub withdrawal_rules : (F : FieldPlan) (s : Status) (d : ℕ) → WithdrawalRules F s d
  pub planned_graph : (F : FieldPlan) → AcceptedPlan F → PlannedGraph F
