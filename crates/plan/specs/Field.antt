-- The accepted plan: drones, stops, times and dependencies, and the graph with some dependencies turned (document 01, "The plan check" and
-- "The graph"; request 14). Drones, stops and dependencies are numbered from 0. Assumes nothing.
use Rattle.std.specs.Prelude.{◌≡◌, ◌≢◌, ◌⊎◌, Bool, true, false, not, cond, ◌&&◌, ◌||◌, List, ℕ, suc, ◌+◌, ◌-◌, ◌≤◌, ◌<◌, ltb, eqb}
use Rattle.below.specs.Below.{at, is_in}
use Rattle.tables.specs.Tables.{PlanLists, drones as drone_count_of, dependencies as dependency_count_of}
use Rattle.plan.specs.Stops.{start}
use Rattle.near.specs.Near.{meets_in}
use Rattle.plan.specs.Visits.{Symmetric}
use Rattle.precedence.specs.Graph.{Wait, departure, Plan}

-- "drone j is there first at its stop s and drone i later at its stop k": first = j, first_stop = s, second = i, second_stop = k
pub record Dependency : Type 0 where
  pub first : ℕ
  pub first_stop : ℕ
  pub second : ℕ
  pub second_stop : ℕ

-- drones 0 to drones - 1; drone d with the stops 0 to last d, each with a location, a time and the rounds of the leg into it; which locations meet; dependencies
-- 0 to count - 1, as planned
pub record FieldPlan : Type 0 where
  pub drones : ℕ
  pub last : ℕ → ℕ
  pub location : ℕ → ℕ → ℕ
  pub time : ℕ → ℕ → ℕ
  pub leg : ℕ → ℕ → ℕ
  pub meets : ℕ → ℕ → Bool
  pub count : ℕ
  pub dependency : ℕ → Dependency

-- where the drones are and what is turned: each drone's place (its last visited stop), whether it is under way and whether it is withdrawn, and which dependencies
-- are turned
pub record Status : Type 0 where
  pub place : ℕ → ℕ
  pub under_way : ℕ → Bool
  pub withdrawn : ℕ → Bool
  pub turned : ℕ → Bool

-- "After an accepted reading nobody is under way and nothing is turned", "an accepted reading leaves nobody withdrawn", and every drone is at its stop 0
abbrev pub as_planned : Status
as_planned = record { place = λ d. 0; under_way = λ d. false; withdrawn = λ d. false; turned = λ w. false }

-- "first and second mean the order now in force": a turned dependency has first and second exchanged
abbrev pub in_force : Bool → Dependency → Dependency
in_force false e = e
in_force true e = record { first = e.second; first_stop = e.second_stop; second = e.first; second_stop = e.first_stop }

-- "i may enter stop k only after j has visited stop s+1"
abbrev pub wait_of : Dependency → Wait
wait_of e = departure e.first e.first_stop e.second e.second_stop

-- the wait, or one that counts for nothing if it is left out: a wait until stop 0
abbrev pub wait_unless : Bool → Wait → Wait
wait_unless out w = record { waiter = w.waiter; stop = w.stop; awaited = w.awaited; until = cond out 0 w.until }

-- "Turn: flips bit 0 of one dependency": what is turned after a turn of dependency w
abbrev pub flip : (ℕ → Bool) → ℕ → ℕ → Bool
flip turned w v = cond (eqb v w) (not (turned v)) (turned v)

-- "a turn of a list of dependencies, all at once": what is turned after it. A turn of one is that of the list of length one
abbrev pub flip_all : (ℕ → Bool) → List ℕ → ℕ → Bool
flip_all turned ws v = cond (is_in v ws) (not (turned v)) (turned v)

-- the status after a turn, and after one of a list
abbrev pub after_turn : Status → ℕ → Status
after_turn s w = record { place = s.place; under_way = s.under_way; withdrawn = s.withdrawn; turned = flip s.turned w }

abbrev pub after_turns : Status → List ℕ → Status
after_turns s ws = record { place = s.place; under_way = s.under_way; withdrawn = s.withdrawn; turned = flip_all s.turned ws }

-- who is withdrawn after a withdrawal of drone d, and the status after it: "Withdrawing changes only a mark in the drone's record"
abbrev pub mark : (ℕ → Bool) → ℕ → ℕ → Bool
mark withdrawn d e = cond (eqb e d) true (withdrawn e)

abbrev pub after_withdrawal : Status → ℕ → Status
after_withdrawal s d = record { place = s.place; under_way = s.under_way; withdrawn = mark s.withdrawn d; turned = s.turned }

-- "in rising order of planned first drone, its stop, planned second drone, its stop"
abbrev pub before : Dependency → Dependency → Bool
before x y = ltb x.first y.first || eqb x.first y.first && (ltb x.first_stop y.first_stop || eqb x.first_stop y.first_stop && (ltb x.second y.second || eqb x.second y.second && ltb x.second_stop y.second_stop))

module _ (F : FieldPlan) where
  open F use {drones, last, location, time, leg, meets, count, dependency}

  -- "a drone of the dependency is withdrawn"
  abbrev pub of_withdrawn : Status → ℕ → Bool
  of_withdrawn s w = s.withdrawn (dependency w).first || s.withdrawn (dependency w).second

  -- the graph now in force: drones with their stops, and one wait for each dependency. A withdrawn drone "counts as beyond all its stops, so nobody waits for it", the
  -- sound rule "passes over its own waits", and "cycles are looked for among the others": a wait of a withdrawn drone, on either side, is left out
  abbrev pub graph : Status → Plan
  graph s = record { drones = drones; last = last; count = count; wait = λ w. wait_unless (of_withdrawn s w) (wait_of (in_force (s.turned w) (dependency w))) }

  -- the stop at which drone d counts as standing where rounds and cost are found: "beyond all its stops" if it is withdrawn
  abbrev pub place_of : Status → ℕ → ℕ
  place_of s d = cond (s.withdrawn d) (last d) (s.place d)

  -- "Fixed means that the planned first stop is stop 0 or the planned second stop is the last of its drone"
  abbrev pub fixed : ℕ → Bool
  fixed w = eqb (dependency w).first_stop 0 || eqb (dependency w).second_stop (last (dependency w).second)

  -- ---- what "accepted plan" means

  -- the span of drone d at its stop s ends before that of drone e at its stop k begins: d goes on from s, and is at its next stop before e comes.
  -- ("A drone occupies a stop's location from its time to the time of its next stop, both included. It occupies its last location for ever.")
  pub record GoneBefore (d s e k : ℕ) : Type 0 where
    pub goes_on : s < last d
    pub in_time : time d (suc s) < time e k

  -- the plan check
  pub record Checked : Type 0 where
    -- "Stop 0 has time 0"
    pub starts : (d : ℕ) → d < drones → time d 0 ≡ 0
    -- "a drone's times strictly rise"
    pub rises : (d s : ℕ) → d < drones → s < last d → time d s < time d (suc s)
    -- "Each time rises by at least LEG"
    pub rises_by_leg : (d s : ℕ) → d < drones → s < last d → time d s + leg d (suc s) ≤ time d (suc s)
    -- "Neighbouring stops of a drone have different locations"
    pub moves : (d s : ℕ) → d < drones → s < last d → location d s ≢ location d (suc s)
    -- which locations meet does not depend on which is named first
    pub symmetric : Symmetric meets
    -- no two spans of different drones, at locations that are equal or near, share a timestep: one ends before the other begins
    pub no_collision : (d s e k : ℕ) → d < drones → s ≤ last d → e < drones → k ≤ last e → d ≢ e → meets (location d s) (location e k) ≡ true → GoneBefore d s e k ⊎ GoneBefore e k d s

  -- "Two visits of one location by different drones make exactly one dependency", since request 7 two "when their locations are equal or near"; first is the one that is there first
  pub record Meeting (x : Dependency) : Type 0 where
    pub first_in : x.first < drones
    pub first_stop_in : x.first_stop ≤ last x.first
    pub second_in : x.second < drones
    pub second_stop_in : x.second_stop ≤ last x.second
    pub different : x.first ≢ x.second
    pub one_location : meets (location x.first x.first_stop) (location x.second x.second_stop) ≡ true
    pub there_first : time x.first x.first_stop ≤ time x.second x.second_stop

  -- the plan is accepted, and the dependencies are exactly its own, in order
  pub record AcceptedPlan : Type 0 where
    pub checked : Checked
    pub each : (w : ℕ) → w < count → Meeting (dependency w)
    pub every : (x : Dependency) → Meeting x → (w : ℕ) × (w < count) × (dependency w ≡ x)
    pub ordered : (v w : ℕ) → v < w → w < count → before (dependency v) (dependency w) ≡ true
    -- no leg is empty: "LEG 0 at stop 0 and 1 to 60 rounds elsewhere"
    pub flies : (d s : ℕ) → d < drones → s < last d → 0 < leg d (suc s)

-- two plans agree: the same drones, stops, legs, meeting locations and dependencies, whatever their functions say of numbers that name none
pub record PlansAgree (F G : FieldPlan) : Type 0 where
  pub drones_agree : F.drones ≡ G.drones
  pub lasts_agree : (d : ℕ) → d < F.drones → F.last d ≡ G.last d
  pub locations_agree : (d s : ℕ) → d < F.drones → s ≤ F.last d → F.location d s ≡ G.location d s
  pub times_agree : (d s : ℕ) → d < F.drones → s ≤ F.last d → F.time d s ≡ G.time d s
  pub legs_agree : (d s : ℕ) → d < F.drones → s ≤ F.last d → F.leg d s ≡ G.leg d s
  pub meets_agree : (a b : ℕ) → F.meets a b ≡ G.meets a b
  pub counts_agree : F.count ≡ G.count
  pub dependencies_agree : (w : ℕ) → w < F.count → F.dependency w ≡ G.dependency w

-- "when their locations are equal or near": which locations meet in the plan that the lent lists hold
abbrev pub meets_of : PlanLists → ℕ → ℕ → Bool
meets_of l = meets_in l.pairs

-- the plan that the lent lists hold
abbrev pub plan_of : PlanLists → FieldPlan
plan_of l = record {
  drones = drone_count_of l;
  last = λ d. at l.stop_counts d - 1;
  location = λ d s. at l.locations (start l.stop_counts d + s);
  time = λ d s. at l.times (start l.stop_counts d + s);
  leg = λ d s. at l.legs (start l.stop_counts d + s);
  meets = meets_of l;
  count = dependency_count_of l;
  dependency = λ w. record { first = at l.first_drones w; first_stop = at l.first_stops w; second = at l.second_drones w; second_stop = at l.second_stops w };
}
