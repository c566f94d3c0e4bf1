-- "A drone's remaining rounds are those until it finishes, 0 if finished. Remaining cost is their sum" (document 01, "The calls"), in words that name no search: for any limits and any usable tables.
-- Assumes nothing.
use Rattle.std.specs.Prelude.{◌≡◌, ℕ, ◌≤◌, ◌<◌}
use Rattle.below.specs.Below.{sum_below}
use Rattle.precedence.specs.Graph.{visited_after, remaining}
use Rattle.tables.specs.Limits.{Limits}
use Rattle.tables.specs.Tables.{Tables}
use Rattle.plan.specs.Field.{FieldPlan, Status, graph, place_of, plan_of}
use Rattle.plan.specs.Status.{status_in}
use Rattle.call_log.specs.Calls.{costs, cost_reply}
use Rattle.call_log.specs.Claims.{Usable}

module _ (F : FieldPlan) (S : Status) where
  -- the last stop that drone d has visited after k undelayed rounds, from the places and with the turns of S
  abbrev pub stands_after : ℕ → ℕ → ℕ
  stands_after k d = visited_after (graph F S) F.leg (place_of F S) k d

  -- n is the least number of rounds after which drone d has visited its last stop
  pub record FinishesIn (d n : ℕ) : Type 0 where
    pub finished : F.last d ≤ stands_after n d
    pub none_fewer : (k : ℕ) → k < n → stands_after k d < F.last d

pub record RemainingCost (L : Limits) : Type 0 where
  -- each drone's remaining rounds are that number
  pub least : (t : Tables) → Usable L t → (d : ℕ) → d < (plan_of t.plan).drones
      → FinishesIn (plan_of t.plan) (status_in t) d (remaining (graph (plan_of t.plan) (status_in t)) (plan_of t.plan).leg (place_of (plan_of t.plan) (status_in t)) d)
  -- there is only one
  pub only : (t : Tables) (d m n : ℕ) → FinishesIn (plan_of t.plan) (status_in t) d m → FinishesIn (plan_of t.plan) (status_in t) d n → m ≡ n
  -- and the cost is the sum of the drones' numbers
  pub sum : (t : Tables) → Usable L t → (needs : ℕ → ℕ) → ((d : ℕ) → d < (plan_of t.plan).drones → FinishesIn (plan_of t.plan) (status_in t) d (needs d)) → cost_reply L t ≡ costs (sum_below (plan_of t.plan).drones needs)
