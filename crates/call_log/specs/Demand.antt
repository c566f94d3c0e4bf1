-- Demand 3: one claim about any list of calls after an accepted reading. Assumes nothing.
use Rattle.std.specs.Prelude.{◌≡◌, ◌⊎◌, true, false, List, ℕ, ◌≤◌, ◌<◌}
use Rattle.tables.specs.Limits.{Limits}
use Rattle.tables.specs.Tables.{PlanLists, Tables}
use Rattle.precedence.specs.Graph.{finished, legs_left, visited_after}
use Rattle.plan.specs.Field.{FieldPlan, graph, plan_of, Status, place_of}
use Rattle.plan.specs.Status.{status_in}
use Rattle.call_log.specs.CallLog.{Call, grant, accepted, status_by, Entry, reply_by, log_of, holds_location, short, flying}
use Rattle.call_log.specs.Calls.{Answer, step, AsRead, recorded, tables_after, Ran}

-- two statuses agree on every drone and every dependency of the plan: they "mark the same drones withdrawn; progress is compared for the others only"
pub record Agree (F : FieldPlan) (s s' : Status) : Type 0 where
  pub marks : (d : ℕ) → d < F.drones → s.withdrawn d ≡ s'.withdrawn d
  pub places : (d : ℕ) → d < F.drones → s'.withdrawn d ≡ false → s.place d ≡ s'.place d
  pub under_ways : (d : ℕ) → d < F.drones → s'.withdrawn d ≡ false → s.under_way d ≡ s'.under_way d
  pub turns : (w : ℕ) → w < F.count → s.turned w ≡ s'.turned w

-- "The tables show the log when each drone's progress and each dependency's bit 0 are as above"; "To show the log the tables must also mark the same drones withdrawn"
abbrev pub Shows : FieldPlan → List Entry → Tables → Type 0
Shows F log t = Agree F (status_in t) (status_by log)

-- what is found by the log alone
module _ (F : FieldPlan) (log : List Entry) where
  open F use {drones, meets}

  -- two drones that hold locations that meet, one location for instance, are one drone
  abbrev pub HeldByOne : Type 0
  HeldByOne = (d e l m : ℕ) → d < drones → e < drones → meets l m ≡ true → holds_location F (status_by log) d l ≡ true → holds_location F (status_by log) e m ≡ true → d ≡ e

  -- "A grant would be accepted when the log accepts a grant of some drone as the next call". A withdrawn drone is neither short nor under way here
  abbrev pub GoesOn : Type 0
  GoesOn = (d : ℕ) → d < drones → short F (status_by log) d ≡ true → ((e : ℕ) × (e < drones) × (flying F (status_by log) e ≡ true)) ⊎ ((e : ℕ) × (e < drones) × (reply_by F log (grant e) ≡ accepted))

  -- "Undelayed rounds are the rounds above, played from these places with these turns until every drone is at its last stop"; with legs, "demand 3's bound becomes
  -- the sum of the unvisited stops' legs". A withdrawn drone counts as beyond all its stops: none of them is unvisited
  abbrev pub Finishes : Type 0
  Finishes = (rounds : ℕ) × (rounds ≤ legs_left (graph F (status_by log)) F.leg (place_of F (status_by log))) × (finished (graph F (status_by log)) (visited_after (graph F (status_by log)) F.leg (place_of F (status_by log)) rounds) ≡ true)

-- found after the calls, by the log of the plan F: `got` is each call with the reply that it got, t' the tables that the last call left
pub record Found (F : FieldPlan) (calls : List Call) (got : List Entry) (t' : Tables) : Type 0 where
  -- "every call got the reply that document 01's call log gives"
  pub replies : got ≡ log_of F calls
  -- "the tables show the progress and turns of that log"
  pub shown : Shows F (log_of F calls) t'
  -- "by it no crossing is held by two drones"
  pub held : HeldByOne F (log_of F calls)
  -- "if some drone is short of its last stop, some drone is under way or a grant would now be accepted"
  pub goes_on : GoesOn F (log_of F calls)
  -- "and undelayed rounds finish everybody in no more rounds than there are unvisited stops", which is so with legs of one (`FinishesByStops` in Forms.antt)
  pub finishes : Finishes F (log_of F calls)

-- what is claimed of a program: "any accepted plan, then every list of grants, arrivals and turns, of any length and order, whatever drone or
-- dependency each names, refused ones included"; "Demand 3 now allows group turns among the calls"; "Demand 3 allows withdrawals among the calls"
abbrev pub Demand3Of : Limits → (Tables → Call → Answer) → Type 0
Demand3Of L program = (lists : PlanLists) (t : Tables) (calls : List Call) → AsRead L lists t → Found (plan_of lists) calls (recorded program t calls) (tables_after program t calls)

-- demand 3 of the conductor's calls
abbrev pub Demand3 : Type 0
Demand3 = (L : Limits) → Demand3Of L (step L)

-- the same of any run of real calls, known by their contracts alone
abbrev pub Demand3OfContracts : Type 0
Demand3OfContracts = (L : Limits) (lists : PlanLists) (t : Tables) (calls : List Call) (got : List Entry) (t' : Tables) → AsRead L lists t → Ran (step L) t calls got t' → Found (plan_of lists) calls got t'
