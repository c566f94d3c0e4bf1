-- The waits that the columns of the dependencies hold (document 01, "The graph" and "The calls"). Assumes nothing.
use Rattle.std.specs.Prelude.{Bool, false, ◌&&◌, ◌||◌, List, ℕ, suc, ltb, eqb}
use Rattle.below.specs.Below.{at}
use Rattle.tables.specs.Flags.{turned_bit, withdrawn_bit}
use Rattle.precedence.specs.Graph.{Wait}
use Rattle.plan.specs.Visits.{same_location}
use Rattle.plan.specs.Field.{FieldPlan, Status, in_force, wait_of, wait_unless}
use Rattle.plan.specs.Columns.{Columns}

-- a wait into the next stop of drone d whose awaited stop is not visited: `blocks` of the plan graph, for one wait
unfoldable pub blocks_next : Wait → (ℕ → ℕ) → ℕ → Bool
blocks_next w p d = eqb w.waiter d && eqb w.stop (suc (p d)) && ltb (p w.awaited) w.until

-- the same for a dependency by its fields, in the order now in force, x saying who is withdrawn
unfoldable pub entry_blocks : (turned : Bool) (first first_stop second second_stop : ℕ) → (ℕ → ℕ) → (ℕ → Bool) → ℕ → Bool
entry_blocks turned first first_stop second second_stop p x d = blocks_next (wait_unless (x first || x second) (wait_of (in_force turned (record { first = first; first_stop = first_stop; second = second; second_stop = second_stop })))) p d

-- who is withdrawn, by the flag bytes
abbrev pub withdrawn_in : List ℕ → ℕ → Bool
withdrawn_in drone_flags d = withdrawn_bit (at drone_flags d)

-- the plan of which the columns are known and nothing else: what a drone waits for asks for no more
abbrev pub plan_in : ℕ → Columns → FieldPlan
plan_in count c = record {
  drones = 0;
  last = λ d. 0;
  location = λ d s. 0;
  time = λ d s. 0;
  leg = λ d s. 0;
  meets = same_location;
  count = count;
  dependency = λ w. record { first = at c.first_drones w; first_stop = at c.first_stops w; second = at c.second_drones w; second_stop = at c.second_stops w };
}

-- and the status of which the last visited stops, the marks and the turns are known
abbrev pub status_of : (visited drone_flags : List ℕ) → Columns → Status
status_of visited drone_flags c = record { place = at visited; under_way = λ d. false; withdrawn = withdrawn_in drone_flags; turned = λ w. turned_bit (at c.flags w) }
