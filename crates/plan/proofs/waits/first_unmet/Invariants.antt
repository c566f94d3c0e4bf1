-- No entry before e blocks the drone.
use mathlib.Core.Path.{◌≡◌}
use Rattle.below.specs.Below.{first_below}
use Rattle.plan.specs.Columns.{columns_held}
use Rattle.plan.proofs.WaitsLaws.{blocks_at_lem}
use Rattle.plan.proofs.waits.first_unmet.Given as goal

abbrev pub invariant-loop-e : goal.invariant-loop-e
invariant-loop-e l = first_below l.e (blocks_at_lem l.count l.visited l.drone_flags (columns_held l.sides l.flags) l.d) ≡ l.e
