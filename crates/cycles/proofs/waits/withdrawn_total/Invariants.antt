-- The running total is the number of marks among the bytes that were looked at.
use Prim.Native.Nat.{◌≤◌}
use mathlib.Core.Path.{◌≡◌}
use Rattle.below.specs.Below.{count_below}
use Rattle.tables.specs.Limits.{limits}
use Rattle.plan.specs.Waits.{withdrawn_in}
use Rattle.cycles.proofs.waits.withdrawn_total.Given as goal

abbrev pub invariant-loop-d : goal.invariant-loop-d
invariant-loop-d l = (l.d ≤ limits.drones) × (l.total ≡ count_below l.d (withdrawn_in l.drone_flags))
