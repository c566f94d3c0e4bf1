-- The running sum is the first stop of the drone to come.
use Prim.Native.Nat.{◌*◌, ◌≤◌}
use mathlib.Core.Path.{◌≡◌}
use Rattle.plan.specs.Stops.{start}
use Rattle.plan.proofs.stops.stop_total.Given as goal

abbrev pub invariant-loop-count : goal.invariant-loop-count
invariant-loop-count l = (l.total ≡ start l.counts l.count-index) × (l.total ≤ l.count-index * 65535)
