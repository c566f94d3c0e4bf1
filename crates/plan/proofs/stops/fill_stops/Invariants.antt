-- The stop to come is not before the first stop of the cursor's drone; the drones and numbers of the stops before it are filled.
use Prim.Native.Nat.{◌+◌, ◌-◌, ◌≤◌}
use mathlib.Core.Path.{◌≡◌}
use Rattle.below.specs.Below.{fill_below}
use Rattle.plan.specs.Stops.{start, owner, stop_number}
use Rattle.plan.proofs.stops.fill_stops.Given as goal

abbrev pub invariant-loop-v : goal.invariant-loop-v
invariant-loop-v l = (l.v ≤ l.n) × (l.first ≡ start l.counts l.d) × (l.first ≤ l.v) × (l.owners ≡ fill_below l.v (owner l.drones l.counts) l.initial.owners) × (l.numbers ≡ fill_below l.v (stop_number l.drones l.counts) l.initial.numbers)

abbrev pub decreases-loop-v : goal.decreases-loop-v
decreases-loop-v l = (l.n - l.v) + (l.drones - l.d)
