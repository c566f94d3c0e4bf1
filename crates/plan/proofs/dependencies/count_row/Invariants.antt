-- The counter is the number of stops before w that follow v; w does too, if it is a stop, and the walks for the next one begin after it.
use mathlib.Core.List.{[]}
use Prim.Native.Nat.{◌-◌}
use Rattle.plan.proofs.RowWalks.{Going}
use Rattle.plan.proofs.ColumnsLaws.{Counting}
use Rattle.plan.proofs.dependencies.count_row.Given as goal

abbrev pub invariant-loop-w : goal.invariant-loop-w
invariant-loop-w l = Counting l.walks.pairs.now l.walks.stops.owners.now [] l.walks.stops.locations.now l.walks.stops.times.now l.walks.stops.count l.v l.c l.w × Going l.walks.pairs.now l.walks.stops.owners.now l.walks.stops.locations.now l.walks.stops.times.now l.walks.stops.count l.v l.w l.own l.places

abbrev pub decreases-loop-w : goal.decreases-loop-w
decreases-loop-w l = l.walks.stops.count - l.w
