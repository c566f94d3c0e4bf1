-- The columns hold the dependencies of v with a second stop before w, and the cursor stands after them; w follows v too, if it is a stop, and the walks for the next one begin after it.
use Prim.Native.Nat.{◌-◌}
use Rattle.plan.specs.Columns.{columns_with}
use Rattle.plan.proofs.RowWalks.{Going}
use Rattle.plan.proofs.ColumnsLaws.{Rowing}
use Rattle.plan.proofs.dependencies.fill_row.Given as goal

abbrev pub invariant-loop-w : goal.invariant-loop-w
invariant-loop-w l = Rowing l.walks.pairs.now l.walks.stops.owners.now l.numbers l.walks.stops.locations.now l.walks.stops.times.now l.walks.stops.count l.v l.c (columns_with l.initial.first_drones l.initial.first_stops l.initial.second_drones l.initial.second_stops l.initial.flags) l.k l.first_drones l.first_stops l.second_drones l.second_stops l.flags l.w × Going l.walks.pairs.now l.walks.stops.owners.now l.walks.stops.locations.now l.walks.stops.times.now l.walks.stops.count l.v l.w l.own l.places

abbrev pub decreases-loop-w : goal.decreases-loop-w
decreases-loop-w l = l.walks.stops.count - l.w
