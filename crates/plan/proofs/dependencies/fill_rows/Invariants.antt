-- The columns hold the dependencies with a first stop before v, and the cursor stands after them.
use Prim.Native.Nat.{◌*◌}
use mathlib.Core.Path.{◌≡◌}
use lib.ListN.{length}
use Rattle.tables.specs.Limits.{most_pairs}
use Rattle.plan.specs.Visits.{visits_of}
use Rattle.below.specs.Below.{count_below, sum_below}
use Rattle.near.specs.Near.{meets_in}
use Rattle.plan.specs.Dependencies.{follows}
use Rattle.plan.specs.Columns.{columns_with, rows_written}
use Rattle.plan.proofs.dependencies.fill_rows.Given as goal

abbrev pub invariant-loop-v : goal.invariant-loop-v
invariant-loop-v l = (l.k ≡ sum_below l.v (λ u. count_below l.walks.stops.count (follows (visits_of (meets_in l.walks.pairs.now) l.walks.stops.owners.now l.numbers l.walks.stops.locations.now l.walks.stops.times.now l.walks.stops.count) u))) × (columns_with l.first_drones l.first_stops l.second_drones l.second_stops l.flags ≡ rows_written (visits_of (meets_in l.walks.pairs.now) l.walks.stops.owners.now l.numbers l.walks.stops.locations.now l.walks.stops.times.now l.walks.stops.count) l.v (columns_with l.initial.first_drones l.initial.first_stops l.initial.second_drones l.initial.second_stops l.initial.flags)) × (length l.places ≡ 2 * most_pairs)
