-- The counter is the number of dependencies with a first stop before v, and is within the full size.
use Prim.Native.Nat.{◌*◌, ◌≤◌}
use mathlib.Core.Path.{◌≡◌}
use mathlib.Core.List.{[]}
use lib.ListN.{length}
use Rattle.tables.specs.Limits.{limits, most_pairs}
use Rattle.plan.specs.Visits.{visits_of}
use Rattle.below.specs.Below.{count_below, sum_below}
use Rattle.near.specs.Near.{meets_in}
use Rattle.plan.specs.Dependencies.{follows}
use Rattle.plan.proofs.dependencies.count_dependencies.Given as goal

abbrev pub invariant-loop-v : goal.invariant-loop-v
invariant-loop-v l = (l.c ≡ sum_below l.v (λ u. count_below l.walks.stops.count (follows (visits_of (meets_in l.walks.pairs.now) l.walks.stops.owners.now [] l.walks.stops.locations.now l.walks.stops.times.now l.walks.stops.count) u))) × (l.c ≤ limits.dependencies) × (length l.places ≡ 2 * most_pairs)
