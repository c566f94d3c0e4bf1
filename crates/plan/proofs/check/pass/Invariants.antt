-- The walks begin after v at the numbers across from those before k.
use mathlib.Core.Path.{◌≡◌}
use Prim.Native.Nat.{◌+◌, ◌-◌, ◌<◌}
use Rattle.below.specs.Below.{at}
use Rattle.plan.specs.Sharing.{pair_ends, PlacedAhead}
use Rattle.plan.proofs.check.pass.Given as goal

abbrev pub invariant-loop-k : goal.invariant-loop-k
invariant-loop-k l = PlacedAhead l.walks.pairs.now (at l.walks.stops.locations.now) l.walks.stops.count (l.v + 1) l.places × (l.k < pair_ends l.walks.pairs.now → at l.walks.pairs.now l.k ≡ at l.walks.stops.locations.now l.v)

abbrev pub decreases-loop-k : goal.decreases-loop-k
decreases-loop-k l = l.walks.near.ends - l.k
