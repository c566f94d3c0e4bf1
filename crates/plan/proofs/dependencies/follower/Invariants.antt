-- The least stop of those found follows v; whoever follows and is before it is at a location still to come. The walks of the numbers before k have come to their stops.
use Prim.Native.Nat.{◌-◌}
use Rattle.below.specs.Below.{at}
use Rattle.plan.specs.Dependencies.{later_from}
use Rattle.plan.proofs.NearLists.{Leading, Placing}
use Rattle.plan.proofs.dependencies.follower.Given as goal

abbrev pub invariant-loop-k : goal.invariant-loop-k
invariant-loop-k l = Leading l.walks.pairs.now (at l.walks.stops.locations.now) l.walks.stops.count l.v (later_from (at l.walks.stops.owners.now) (at l.walks.stops.times.now) l.from l.v) l.k l.m × Placing l.walks.pairs.now (at l.walks.stops.locations.now) l.walks.stops.count l.v (later_from (at l.walks.stops.owners.now) (at l.walks.stops.times.now) l.from l.v) l.from l.k l.places

abbrev pub decreases-loop-k : goal.decreases-loop-k
decreases-loop-k l = l.walks.near.ends - l.k
