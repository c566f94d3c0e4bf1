-- The least stop of those found collides with v; whoever collides and is before it is at a location still to come.
use Prim.Native.Nat.{◌-◌}
use Rattle.below.specs.Below.{at}
use Rattle.plan.proofs.NearLists.{Leading}
use Rattle.plan.specs.Check.{clash}
use Rattle.plan.proofs.check.partner_of.Given as goal

abbrev pub invariant-loop-k : goal.invariant-loop-k
invariant-loop-k l = Leading l.walks.pairs.now (at l.walks.stops.locations.now) l.walks.stops.count l.v (clash (at l.walks.stops.owners.now) (at l.walks.stops.times.now) l.walks.stops.count l.v) l.k l.m

abbrev pub decreases-loop-k : goal.decreases-loop-k
decreases-loop-k l = l.walks.near.ends - l.k
