-- No stop there before w clashes with v.
use Prim.Native.Nat.{ℕ, ◌-◌}
use Rattle.below.specs.Below.{at}
use Rattle.plan.specs.Sharing.{MayBegin}
use Rattle.plan.specs.Check.{clash}
use Rattle.plan.proofs.NearLists.{Sought}
use Rattle.plan.proofs.check.partner_from.Given as goal

abbrev pub invariant-loop-w : goal.invariant-loop-w
invariant-loop-w l = (g : ℕ) → MayBegin (at l.stops.locations.now) l.stops.count g (clash (at l.stops.owners.now) (at l.stops.times.now) l.stops.count l.v) l.start → Sought (at l.stops.locations.now) l.stops.count g (clash (at l.stops.owners.now) (at l.stops.times.now) l.stops.count l.v) l.w

abbrev pub decreases-loop-w : goal.decreases-loop-w
decreases-loop-w l = l.stops.count - l.w
