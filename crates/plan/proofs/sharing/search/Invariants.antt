-- The search of the location l has come to the slot.
use Prim.Native.Nat.{◌-◌}
use Rattle.below.specs.Below.{at}
use Rattle.plan.specs.Sharing.{slots}
use Rattle.plan.specs.Search.{Searching}
use Rattle.plan.proofs.sharing.search.Given as goal

abbrev pub invariant-loop-slot : goal.invariant-loop-slot
invariant-loop-slot l = Searching (at l.locations) l.n l.l l.links l.slot l.digits

abbrev pub decreases-loop-slot : goal.decreases-loop-slot
decreases-loop-slot l = slots - l.slot
