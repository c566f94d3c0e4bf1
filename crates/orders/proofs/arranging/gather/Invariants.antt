use lib.Dec.{eqb}
use Rattle.below.specs.Below.{at}
use Rattle.orders.specs.Arranged.{GatheredWaits}
use Rattle.orders.proofs.arranging.gather.Given as goal

abbrev pub invariant-loop-w : goal.invariant-loop-w
invariant-loop-w l = GatheredWaits (λ v. eqb (at l.opens v) l.kind) l.w l.waits.from.now l.waits.into.now l.spot l.initial.f l.initial.i l.f l.i l.next
