-- The stops from w on have their next ones.
use Rattle.below.specs.Below.{at}
use Rattle.plan.proofs.SharingLaws.{Nexting}
use Rattle.plan.proofs.sharing.fill_nexts.Given as goal

abbrev pub invariant-loop-w : goal.invariant-loop-w
invariant-loop-w l = Nexting (at l.first) l.n l.initial.next l.latest l.next l.w
