use Rattle.raising.proofs.OrderLaws.{NoneFrom}
use Rattle.raising.proofs.ordered.next_marked.Given as goal

abbrev pub invariant-loop-v : goal.invariant-loop-v
invariant-loop-v l = NoneFrom l.marks l.from l.v
