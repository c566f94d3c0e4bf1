use Rattle.sound.proofs.Asking.{Failing}
use Rattle.sound.proofs.unused.is_zero.Given as goal

abbrev pub invariant-loop-i : goal.invariant-loop-i
invariant-loop-i g l = Failing (λ x. g.T.PartialEq.eq x l.zero) l.zero l.used l.full l.table l.i l.total
