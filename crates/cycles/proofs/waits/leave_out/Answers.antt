-- The first k waits are left out where they must be, and the others are as they were.
use Rattle.cycles.proofs.Aside.{left_all}
use Rattle.cycles.proofs.waits.leave_out.Goals as goal

pub returns-then-withdrawn_total-eq0 : goal.returns-then-withdrawn_total-eq0
returns-then-withdrawn_total-eq0 c = left_all _ _ _ _ _ _ _ c.requires c.withdrawn_total.ensures c.if-withdrawn_total-eq0.true
