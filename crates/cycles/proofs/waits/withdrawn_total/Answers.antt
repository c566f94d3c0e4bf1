-- The running total is the number of marks among the bytes that were looked at.
use mathlib.Core.Path.{sym}
use native.Mathlib.Omega.{arith}
use Rattle.below.proofs.Count.{count_le, count_start}
use Rattle.plan.specs.Waits.{withdrawn_in}
use Rattle.cycles.proofs.Directed.{turned_more}
use Rattle.cycles.proofs.StackLaws.{pick_le}
use Rattle.cycles.proofs.waits.withdrawn_total.Goals as goal

pub loop-d-init : goal.loop-d-init
loop-d-init c = (omega arith, sym (count_start _))

pub overflow_add-total : goal.overflow_add-total
overflow_add-total c = omega (arith, c.loop-d.invariant.1, count_le c.loop-d.d (withdrawn_in c.args.drone_flags.now), c.pick16-total.ensures, pick_le c.is_withdrawn.result)

pub loop-d-preserved : goal.loop-d-preserved
loop-d-preserved c = (omega arith, turned_more _ _ _ _ _ c.loop-d.invariant.1 c.is_withdrawn.ensures c.pick16-total.ensures)
