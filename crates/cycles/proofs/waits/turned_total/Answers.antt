use mathlib.Core.Path.{sym}
use native.Mathlib.Omega.{arith}
use Rattle.below.proofs.Count.{count_le, count_start}
use Rattle.cycles.specs.Waits.{turned_in}
use Rattle.cycles.proofs.Directed.{turned_more}
use Rattle.cycles.proofs.StackLaws.{pick_le}
use Rattle.cycles.proofs.waits.turned_total.Goals as goal

pub loop-k-init : goal.loop-k-init
loop-k-init c = (omega arith, sym (count_start _))

pub overflow_add-total : goal.overflow_add-total
overflow_add-total c = omega (arith, c.loop-k.invariant.1, count_le c.loop-k.k (turned_in c.args.flags.now), c.pick16-total.ensures, pick_le c.turned_at.result)

pub loop-k-preserved : goal.loop-k-preserved
loop-k-preserved c = (omega arith, turned_more _ _ _ _ _ c.loop-k.invariant.1 c.turned_at.ensures c.pick16-total.ensures)
