-- The running sum is the first stop of the drone to come, and the starts below it are filled.
use mathlib.Core.Path.{refl}
use native.Mathlib.Omega.{arith}
use Rattle.below.specs.Below.{fill_below}
use Rattle.below.proofs.Fill.{fill_store}
use Rattle.plan.proofs.StopsLaws.{start-turn, start-next}
use Rattle.plan.proofs.Numbering.{start_none}
use mathlib.Core.Path.{sym}
use Rattle.plan.proofs.stops.fill_starts.Goals as goal

pub loop-d-init : goal.loop-d-init
unfolding fill_below
loop-d-init c = (sym (start_none _), refl)

pub loop-d-preserved : goal.loop-d-preserved
loop-d-preserved c = (start-turn _ _ _ c.loop-d.invariant.0, fill_store _ _ _ _ c.loop-d.invariant.1 _ c.loop-d.invariant.0)

pub overflow_add-next : goal.overflow_add-next
overflow_add-next c = omega (arith, start-next c.args.counts.now c.loop-d.d c.loop-d.next c.loop-d.invariant.0 c.args.drones c.loop-d-test.true)
