use native.Mathlib.Omega.{arith}
use mathlib.Core.Path.{refl, ◌∙◌}
use Rattle.tables.specs.Limits.{limits}
use Rattle.handset.proofs.LoopLaws.{shifted, bit_fits, bit_added, bit_kept, granting_none, granting_low, granting_more, granting_faulted, granting_past_all, granting_done}
use Rattle.handset.proofs.button.grant_all.Goals.{in-Ok, in-Err-Withdrawn, in-Err-Finished, in-Err-UnderWay, in-Err-MustWait}
use Rattle.handset.proofs.button.grant_all.Goals as goal

pub loop-drone-init : goal.loop-drone-init
loop-drone-init c = (refl, granting_none limits _)

pub overflow_add-bits : goal.overflow_add-bits
overflow_add-bits c = let l = c.loop-drone in omega (arith, shifted l.drone c.loop-drone-test.true, bit_fits l.bits l.drone c.loop-drone-test.true (granting_low limits _ _ _ _ _ l.invariant.1))

pub returns-in-Err-Tables : goal.returns-in-Err-Tables
returns-in-Err-Tables c = granting_faulted limits _ _ _ _ _ _ c.loop-drone-test.true c.loop-drone.invariant.1 (rw c.in-Err-Tables.field-0-is at c.in-Err-Tables.ensures)

pub returns-in-Err-NoDrone : goal.returns-in-Err-NoDrone
returns-in-Err-NoDrone c = granting_past_all limits _ _ _ _ _ c.loop-drone-test.true c.loop-drone.invariant.1 (rw c.in-Err-NoDrone.field-0-is at c.in-Err-NoDrone.ensures)

pub loop-drone-preserved : goal.loop-drone-preserved
loop-drone-preserved c = let l = c.loop-drone in (
  c.grant.auto.drone_flags ∙ l.invariant.0,
  elim c.match-grant.branch [
    | in-Ok w ↦ granting_more limits _ _ _ _ _ _ _ l.invariant.1 w.in-Ok.ensures (w.bits-is ∙ bit_added _ _ c.loop-drone-test.true) refl
    | in-Err-Withdrawn w ↦ granting_more limits _ _ _ _ _ _ _ l.invariant.1 (rw w.in-Err-Withdrawn.field-0-is at w.in-Err-Withdrawn.ensures) (w.bits-is ∙ bit_kept _ l.drone) refl
    | in-Err-Finished w ↦ granting_more limits _ _ _ _ _ _ _ l.invariant.1 (rw w.in-Err-Finished.field-0-is at w.in-Err-Finished.ensures) (w.bits-is ∙ bit_kept _ l.drone) refl
    | in-Err-UnderWay w ↦ granting_more limits _ _ _ _ _ _ _ l.invariant.1 (rw w.in-Err-UnderWay.field-0-is at w.in-Err-UnderWay.ensures) (w.bits-is ∙ bit_kept _ l.drone) refl
    | in-Err-MustWait w ↦ granting_more limits _ _ _ _ _ _ _ l.invariant.1 (rw w.in-Err-MustWait.field-0-is at w.in-Err-MustWait.ensures) (w.bits-is ∙ bit_kept _ l.drone) refl
  ],
)

pub returns : goal.returns
returns c = granting_done limits _ _ _ _ c.loop-drone.invariant.1 (omega arith) (omega arith)
