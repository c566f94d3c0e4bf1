-- `presses::runs::run_presses` meets its contract: the goals that the check leaves. Assumes nothing.
use mathlib.Core.Path.{refl}
use Rattle.tables.specs.Limits.{limits}
use Rattle.dispatch.proofs.RunLaws.{zero_tables_lem}
use Rattle.presses.proofs.RunLaws.{run_refused, run_taken}
use Rattle.presses.proofs.runs.run_presses.Goals as goal

pub returns-then-number-ne0 : goal.returns-then-number-ne0
returns-then-number-ne0 c = run_refused limits _ _ _ (zero_tables_lem limits _ c.zero_record-dependencies.ensures) _ _ c.read_plan-reading.ensures.answered_as _ c.number_of-number.ensures _ _ _ c.if-number-ne0.true (refl, refl)

pub returns : goal.returns
returns c = run_taken limits _ _ _ (zero_tables_lem limits _ c.zero_record-dependencies.ensures) _ _ c.read_plan-reading.ensures.answered_as _ c.number_of-number.ensures _ _ _ c.if-number-ne0.false _ c.press_each.ensures
