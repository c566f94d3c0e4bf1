use mathlib.Core.Path.{refl, ◌∙◌}
use Rattle.tables.specs.Limits.{limits}
use Rattle.presses.specs.Runs.{reports_in}
use Rattle.presses.proofs.RunLaws.{made_none, made_more}
use Rattle.presses.proofs.runs.press_each.Goals as goal

pub loop-number-init : goal.loop-number-init
loop-number-init c = (refl, refl, made_none limits _ (reports_in c.args.reported.now))

pub loop-number-preserved : goal.loop-number-preserved
loop-number-preserved c = let l = c.loop-number in
    let p = c.press-reply in (
      p.auto.visited ∙ l.invariant.0,
      p.auto.drone_flags ∙ l.invariant.1,
      made_more limits _ (reports_in c.args.reported.now) _ _ _ _ _ _ _ _ _ l.invariant.2 c.report_of-report.ensures p.ensures c.show-shown.ensures.0 c.show-shown.ensures.1,
    )
