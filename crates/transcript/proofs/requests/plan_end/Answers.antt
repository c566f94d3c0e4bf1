use native.Mathlib.Omega.{arith}
use mathlib.Core.Path.{◌≡◌, sym, ◌∙◌}
use lib.ListN.{length}
use Rattle.below.proofs.Search.{first_none, first_more}
use Rattle.transcript.proofs.PlanEnd.{ends_within, plan_found, plan_whole}
use Rattle.transcript.proofs.requests.plan_end.Goals as goal

pub loop-at-init : goal.loop-at-init
loop-at-init c = first_none _

pub overflow_add-result : goal.overflow_add-result
overflow_add-result c = let h = ends_within _ _ (sym c.ends_plan.ensures ∙ c.if-ends_plan.true) in omega arith

pub returns-then-ends_plan : goal.returns-then-ends_plan
returns-then-ends_plan c = plan_found _ _ c.loop-at-test.true c.loop-at.invariant (sym c.ends_plan.ensures ∙ c.if-ends_plan.true)

pub loop-at-preserved : goal.loop-at-preserved
loop-at-preserved c = first_more _ _ c.loop-at.invariant (sym c.ends_plan.ensures ∙ c.if-ends_plan.false)

pub returns : goal.returns
returns c = let e : c.loop-at.at ≡ length c.args.text.now = omega arith in sym e ∙ plan_whole _ _ (omega arith) (omega arith) c.loop-at.invariant
