-- No stop before v is at fault.
use Rattle.below.proofs.Search.{first_none, first_more}
use Rattle.plan.proofs.CheckLaws.{no_fault, said_fault, said_none}
use Rattle.plan.proofs.check.check_stops.Goals as goal

pub loop-v-init : goal.loop-v-init
loop-v-init c = λ meets. first_none _

pub returns-in-Some : goal.returns-in-Some
returns-in-Some c = λ meets. said_fault _ _ c.loop-v.v (c.loop-v.invariant meets) c.loop-v-test.true c.in-Some.fault _ (c.in-Some.ensures meets _ _) (c.fault_case.ensures) c.stop_at.ensures

pub loop-v-preserved : goal.loop-v-preserved
loop-v-preserved c = λ meets. first_more _ _ (c.loop-v.invariant meets) (no_fault _ _ _ (c.in_default.ensures meets _ _))

pub returns : goal.returns
returns c = λ meets. said_none _ _ c.loop-v.v (c.loop-v.invariant meets) c.loop-v.auto.v-end c.loop-v-test.false
