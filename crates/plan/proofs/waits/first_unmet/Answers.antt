-- No entry before e blocks the drone.
use Rattle.below.proofs.Search.{first_none, first_more}
use Rattle.plan.proofs.WaitsLaws.{blocks_at, unmet_hit, unmet_end}
use Rattle.plan.proofs.waits.first_unmet.Goals as goal

pub loop-e-init : goal.loop-e-init
loop-e-init c = first_none _

pub returns-then-entry_blocks : goal.returns-then-entry_blocks
returns-then-entry_blocks c = unmet_hit _ _ _ _ _ _ c.loop-e-test.true c.loop-e.invariant (blocks_at _ _ _ _ _ _ _ _ c.entry_blocks.ensures c.if-entry_blocks.true)

pub loop-e-preserved : goal.loop-e-preserved
loop-e-preserved c = first_more _ _ c.loop-e.invariant (blocks_at _ _ _ _ _ _ _ _ c.entry_blocks.ensures c.if-entry_blocks.false)

pub returns : goal.returns
returns c = unmet_end _ _ _ _ _ c.loop-e.e c.loop-e.auto.e-end c.loop-e-test.false c.loop-e.invariant
