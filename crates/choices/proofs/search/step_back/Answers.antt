use native.Mathlib.Omega.{arith}
use Rattle.choices.proofs.SearchLoop.{back_none, back_at_left, back_on}
use Rattle.choices.proofs.search.step_back.Goals as goal

pub returns-then-dirs-last-ne1 : goal.returns-then-dirs-last-ne1
returns-then-dirs-last-ne1 c = omega (arith, back_at_left _ _ _ c.loop-last.invariant (omega arith) c.if-dirs-last-ne1.true)

pub loop-last-preserved : goal.loop-last-preserved
loop-last-preserved c = back_on _ _ _ c.loop-last.invariant (omega arith) c.if-dirs-last-ne1.false

pub returns : goal.returns
returns c = back_none _ _ _ c.loop-last.invariant (omega arith)
