use native.Mathlib.Omega.{arith}
use Rattle.raising.proofs.OrderLaws.{next_more, next-found, next-none}
use Rattle.raising.proofs.ordered.next_marked.Goals as goal

pub returns-then-marks-v-ne0 : goal.returns-then-marks-v-ne0
returns-then-marks-v-ne0 c = next-found _ c.loop-v.invariant c.if-marks-v-ne0.true

pub loop-v-preserved : goal.loop-v-preserved
loop-v-preserved c = next_more c.args.marks.now c.loop-v.invariant c.if-marks-v-ne0.false

pub returns : goal.returns
returns c = next-none _ c.loop-v.invariant (omega arith)
