use borrow.Author.Tests.{eq-eqb, ne_eqb}
use native.Mathlib.Omega.{arith}
use Rattle.orders.proofs.Gathering.{gathered_none, gathered_skip, gathered-more, gathered-below}
use Rattle.orders.proofs.arranging.gather.Goals as goal

pub loop-w-init : goal.loop-w-init
loop-w-init c = gathered_none

pub loop-w-preserved-then-opens-w : goal.loop-w-preserved-then-opens-w
loop-w-preserved-then-opens-w c = gathered_skip c.loop-w.invariant (ne_eqb _ _ c.if-opens-w.true)

pub offset_bounds-f-next : goal.offset_bounds-f-next
offset_bounds-f-next c = omega (arith, gathered-below c.loop-w.invariant _ _ c.loop-w-test.true (eq-eqb _ _ c.if-opens-w.false) c.requires.1)

pub bounds-f-next : goal.bounds-f-next
bounds-f-next c = omega (arith, gathered-below c.loop-w.invariant _ _ c.loop-w-test.true (eq-eqb _ _ c.if-opens-w.false) c.requires.1)

pub offset_bounds-i-next : goal.offset_bounds-i-next
offset_bounds-i-next c = omega (arith, gathered-below c.loop-w.invariant _ _ c.loop-w-test.true (eq-eqb _ _ c.if-opens-w.false) c.requires.1)

pub bounds-i-next : goal.bounds-i-next
bounds-i-next c = omega (arith, gathered-below c.loop-w.invariant _ _ c.loop-w-test.true (eq-eqb _ _ c.if-opens-w.false) c.requires.1)

pub overflow_add-next : goal.overflow_add-next
overflow_add-next c = omega (arith, gathered-below c.loop-w.invariant _ _ c.loop-w-test.true (eq-eqb _ _ c.if-opens-w.false) c.requires.1)

pub loop-w-preserved : goal.loop-w-preserved
loop-w-preserved c = gathered-more c.loop-w.invariant (eq-eqb _ _ c.if-opens-w.false)
