-- The stops from w on have their next ones.
use Prim.Native.Nat.{◌-◌}
use mathlib.Core.Path.{refl}
use native.Mathlib.Omega.{arith}
use Rattle.plan.proofs.SharingLaws.{nexting_none, nexting_more, nexting_end}
use Rattle.plan.proofs.sharing.fill_nexts.Goals as goal

pub loop-w-init : goal.loop-w-init
loop-w-init c = nexting_none _ _ _

pub loop-w-preserved : goal.loop-w-preserved
loop-w-preserved c = nexting_more _ _ _ _ _ _ _ _ _ c.loop-w.invariant (omega arith) (omega arith) (omega arith) c.from-f.ensures (omega (arith, c.requires.3 (c.loop-w.w - 1) (omega arith))) refl

pub returns : goal.returns
returns c = nexting_end _ _ _ _ _ _ c.loop-w.invariant (omega arith) (omega arith)
