use mathlib.Core.Path.{refl}
use native.Mathlib.Omega.{arith}
use Rattle.below.proofs.Fill.{fill_store}
use Rattle.sound.proofs.Asking.{fill_none}
use Rattle.sound.proofs.graph.fill_lasts.Goals as goal

pub loop-d-init : goal.loop-d-init
loop-d-init c = (omega arith, fill_none _ _)

pub loop-d-preserved : goal.loop-d-preserved
loop-d-preserved c = (omega arith, fill_store _ _ _ _ c.loop-d.invariant.1 _ refl)
