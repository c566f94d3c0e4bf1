use mathlib.Core.Path.{sym, ◌∙◌}
use native.Mathlib.Omega.{arith}
use Rattle.cycles.proofs.NeedLaws.{below_none, below_push}
use Rattle.cycles.proofs.walk.stack_movers.Goals as goal

pub loop-d-init : goal.loop-d-init
loop-d-init c = (omega arith, omega arith, below_none _ c.requires.0 _ _ c.requires.2)

pub loop-d-preserved : goal.loop-d-preserved
loop-d-preserved c = (omega arith, omega arith, below_push _ c.requires.0 _ _ (omega arith) c.loop-d.invariant.2 (sym c.can_move.ensures ∙ c.if-not-can_move.false))
