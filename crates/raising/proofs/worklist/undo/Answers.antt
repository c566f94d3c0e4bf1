use Rattle.raising.proofs.LogLaws.{undo_turn}
use mathlib.Core.Path.{sym, ◌∙◌}
use native.Mathlib.Omega.{arith}
use lib.ListN.{length-set}
use Rattle.raising.proofs.LogLaws.{undone_all}
use Rattle.raising.proofs.worklist.undo.Goals as goal

pub loop-k-preserved : goal.loop-k-preserved
loop-k-preserved c = (undo_turn _ _ _ _ _ _ (omega arith) c.from.ensures ∙ c.loop-k.invariant.0, omega (arith, c.loop-k.invariant.1), simp length-set c.loop-k.invariant.2)

pub returns : goal.returns
returns c = sym (undone_all _ _ _ _ _ (omega arith)) ∙ c.loop-k.invariant.0
