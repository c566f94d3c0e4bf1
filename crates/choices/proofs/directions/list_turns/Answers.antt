use mathlib.Core.Path.{refl, sym}
use native.Mathlib.Omega.{arith}
use Rattle.below.proofs.Count.{count_start, count_hit, count_miss}
use Rattle.below.proofs.Picks.{pick_store, pick_skip}
use Rattle.choices.proofs.Directed.{turns_start}
use borrow.Author.Tests.{eq-eqb, ne_eqb}
use Rattle.choices.proofs.directions.list_turns.Goals as goal
use Rattle.choices.proofs.directions.list_turns.Goals.{then-to-w, else-to-w}

pub loop-w-init : goal.loop-w-init
loop-w-init c = (turns_start _ _, sym (count_start _), omega arith)

pub loop-w-preserved : goal.loop-w-preserved
loop-w-preserved c = elim c.if-to-w.branch [
  | then-to-w w ↦ (rw w.list-is (pick_store _ _ _ _ _ _ c.loop-w.invariant.0 _ _ (eq-eqb _ _ w.if-to-w.true) (omega arith) refl), rw w.n-is (count_hit _ _ _ c.loop-w.invariant.1 (eq-eqb _ _ w.if-to-w.true)), omega arith)
  | else-to-w w ↦ (rw w.list-is (pick_skip _ _ _ _ _ _ c.loop-w.invariant.0 (ne_eqb _ _ w.if-to-w.false)), rw w.n-is (count_miss _ _ _ c.loop-w.invariant.1 (ne_eqb _ _ w.if-to-w.false)), omega arith)
]
