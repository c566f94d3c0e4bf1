-- A turned dependency is the rule with first and second exchanged.
use mathlib.Core.Path.{sym, ◌∙◌}
use Rattle.plan.proofs.WaitsLaws.{entry_planned, entry_turned}
use Rattle.plan.proofs.waits.entry_blocks.Goals as goal

pub returns-then-is_turned : goal.returns-then-is_turned
returns-then-is_turned c = entry_turned _ _ _ _ _ _ _ _ _ (sym c.is_turned.ensures ∙ c.if-is_turned.true) (rw (c.from.ensures, c.from-2.ensures, c.from-3.ensures, c.from-4.ensures) at c.blocks_next.ensures)

pub returns-else-is_turned : goal.returns-else-is_turned
returns-else-is_turned c = entry_planned _ _ _ _ _ _ _ _ _ (sym c.is_turned.ensures ∙ c.if-is_turned.false) (rw (c.from.ensures, c.from-2.ensures, c.from-3.ensures, c.from-4.ensures) at c.blocks_next-else-is_turned.ensures)
