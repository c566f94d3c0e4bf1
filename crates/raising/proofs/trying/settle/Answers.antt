use mathlib.Core.Path.{◌∙◌}
use Rattle.tables.specs.Limits.{limits}
use Rattle.raising.proofs.LogLaws.{log_now}
use Rattle.raising.proofs.UpToDateLaws.{logs_back, raised_again}
use Rattle.raising.proofs.trying.settle.Goals as goal

pub undo-requires : goal.undo-requires
undo-requires c = ((c.in-Err.ensures.logs _ _ c.requires.log_at).in_room, (c.in-Err.ensures.logs _ _ c.requires.log_at).in_table, (c.in-Err.ensures.logs _ _ c.requires.log_at).table_size)

pub raise_in_order-requires : goal.raise_in_order-requires
raise_in_order-requires c = record { raisable = (c.requires.raisable.0, c.requires.raisable.1, c.requires.raisable.2); log_at = rw (c.undo.ensures ∙ (c.in-Err.ensures.logs _ _ c.requires.log_at).undoes) (log_now limits (logs_back limits c.requires.log_at c.in-Err.ensures.logs) c.requires.log_at); round_table = rw (c.undo.ensures ∙ (c.in-Err.ensures.logs _ _ c.requires.log_at).undoes) c.requires.round_table }

pub returns : goal.returns
returns c = raised_again limits (logs_back limits c.requires.log_at c.in-Err.ensures.logs) (c.undo.ensures ∙ (c.in-Err.ensures.logs _ _ c.requires.log_at).undoes) c.raise_in_order.ensures
