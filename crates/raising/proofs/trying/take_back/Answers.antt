use mathlib.Core.Path.{◌∙◌}
use Rattle.raising.proofs.UpToDateLaws.{back_marked, back_fresh, table_there}
use Rattle.raising.proofs.trying.take_back.Goals as goal

pub undo-requires : goal.undo-requires
undo-requires c = ((c.requires.log_at.1 _ c.in-Some.is).leads.in_room, (c.requires.log_at.1 _ c.in-Some.is).leads.in_table, (c.requires.log_at.1 _ c.in-Some.is).leads.table_size)

pub returns-in-Some : goal.returns-in-Some
returns-in-Some c = rw c.in-Some.is (back_marked c.unlink_from.ensures c.requires.log_at.0 (c.requires.log_at.1 _ c.in-Some.is) c.undo.ensures)

pub unwrap-requires : goal.unwrap-requires
unwrap-requires c = table_there _ (c.fill-filled.ensures.0 ∙ c.requires.judgeable.2)

pub returns : goal.returns
returns c = let t = c.fill-filled.ensures.1 _ c.unwrap.ensures in rw c.in_default.is (back_fresh c.unlink_from.ensures c.requires.log_at.0 t.1 t.2 t.0)
