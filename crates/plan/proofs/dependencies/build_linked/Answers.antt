-- The count chooses the answer; where it is within the full size there is room for all rows.
use mathlib.Core.Path.{◌∙◌}
use mathlib.Core.List.{[]}
use Rattle.plan.proofs.Unread.{counted_any}
use Rattle.plan.proofs.ColumnsLaws.{total-room, built-refused, built_done}
use Rattle.plan.proofs.dependencies.build_linked.Goals as goal

pub returns-then-total-gt-FULL : goal.returns-then-total-gt-FULL
returns-then-total-gt-FULL c = let the_parts = built-refused _ _ _ _ (c.count_dependencies-total.ensures [] ∙ counted_any _ _ _) c.if-total-gt-FULL.true in record { answer = the_parts.0; written = the_parts.1 }

pub fill_rows-requires : goal.fill_rows-requires
fill_rows-requires c = record { plan_room = c.requires.plan_room; columns_room = total-room _ _ _ _ (c.count_dependencies-total.ensures [] ∙ counted_any _ _ _) c.if-total-gt-FULL.false c.requires.columns_room }

pub returns : goal.returns
returns c = let the_parts = built_done _ _ _ _ (c.count_dependencies-total.ensures [] ∙ counted_any _ _ _) _ c.if-total-gt-FULL.false c.fill_rows.ensures in record { answer = the_parts.0; written = the_parts.1 }
