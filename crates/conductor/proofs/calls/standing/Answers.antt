-- `conductor::calls::standing` meets its contract: too few records are 41, and else what is told over the columns is told of the records that were spread into them. Assumes nothing.
use mathlib.Core.Path.{refl, sym, ◌∙◌}
use borrow.Author.Tests.{ltb-true, ltb-false}
use Rattle.tables.specs.Limits.{limits}
use Rattle.joining.specs.Standing.{standing_of}
use Rattle.joining.proofs.Cases.{stands-small}
use Rattle.records.proofs.ColumnLaws.{zero_in_columns}
use Rattle.records.proofs.Seen.{tables_short, seen_tables}
use Rattle.conductor.proofs.CallLaws.{told_over}
use Rattle.conductor.proofs.calls.standing.Goals as goal

pub returns-then-below_full : goal.returns-then-below_full
returns-then-below_full c = stands-small limits _ (tables_short limits _ c.args.dependencies.now refl (ltb-true _ _ (sym c.below_full.ensures ∙ c.if-below_full.true)))

pub spread-requires : goal.spread-requires
spread-requires c = zero_in_columns limits

pub returns : goal.returns
returns c =
    let wide = ltb-false _ _ (sym c.below_full.ensures ∙ c.if-below_full.false) in
    told_over limits (standing_of limits) (seen_tables limits c.spread.ensures wide c.sides_in.ensures c.args.plan.now _ _) c.tested.ensures
