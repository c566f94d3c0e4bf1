-- `records::lent::spread` meets its contract: the used records are put, then the others, and all are what a call sees. Assumes nothing.
use mathlib.Core.Path.{refl, sym, ◌∙◌}
use native.Mathlib.Omega.{arith}
use lib.ListN.{length}
use borrow.Author.Tests.{ltb-true}
use Rattle.tables.specs.Limits.{limits}
use Rattle.records.proofs.Unused.{in_all}
use Rattle.records.proofs.ColumnLaws.{in_none}
use borrow.Author.Rules.{rules}
use Rattle.records.proofs.lent.spread.Goals as goal

pub returns-then-below_full : goal.returns-then-below_full
returns-then-below_full c = record { lent_records = refl; columns = λ l. absurd (omega (arith, l, ltb-true (length c.args.deps.now) limits.dependencies (sym c.below_full.ensures ∙ c.if-below_full.true))) }

pub spread_between-requires : goal.spread_between-requires
spread_between-requires c = record { from_le_to = search rules; in_columns = in_none limits _ c.requires }

pub spread_unused-requires : goal.spread_unused-requires
spread_unused-requires c = c.spread_between.ensures

pub returns : goal.returns
returns c = record { lent_records = refl; columns = λ l. in_all limits _ l c.spread_unused.ensures }
