-- `records::lent::spread_unused` meets its contract: the columns are those of the records up to the block's beginning, whether the blocks before it were put or are zero. Assumes nothing.
use mathlib.Core.Path.{sym, ◌∙◌}
use native.Mathlib.Omega.{arith}
use Rattle.tables.specs.Limits.{limits}
use Rattle.records.proofs.ColumnLaws.{in_same}
use Rattle.records.proofs.Unused.{in_zero}
use Rattle.records.proofs.lent.spread_unused.Goals as goal

pub loop-i-init : goal.loop-i-init
loop-i-init c = (omega arith, in_same limits _ _ _ (omega arith) c.requires)

pub zero_between-requires : goal.zero_between-requires
zero_between-requires c = record { from_le_to = omega arith; to_bound = omega arith }

pub spread_between-requires : goal.spread_between-requires
spread_between-requires c = record { from_le_to = omega arith; in_columns = c.loop-i.invariant.1 }

pub loop-i-preserved-then-not-zero_between : goal.loop-i-preserved-then-not-zero_between
loop-i-preserved-then-not-zero_between c = (omega arith, c.spread_between.ensures)

pub loop-i-preserved : goal.loop-i-preserved
loop-i-preserved c = let l = c.loop-i in
    (omega arith, in_zero limits _ l.i _ (sym c.zero_between.ensures ∙ c.if-not-zero_between.false) (omega arith) (omega arith) l.invariant.1)

pub returns : goal.returns
returns c = in_same limits _ c.loop-i.i _ (omega arith) c.loop-i.invariant.1
