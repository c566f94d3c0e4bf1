-- `records::lent::spread_between` meets its contract: at record i the columns are those of the first i records and zero records after them. Assumes nothing.
use native.Mathlib.Omega.{arith}
use Rattle.tables.specs.Limits.{limits}
use Rattle.records.proofs.ColumnLaws.{in_more, in_used, in_first}
use Rattle.records.proofs.lent.spread_between.Goals as goal

pub loop-i-init : goal.loop-i-init
loop-i-init c = in_first limits _ _ _ c.within_used-first.ensures c.requires.in_columns

pub loop-i-preserved : goal.loop-i-preserved
loop-i-preserved c = let put = c.put_record.ensures in
    in_more limits _ c.loop-i.i (omega arith) (omega arith) put.stops_after put.drones_after put.flags_after c.loop-i.invariant

pub returns : goal.returns
returns c = in_used limits _ _ c.loop-i.i (omega (arith, c.requires.from_le_to)) c.loop-i.invariant
