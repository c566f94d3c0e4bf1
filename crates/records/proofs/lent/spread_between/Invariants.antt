-- `records::lent::spread_between` meets its contract: at record i the columns are those of the first i records and zero records after them. Assumes nothing.
use Rattle.tables.specs.Limits.{limits}
use Rattle.records.specs.Records.{InColumns, overlaid, zero_records}
use Rattle.records.proofs.lent.spread_between.Given as goal

abbrev pub invariant-loop-i : goal.invariant-loop-i
invariant-loop-i l = InColumns (overlaid l.i l.deps (zero_records limits)) l.stops l.drones l.flags
