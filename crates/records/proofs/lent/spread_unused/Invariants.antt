-- `records::lent::spread_unused` meets its contract: the columns are those of the records up to the block's beginning, whether the blocks before it were put or are zero. Assumes nothing.
use Prim.Native.Nat.{◌≤◌, ◌-◌}
use Rattle.tables.specs.Limits.{limits}
use Rattle.records.specs.Records.{InColumns, used_records}
use Rattle.records.proofs.lent.spread_unused.Given as goal

abbrev pub invariant-loop-i : goal.invariant-loop-i
invariant-loop-i l = (l.i ≤ l.n) × (InColumns (used_records limits l.i l.deps) l.stops l.drones l.flags)

abbrev pub decreases-loop-i : goal.decreases-loop-i
decreases-loop-i l = l.n - l.i
