-- `records::lent::store_if` meets its contract: at record i the first i records are those that the columns make. Assumes nothing.
use mathlib.Core.Path.{◌≡◌}
use Rattle.tables.specs.Limits.{limits}
use Rattle.records.specs.Records.{overlaid, gathered}
use Rattle.records.proofs.lent.store_if.Given as goal

abbrev pub invariant-loop-i : goal.invariant-loop-i
invariant-loop-i l = l.deps ≡ overlaid l.i (gathered limits l.first_drones l.first_stops l.second_drones l.second_stops l.flags) l.initial.deps
