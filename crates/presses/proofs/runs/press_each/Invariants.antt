-- The reports so far are pressed; a turn presses one more.
use mathlib.Core.Path.{◌≡◌}
use lib.ListN.{length}
use Rattle.tables.specs.Limits.{limits}
use Rattle.records.specs.Records.{records_in}
use Rattle.presses.specs.Runs.{reports_in, PressesMade}
use Rattle.presses.proofs.runs.press_each.Given as goal

abbrev pub invariant-loop-number : goal.invariant-loop-number
invariant-loop-number l = (length l.visited ≡ length l.initial.visited)
    × (length l.drone_flags ≡ length l.initial.drone_flags)
    × PressesMade limits (records_in limits l.plan l.initial.visited l.initial.drone_flags l.dependencies) (reports_in l.reported) l.number-index l.shown.number l.shown.bits (records_in limits l.plan l.visited l.drone_flags l.dependencies)
