-- The drones below `drone` are asked, and none of the replies ended the asking; a turn asks one more.
use mathlib.Core.Path.{◌≡◌}
use lib.ListN.{length}
use Rattle.tables.specs.Limits.{limits}
use Rattle.records.specs.Records.{records_in}
use Rattle.handset.proofs.LoopLaws.{Granting}
use Rattle.handset.proofs.button.grant_all.Given as goal

abbrev pub invariant-loop-drone : goal.invariant-loop-drone
invariant-loop-drone l = (length l.drone_flags ≡ length l.initial.drone_flags)
    × Granting limits (records_in limits l.plan l.visited l.initial.drone_flags l.dependencies) l.drone (records_in limits l.plan l.visited l.drone_flags l.dependencies) l.bits 0
