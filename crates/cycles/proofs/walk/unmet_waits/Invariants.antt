use Prim.Native.Nat.{◌≤◌}
use Rattle.below.specs.Below.{at}
use Rattle.tables.specs.Limits.{limits}
use Rattle.cycles.specs.Walk.{met_at}
use Rattle.cycles.proofs.NeedLaws.{Counted}
use Rattle.cycles.proofs.walk.unmet_waits.Given as goal

abbrev pub invariant-loop-k : goal.invariant-loop-k
invariant-loop-k l = (l.k ≤ l.waits.count) × Counted limits (at l.waits.into.now) (met_at (at l.stops.owners.now) (at l.waits.from.now) (at l.cur)) l.k l.need
