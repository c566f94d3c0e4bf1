use Prim.Native.Nat.{◌≤◌}
use Rattle.below.specs.Below.{at}
use Rattle.tables.specs.Limits.{limits}
use Rattle.cycles.specs.Walk.{Stacked, can_move}
use Rattle.cycles.proofs.NeedLaws.{below}
use Rattle.cycles.proofs.walk.stack_movers.Given as goal

abbrev pub invariant-loop-d : goal.invariant-loop-d
invariant-loop-d l = (l.d ≤ l.stops.drones) × (l.top ≤ l.d) × Stacked limits l.stops.drones (below (can_move (at l.stops.starts.now) (at l.stops.lasts.now) (at l.cur) (at l.need)) l.d) l.stack l.top
