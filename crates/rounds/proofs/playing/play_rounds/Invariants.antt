use Rattle.below.specs.Below.{at}
use Rattle.tables.specs.Limits.{limits}
use Rattle.precedence.specs.Graph.{to_fly}
use Rattle.cycles.specs.Flat.{flat_plan}
use Rattle.rounds.specs.Remaining.{flat_leg}
use Rattle.rounds.specs.Playing.{on_copy}
use Rattle.rounds.proofs.PlayingLoop.{Playing}
use Rattle.rounds.proofs.playing.play_rounds.Given as goal

abbrev pub invariant-loop-head : goal.invariant-loop-head
invariant-loop-head l = Playing limits (flat_plan (at l.stops.owners.now) (at l.stops.starts.now) (at l.stops.lasts.now) l.stops.drones (at l.waits.from.now) (at l.waits.into.now) l.waits.count) (flat_leg (at l.stops.starts.now) (at l.legs)) (at l.waits.into.now) (at l.stops.starts.now) (at l.visited) l.places l.flown l.links l.k l.cost

abbrev pub decreases-loop-head : goal.decreases-loop-head
decreases-loop-head l = to_fly (flat_plan (at l.stops.owners.now) (at l.stops.starts.now) (at l.stops.lasts.now) l.stops.drones (at l.waits.from.now) (at l.waits.into.now) l.waits.count) (flat_leg (at l.stops.starts.now) (at l.legs)) (on_copy l.places l.flown)
