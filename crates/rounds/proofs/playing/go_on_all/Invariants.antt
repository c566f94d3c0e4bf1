use Prim.Native.Nat.{◌≤◌}
use Rattle.below.specs.Below.{at}
use Rattle.rounds.specs.Playing.{SteppedBelow}
use Rattle.rounds.proofs.playing.go_on_all.Given as goal

abbrev pub invariant-loop-d : goal.invariant-loop-d
invariant-loop-d l = (l.d ≤ l.stops.drones) × SteppedBelow (at l.stops.starts.now) (at l.stops.lasts.now) (at l.legs) (at l.head) l.d l.initial.places l.places l.initial.flown l.flown l.initial.links l.links
