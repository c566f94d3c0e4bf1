use Prim.Native.Nat.{◌+◌}
use Rattle.below.specs.Below.{at}
use Rattle.cycles.specs.Flat.{flat_plan}
use Rattle.rounds.specs.Playing.{Scanning}
use Rattle.rounds.proofs.playing.look.Given as goal

abbrev pub invariant-loop-wait : goal.invariant-loop-wait
invariant-loop-wait l = Scanning (flat_plan (at l.stops.owners.now) (at l.stops.starts.now) (at l.stops.lasts.now) l.stops.drones (at l.waits.from.now) (at l.waits.into.now) l.waits.count) (at l.waits.into.now) (at l.places) l.d (at l.stops.starts.now l.d + at l.places l.d + 1) l.wait

abbrev pub decreases-loop-wait : goal.decreases-loop-wait
decreases-loop-wait l = l.wait
