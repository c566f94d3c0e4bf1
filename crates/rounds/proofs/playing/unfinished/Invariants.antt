use Prim.Native.Nat.{◌≤◌}
use mathlib.Core.Path.{◌≡◌}
use lib.Dec.{ltb}
use Rattle.below.specs.Below.{count_below, at}
use Rattle.rounds.proofs.playing.unfinished.Given as goal

abbrev pub invariant-loop-d : goal.invariant-loop-d
invariant-loop-d l = (l.d ≤ l.stops.drones) × (l.count ≡ count_below l.d (λ i. ltb (at l.places i) (at l.stops.lasts.now i)))
