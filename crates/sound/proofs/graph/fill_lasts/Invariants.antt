use Prim.Native.Nat.{◌-◌, ◌≤◌}
use mathlib.Core.Path.{◌≡◌}
use Rattle.below.specs.Below.{at, fill_below}
use Rattle.sound.proofs.graph.fill_lasts.Given as goal

abbrev pub invariant-loop-d : goal.invariant-loop-d
invariant-loop-d l = (l.d ≤ l.drones) × (l.lasts ≡ fill_below l.d (λ j. at l.stop_counts j - 1) l.initial.lasts)
