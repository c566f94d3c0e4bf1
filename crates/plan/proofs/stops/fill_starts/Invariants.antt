-- The running sum is the first stop of the drone to come, and the starts below it are filled.
use mathlib.Core.Path.{◌≡◌}
use Rattle.below.specs.Below.{fill_below}
use Rattle.plan.specs.Stops.{start}
use Rattle.plan.proofs.stops.fill_starts.Given as goal

abbrev pub invariant-loop-d : goal.invariant-loop-d
invariant-loop-d l = (l.next ≡ start l.counts l.d) × (l.starts ≡ fill_below l.d (start l.counts) l.initial.starts)
