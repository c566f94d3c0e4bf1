use Prim.Native.Nat.{◌≤◌}
use mathlib.Core.Path.{◌≡◌}
use Rattle.below.specs.Below.{count_below, fill_below}
use Rattle.choices.specs.Searching.{choice_in}
use Rattle.choices.specs.Directions.{direction_of, direction_number}
use Rattle.choices.proofs.Directed.{open_in}
use Rattle.choices.proofs.directions.fill_directions.Given as goal

abbrev pub invariant-loop-w : goal.invariant-loop-w
invariant-loop-w l = (l.to ≡ fill_below l.w (λ v. direction_number (direction_of (open_in l.opens) (choice_in l.dirs l.depth) v)) l.initial.to) × (l.rank ≡ count_below l.w (open_in l.opens)) × (l.rank ≤ l.w)
