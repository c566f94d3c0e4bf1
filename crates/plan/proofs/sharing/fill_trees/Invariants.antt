-- The trees hold the stops before w, which have their first stops.
use mathlib.Core.Path.{◌≡◌}
use Rattle.below.specs.Below.{at, fill_below}
use Rattle.plan.specs.Sharing.{first_at, Trees}
use Rattle.plan.proofs.sharing.fill_trees.Given as goal

abbrev pub invariant-loop-w : goal.invariant-loop-w
invariant-loop-w l = Trees (at l.locations) l.w l.links × (l.first ≡ fill_below l.w (first_at (at l.locations)) l.initial.first)
