-- The places of the first d drones are filled.
use mathlib.Core.Path.{◌≡◌}
use Rattle.below.specs.Below.{fill_below}
use Rattle.flat.specs.Places.{stands_at}
use Rattle.flat.proofs.costing.fill_places.Given as goal

abbrev pub invariant-loop-d : goal.invariant-loop-d
invariant-loop-d l = l.places ≡ fill_below l.d (stands_at l.visited l.drone_flags l.lasts) l.initial.places
