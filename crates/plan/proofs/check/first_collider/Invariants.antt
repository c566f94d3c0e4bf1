-- No stop before v has a partner.
use Prim.Native.Nat.{ℕ}
use mathlib.Core.Path.{◌≡◌}
use lib.Dec.{ltb}
use mathlib.Core.List.{List}
use Rattle.plan.specs.Lent.{visits_held}
use Rattle.below.specs.Below.{at, first_below, pick}
use Rattle.plan.specs.Check.{partner}
use Rattle.near.specs.Near.{meets_in}
use Rattle.plan.specs.Sharing.{PlacedAhead}
use Rattle.plan.proofs.check.first_collider.Given as goal

abbrev pub invariant-loop-v : goal.invariant-loop-v
invariant-loop-v l = ((numbers : List ℕ) → first_below l.v (λ v. ltb (partner (visits_held (meets_in l.walks.pairs.now) l.walks.stops numbers) v) l.walks.stops.count) ≡ l.v) × PlacedAhead l.walks.pairs.now (at l.walks.stops.locations.now) l.walks.stops.count (pick l.rising l.v 0) l.places
