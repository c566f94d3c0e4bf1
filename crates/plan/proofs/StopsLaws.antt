-- The numbering of the stops as a loop makes it: a running sum is the first stop of the drone to come, and a stop from there to the next sum is that drone's.
-- Assumes nothing.
use mathlib.Core.Path.{◌≡◌, refl, sym, ap, ◌∙◌}
use mathlib.Core.List.{List}
use Prim.Native.Nat.{ℕ, suc, ◌+◌, ◌-◌, ◌≤◌, ◌<◌}
use native.Mathlib.Nat.{le_antisymm}
use native.Mathlib.Omega.{arith}
use lib.Dec.{ltb}
use borrow.Author.Tests.{ltb-true, ltb-false}
use Rattle.below.specs.Below.{at}
use Rattle.below.proofs.Tests.{by_cases}
use Rattle.plan.specs.Stops.{start, owner, stop_number}
use Rattle.plan.proofs.Numbering.{start-suc, start-more, start_mono, owner_is}

-- the running sum s at drone d
module _ (counts : List ℕ) (d s : ℕ) (e : s ≡ start counts d) where
  pub start-turn : s + at counts d ≡ start counts (d + 1)
  start-turn = rw (start-more counts d, ← e) refl

  pub start_end : (drones : ℕ) → d ≤ drones → drones ≤ d → s ≡ start counts drones
  start_end drones a b = e ∙ ap (start counts) (le_antisymm a b)

  -- one more drone stays within the sum of all
  pub start-next : (drones : ℕ) → d < drones → s + at counts d ≤ start counts drones
  start-next drones l = omega (arith, start-suc counts d, start_mono counts (suc d) drones l)

  -- a drone whose first stop is not past a stop is one of the drones
  pub start-below : (drones v : ℕ) → s ≤ v → v < start counts drones → d < drones
  start-below drones v h l = by_cases (ltb d drones) (λ q. ltb-true d drones q) (λ q. absurd (omega (arith, start_mono counts drones d (ltb-false d drones q))))

  -- a stop v from there to the next sum
  module _ (drones v : ℕ) (l : d < drones) (h : s ≤ v) (k : v < s + at counts d) where
    pub cursor_owner : d ≡ owner drones counts v
    cursor_owner = sym (owner_is drones counts v d l (omega arith) (omega (arith, start-suc counts d)))

    pub cursor_number : v - s ≡ stop_number drones counts v
    unfolding stop_number
    cursor_number = rw (← cursor_owner, ← e) refl
