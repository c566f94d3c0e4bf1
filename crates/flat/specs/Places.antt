-- Where the drones count as standing, from the lent lists (document 02, point 10). Assumes nothing.
use Rattle.std.specs.Prelude.{◌≡◌, List, ℕ, ◌≤◌, ◌<◌, length}
use Rattle.below.specs.Below.{at, pick}
use Rattle.plan.specs.Waits.{withdrawn_in}

-- a withdrawn drone "counts as beyond all its stops": it stands at its last one
unfoldable pub stands_at : (visited drone_flags lasts : List ℕ) → ℕ → ℕ
stands_at visited drone_flags lasts d = pick (withdrawn_in drone_flags d) (at lasts d) (at visited d)

-- places, of full size, holds that of each drone
pub record Standing (full drones : ℕ) (visited drone_flags lasts places : List ℕ) : Type 0 where
  pub size : length places ≡ full
  pub room : drones ≤ length places
  pub are : (d : ℕ) → d < drones → at places d ≡ stands_at visited drone_flags lasts d
