-- The visits of a plan: its stops, numbered through, each a visit of a location by a drone at a time; and when two locations meet. Assumes nothing.
use Rattle.std.specs.Prelude.{◌≡◌, Bool, true, List, ℕ, eqb}
use Rattle.below.specs.Below.{at}

-- n stops: stop v is number `num v` of drone `own v`, at the location `loc v` from the time `time v` on. Two locations meet where two drones may not be at both at once
pub record Visits : Type 0 where
  pub own : ℕ → ℕ
  pub num : ℕ → ℕ
  pub loc : ℕ → ℕ
  pub time : ℕ → ℕ
  pub meets : ℕ → ℕ → Bool
  pub n : ℕ

-- "Two visits of one location": without a site text two locations meet when they are the same
abbrev pub same_location : ℕ → ℕ → Bool
same_location a b = eqb a b

-- which of two locations is named first makes no difference
abbrev pub Symmetric : (ℕ → ℕ → Bool) → Type 0
Symmetric meets = (a b : ℕ) → meets a b ≡ true → meets b a ≡ true

-- visits of which some locations meet
abbrev pub visits_with : (meets : ℕ → ℕ → Bool) (own num loc time : ℕ → ℕ) (n : ℕ) → Visits
visits_with meets own num loc time n = record { own = own; num = num; loc = loc; time = time; meets = meets; n = n }

-- those of n stops in tables
abbrev pub visits_of : (meets : ℕ → ℕ → Bool) (owners numbers locations times : List ℕ) (n : ℕ) → Visits
visits_of meets owners numbers locations times n = visits_with meets (at owners) (at numbers) (at locations) (at times) n
