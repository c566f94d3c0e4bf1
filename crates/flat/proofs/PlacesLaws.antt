-- The list of where the drones count as standing holds what the definition says. Assumes nothing.
use mathlib.Core.Path.{◌≡◌, refl, ◌∙◌}
use mathlib.Core.Bool.{Bool, true, false, cond}
use mathlib.Core.List.{List}
use Prim.Native.Nat.{ℕ, ◌-◌, ◌≤◌, ◌<◌}
use native.Mathlib.Omega.{arith}
use lib.ListN.{length}
use Rattle.below.specs.Below.{at, pick, fill_below}
use Rattle.below.proofs.Fill.{fill_length}
use Rattle.tables.specs.Limits.{Limits}
use Rattle.tables.specs.Tables.{Tables, drones}
use Rattle.plan.specs.Field.{plan_of, place_of}
use Rattle.plan.specs.Status.{status_in}
use Rattle.plan.specs.Waits.{withdrawn_in}
use Rattle.sound.specs.Asked.{WaitsInForce}
use Rattle.sound.proofs.Local.{filled_at}
use Rattle.flat.specs.Places.{stands_at, Standing}

-- what is stored for drone d
pub stands : (visited drone_flags lasts : List ℕ) (d y : ℕ) (b : Bool) → b ≡ withdrawn_in drone_flags d → y ≡ pick b (at lasts d) (at visited d) → y ≡ stands_at visited drone_flags lasts d
unfolding stands_at
stands visited drone_flags lasts d y b e h = rw e at h

-- the drones below n are all
pub standing : (n limit : ℕ) (visited drone_flags lasts places places₀ : List ℕ) → places ≡ fill_below n (stands_at visited drone_flags lasts) places₀ → length places₀ ≡ limit → n ≤ limit → Standing limit n visited drone_flags lasts places
standing n limit visited drone_flags lasts places places₀ e size few = record {
  size = fill_length _ _ _ _ e ∙ size;
  room = omega (arith, fill_length _ _ _ _ e);
  are = filled_at n (stands_at visited drone_flags lasts) places places₀ e (omega arith);
}

module _ {L : Limits} (t : Tables) (owners starts lasts from into : List ℕ) (T : WaitsInForce L t owners starts lasts from into) (places : List ℕ) {full : ℕ} (S : Standing full (drones t.plan) t.visited t.drone_flags lasts places) where
  pub places_are : (d : ℕ) → d < drones t.plan → at places d ≡ place_of (plan_of t.plan) (status_in t) d
  unfolding stands_at
  places_are d l = S.are d l ∙ go (withdrawn_in t.drone_flags d)
    where
      go : (b : Bool) → pick b (at lasts d) (at t.visited d) ≡ cond b (at t.plan.stop_counts d - 1) (at t.visited d)
      go true = T.lasts_are d l
      go false = refl
