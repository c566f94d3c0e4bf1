-- Waits between stops that are numbered through are formed waits of their plan. Assumes nothing.
use Prim.Native.Nat.{ℕ}
use native.Mathlib.Omega.{arith}
use Rattle.precedence.specs.Graph.{Formed}
use Rattle.cycles.specs.Flat.{flat_plan, PlacedWaits}

module _ (own off last : ℕ → ℕ) (drones n : ℕ) (from into : ℕ → ℕ) (m : ℕ) (placed : PlacedWaits own off last drones n from into m) where
  pub formed : Formed (flat_plan own off last drones from into m)
  formed k l = record {
    waiter_in = placed.shape.own_in (into k) (placed.into_in k l);
    stop_pos = omega (arith, placed.into_later k l);
    stop_in = omega (arith, placed.shape.number_in_lem (into k) (placed.into_in k l));
    awaited_in = placed.shape.own_in (from k) (placed.from_in k l);
    until_in = omega (arith, placed.shape.number_in_lem (from k) (placed.from_in k l));
  }
