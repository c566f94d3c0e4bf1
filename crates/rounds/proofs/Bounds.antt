-- How great remaining rounds and cost can be: the stops of different drones lie apart, so that the unvisited ones are at most the stops that are no drone's
-- first. Assumes nothing.
use mathlib.Core.Path.{◌≡◌, sym, ap, ◌∙◌}
use Prim.Native.Nat.{ℕ, zero, suc, ◌+◌, ◌*◌, ◌-◌, ◌≤◌, ◌<◌}
use native.Mathlib.Nat.{mul-le-mul_left, mul-le-mul_right, mul_comm, mul_assoc, mul-add, le_trans}
use native.Mathlib.Omega.{arith}
use Rattle.below.specs.Below.{sum_below}
use Rattle.tables.specs.Limits.{Limits}
use Rattle.precedence.specs.Graph.{Plan, unvisited, cost}
use Rattle.precedence.proofs.Legs.{cost-bound, legs_bound}
use Rattle.cycles.specs.Flat.{flat_plan, Shape}
use Rattle.cycles.proofs.Fits.{stops_fit}

module _ (own off last : ℕ → ℕ) (drones n : ℕ) (from into : ℕ → ℕ) (m : ℕ) (shape : Shape own off last drones n) where
  gaps : (p : ℕ → ℕ) (e : ℕ) → sum_below e (λ d. last d - p d) + e ≤ sum_below e (λ d. suc (last d))
  unfolding sum_below
  gaps p zero = omega arith
  gaps p (suc e) = omega (arith, gaps p e)

  -- a first stop is never unvisited
  pub unvisited-bound : (p : ℕ → ℕ) → unvisited (flat_plan own off last drones from into m) p + drones ≤ n
  unfolding unvisited
  unvisited-bound p = omega (arith, gaps p drones, stops_fit own off last drones n shape)

-- d (s - d) rises with d up to the half of s
product_rises : (d e s : ℕ) → d ≤ e → e + e ≤ s → d * (s - d) ≤ e * (s - e)
product_rises d e s h k =
    let y : ℕ = s - d - e in
    let a : s - d ≡ e + y = omega arith in
    let b : s - e ≡ d + y = omega arith in
    rw (a, b, mul-add d e, mul-add e d, mul_comm d e) (omega (arith, mul-le-mul_right y h))

-- "Cost is at most 7,618,560", which is 60 times 64 times 1,984: with legs of at most g rounds it is at most g times what it is with legs of one
pub cost_limit : (L : Limits) (n g : ℕ) (P : Plan) (leg : ℕ → ℕ → ℕ) (p : ℕ → ℕ) → ((d s : ℕ) → d < P.drones → 0 < s → s ≤ P.last d → leg d s ≤ g) → unvisited P p + P.drones ≤ n → n ≤ L.stops → P.drones ≤ L.drones → L.drones + L.drones ≤ L.stops → cost P leg p ≤ g * (L.drones * (L.stops - L.drones))
cost_limit L n g P leg p short bound few_stops few_drones wide =
    le_trans (cost-bound P leg p) (le_trans (mul-le-mul_left P.drones (legs_bound P leg g p short)) (rw swapped (mul-le-mul_left g (le_trans (mul-le-mul_left P.drones (let h : unvisited P p ≤ L.stops - P.drones = omega arith in h)) (product_rises P.drones L.drones L.stops few_drones wide)))))
  where
    swapped : P.drones * (g * unvisited P p) ≡ g * (P.drones * unvisited P p)
    swapped = sym (mul_assoc P.drones g (unvisited P p)) ∙ ap (λ (x : ℕ). x * unvisited P p) (mul_comm P.drones g) ∙ mul_assoc g P.drones (unvisited P p)
