-- The stops of all drones numbered through: those of drone 0 first, then those of drone 1, and so on, as the lent tables hold them. Assumes nothing.
use Rattle.std.specs.Prelude.{List, ℕ, suc, ◌-◌, ltb}
use Rattle.below.specs.Below.{first_below, sum_below, at}

-- the first stop of drone d; `counts` holds each drone's M
unfoldable pub start : List ℕ → ℕ → ℕ
start counts d = sum_below d (at counts)

-- the drone of stop v; past the last stop, the number of drones
unfoldable pub owner : ℕ → List ℕ → ℕ → ℕ
owner drones counts v = first_below drones (λ d. ltb v (start counts (suc d)))

-- the number of stop v among its drone's stops
unfoldable pub stop_number : ℕ → List ℕ → ℕ → ℕ
stop_number drones counts v = v - start counts (owner drones counts v)
