-- The plan graph over stops that are numbered through, drone d's from `off d` on: wait k lets nobody into stop `into k` before stop `from k` is visited.
-- Assumes nothing.
use Rattle.std.specs.Prelude.{◌≡◌, List, ℕ, ◌+◌, ◌-◌, ◌≤◌, ◌<◌, length}
use Rattle.below.specs.Below.{at}
use Rattle.tables.specs.Limits.{Limits}
use Rattle.precedence.specs.Graph.{Plan}

-- the plan that they make
abbrev pub flat_plan : (own off last : ℕ → ℕ) (drones : ℕ) (from into : ℕ → ℕ) (m : ℕ) → Plan
flat_plan own off last drones from into m = record {
  drones = drones;
  last = last;
  count = m;
  wait = λ k. record { waiter = own (into k); stop = into k - off (own (into k)); awaited = own (from k); until = from k - off (own (from k)) };
}

-- where the stops lie
pub record Shape (own off last : ℕ → ℕ) (drones n : ℕ) : Type 0 where
  pub own_in : (v : ℕ) → v < n → own v < drones
  pub off_le : (v : ℕ) → v < n → off (own v) ≤ v
  pub number_in_lem : (v : ℕ) → v < n → v ≤ off (own v) + last (own v)
  pub place_in : (d s : ℕ) → d < drones → s ≤ last d → off d + s < n
  pub place_own : (d s : ℕ) → d < drones → s ≤ last d → own (off d + s) ≡ d

-- .. and the waits are between stops, none of them into a stop 0
pub record PlacedWaits (own off last : ℕ → ℕ) (drones n : ℕ) (from into : ℕ → ℕ) (m : ℕ) : Type 0 where
  pub shape : Shape own off last drones n
  pub from_in : (k : ℕ) → k < m → from k < n
  pub into_in : (k : ℕ) → k < m → into k < n
  pub into_later : (k : ℕ) → k < m → off (own (into k)) < into k

-- tables of such a plan, within the limits
pub record FlatTables (L : Limits) (owners starts lasts : List ℕ) (drones n : ℕ) (from into : List ℕ) (m : ℕ) : Type 0 where
  pub placed : PlacedWaits (at owners) (at starts) (at lasts) drones n (at from) (at into) m
  pub has_owners : n ≤ length owners
  pub few_stops : n ≤ L.stops
  pub few_waits : m ≤ L.dependencies
  pub few_drones : drones ≤ L.drones
