-- What the code asks of the slices that it is lent: room for the entries, and numbers that fit their width. Assumes nothing.
use Rattle.std.specs.Prelude.{List, ℕ, ◌≤◌, ◌<◌, length}
use Rattle.below.specs.Below.{at}
use Rattle.tables.specs.Limits.{limits}
use Rattle.plan.specs.Stops.{start}
use Rattle.plan.specs.Columns.{Columns}

-- each drone's M is there, and a drone's number is a byte
pub record Counts (drones : ℕ) (counts : List ℕ) : Type 0 where
  pub has_counts : drones ≤ length counts
  pub drones_fit : drones ≤ 256

-- a table of each drone's first stop, of 16 bits
pub record StartsRoom (drones : ℕ) (counts starts : List ℕ) : Type 0 where
  pub counted : Counts drones counts
  pub has_starts : drones ≤ length starts
  pub stops_fit : start counts drones < 65536

-- tables of n stops: each stop's drone, and its number there, of 16 bits
pub record StopsRoom (drones : ℕ) (counts : List ℕ) (n : ℕ) (owners numbers : List ℕ) : Type 0 where
  pub counted : Counts drones counts
  pub has_owners : n ≤ length owners
  pub has_numbers : n ≤ length numbers
  pub owned : n ≤ start counts drones
  pub stops_fit : n ≤ 65536

-- tables of n stops, no more than the full size: each stop's drone, location and time
pub record VisitsRoom (n : ℕ) (owners locations times : List ℕ) : Type 0 where
  pub has_owners : n ≤ length owners
  pub has_locations : n ≤ length locations
  pub has_times : n ≤ length times
  pub few : n ≤ limits.stops

-- the same with each stop's number in its drone
pub record PlanRoom (n : ℕ) (owners numbers locations times : List ℕ) : Type 0 where
  pub visits : VisitsRoom n owners locations times
  pub has_numbers : n ≤ length numbers

-- m dependencies have room in the five columns, and their numbers are of 16 bits
pub record ColumnsRoom (m : ℕ) (c : Columns) : Type 0 where
  pub has_first_drones : m ≤ length c.first_drones
  pub has_first_stops : m ≤ length c.first_stops
  pub has_second_drones : m ≤ length c.second_drones
  pub has_second_stops : m ≤ length c.second_stops
  pub has_flags : m ≤ length c.flags
  pub dependencies_fit : m ≤ 65536

-- m dependencies whose drones, as drone d, have a last visited stop and a flag byte
pub record WaitsRoom (m : ℕ) (visited drone_flags : List ℕ) (c : Columns) (d : ℕ) : Type 0 where
  pub entries : ColumnsRoom m c
  pub first_in : (w : ℕ) → w < m → at c.first_drones w < length visited
  pub second_in : (w : ℕ) → w < m → at c.second_drones w < length visited
  pub drone_in : d < length visited
  pub first_marked : (w : ℕ) → w < m → at c.first_drones w < length drone_flags
  pub second_marked : (w : ℕ) → w < m → at c.second_drones w < length drone_flags
