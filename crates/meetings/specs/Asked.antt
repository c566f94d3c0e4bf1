-- What the functions ask of the lists of stops and of the table of pairs. Assumes nothing.
use Rattle.std.specs.Prelude.{List, ℕ, ◌≤◌, length}
use Rattle.below.specs.Below.{at}
use Rattle.tables.specs.Limits.{Limits, limits}
use Rattle.plan.specs.declared.lent.Stops.{Stops}
use Rattle.meetings.specs.Meetings.{Steady, Grouped}

-- n stops, drone by drone, each drone's times rising
pub record SteadyStops (L : Limits) (n : ℕ) (owners locations times : List ℕ) : Type 0 where
  pub has_owners : n ≤ length owners
  pub has_locations : n ≤ length locations
  pub has_times : n ≤ length times
  pub few : n ≤ L.stops
  pub grouped : Grouped (at owners) n
  pub steady : Steady (at owners) (at locations) (at times) n

-- the same of lent stops
abbrev pub StopsSteady : Stops → Type 0
StopsSteady stops = SteadyStops limits stops.count stops.owners.now stops.locations.now stops.times.now

-- m pairs
pub record PairTable (m : ℕ) (firsts seconds : List ℕ) : Type 0 where
  pub has_firsts : m ≤ length firsts
  pub has_seconds : m ≤ length seconds
