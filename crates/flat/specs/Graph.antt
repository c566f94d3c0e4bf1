-- What is asked of a lent plan before its drones are counted. Assumes nothing.
use Rattle.std.specs.Prelude.{List, ℕ, ◌≤◌, length}
use Rattle.below.specs.Below.{at}
use Rattle.plan.specs.Room.{Counts}

-- the count is there, and each drone's number of stops
pub record HasCounts (drone_count stop_counts : List ℕ) : Type 0 where
  pub has_drone_count : 1 ≤ length drone_count
  pub counted : Counts (at drone_count 0) stop_counts
