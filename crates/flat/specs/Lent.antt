-- Functions that are lent some of the tables: what they ask and promise is said of all tables that hold what they are lent, whatever the other tables hold. Assumes nothing.
use Rattle.std.specs.Prelude.{List, ℕ}
use Rattle.tables.specs.Limits.{Limits}
use Rattle.tables.specs.Tables.{Tables, tables_of}
use Rattle.sound.specs.Asked.{WaitsInForce}
use Rattle.call_log.specs.Claims.{Usable}

-- `holding t` are the tables t with the lent lists in place of their own. P holds of some tables that hold the lent lists
pub record Lent (holding : Tables → Tables) (P : Tables → Type 0) : Type 0 where
  pub others : Tables
  pub holds : P (holding others)

-- Q holds of all tables that hold the lent lists and of which P holds
pub record Whatever (holding : Tables → Tables) (P Q : Tables → Type 0) : Type 0 where
  pub says : (t : Tables) → P (holding t) → Q (holding t)

-- usable tables, and local ones that hold their graph now in force
pub record UsableInForce (L : Limits) (owners starts lasts from into : List ℕ) (t : Tables) : Type 0 where
  pub usable : Usable L t
  pub in_force : WaitsInForce L t owners starts lasts from into

-- ---- the lists that functions are lent, in the order of the tables

-- the dependencies and the drones' progress
abbrev pub holding_dependencies : (dependency_count visited drone_flags first_drones first_stops second_drones second_stops flags : List ℕ) → Tables → Tables
holding_dependencies dependency_count visited drone_flags first_drones first_stops second_drones second_stops flags t = tables_of t.plan.drone_count dependency_count t.plan.form t.plan.names t.plan.stop_counts t.plan.locations t.plan.times t.plan.legs visited drone_flags first_drones first_stops second_drones second_stops flags t.plan.pairs

-- the counts, the legs, and the drones' places and marks
abbrev pub holding_places : (drone_count dependency_count stop_counts legs visited drone_flags : List ℕ) → Tables → Tables
holding_places drone_count dependency_count stop_counts legs visited drone_flags t = tables_of drone_count dependency_count t.plan.form t.plan.names stop_counts t.plan.locations t.plan.times legs visited drone_flags t.plan.first_drones t.plan.first_stops t.plan.second_drones t.plan.second_stops t.flags t.plan.pairs

-- ---- the lists that functions leave

-- the tables with other progress
abbrev pub with_progress : Tables → (visited drone_flags : List ℕ) → Tables
with_progress t visited drone_flags = record { plan = t.plan; visited = visited; drone_flags = drone_flags; flags = t.flags }

-- the tables with other flag bytes of the dependencies
abbrev pub with_flags : Tables → (flags : List ℕ) → Tables
with_flags t flags = record { plan = t.plan; visited = t.visited; drone_flags = t.drone_flags; flags = flags }
