-- The tables that lent slices hold. Assumes nothing.
use Rattle.std.specs.Prelude.{List, ℕ}
use Rattle.tables.specs.Tables.{Tables, tables_of}
use Rattle.tables.specs.declared.lent.Plan.{Plan}
use Rattle.tables.specs.declared.lent.Sides.{Sides}

-- the tables that a lent plan, the drones' progress, the sides of the dependencies and their flag bytes make
abbrev pub lent_tables : Plan → (visited drone_flags : List ℕ) → Sides → (flags : List ℕ) → Tables
lent_tables plan visited drone_flags sides flags =
    tables_of
    plan.drone_count.now
    plan.dependency_count.now
    plan.form.now
    plan.names.now
    plan.stop_counts.now
    plan.locations.now
    plan.times.now
    plan.legs.now
    visited
    drone_flags
    sides.first_drones.now
    sides.first_stops.now
    sides.second_drones.now
    sides.second_stops.now
    flags
    plan.pairs.now
