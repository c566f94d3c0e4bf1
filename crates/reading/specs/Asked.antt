-- What the steps of a reading ask of the tables, which is room and a plan within the limits, and what they leave. Assumes nothing.
use Rattle.std.specs.Prelude.{◌≡◌, true, false, List, ℕ, ◌*◌, ◌≤◌, length}
use Rattle.below.specs.Below.{at}
use Rattle.tables.specs.Limits.{Limits, most_pairs}
use Rattle.tables.specs.Tables.{Tables, tables_of}
use Rattle.tables.specs.Zero.{zeroed, zeroed_tables}
use Rattle.near.specs.Near.{SoundPairs}
use Rattle.plan.specs.Stops.{start}
use Rattle.plan.specs.Columns.{Columns}
use Rattle.plan.specs.Room.{ColumnsRoom}
use Rattle.reading.specs.Replies.{ReadingReply, is_taken}
use Rattle.reading.specs.Reading.{read_lines}

-- of the tables that hold a text's values: room for the dependencies, a plan within the limits, and pairs that a site text could give
pub record PlanAsked (L : Limits) (drone_count dependency_count stop_counts locations times legs : List ℕ) (c : Columns) (pairs : List ℕ) : Type 0 where
  pub has_drone_count : 1 ≤ length drone_count
  pub has_dependency_count : 1 ≤ length dependency_count
  pub has_stop_counts : L.drones ≤ length stop_counts
  pub has_locations : L.stops ≤ length locations
  pub has_times : L.stops ≤ length times
  pub has_legs : L.stops ≤ length legs
  pub has_columns : ColumnsRoom L.dependencies c
  pub has_pairs : SoundPairs L pairs
  pub drones_fit : at drone_count 0 ≤ L.drones
  pub stops_fit : start stop_counts (at drone_count 0) ≤ L.stops

-- of the tables that a text's values are read into
pub record LinesAsked (L : Limits) (drone_count dependency_count form names stop_counts locations times legs : List ℕ) (c : Columns) (pairs : List ℕ) : Type 0 where
  pub has_drone_count : 1 ≤ length drone_count
  pub has_dependency_count : 1 ≤ length dependency_count
  pub has_form : 1 ≤ length form
  pub has_names : L.drones * L.name ≤ length names
  pub has_stop_counts : L.drones ≤ length stop_counts
  pub has_locations : L.stops ≤ length locations
  pub has_times : L.stops ≤ length times
  pub has_legs : L.stops ≤ length legs
  pub has_columns : ColumnsRoom L.dependencies c
  pub has_pairs : SoundPairs L pairs

-- the tables with those zeroed that a text's lines are read into, and the pairs
abbrev pub text_zeroed : Limits → Tables → Tables
text_zeroed L t =
    tables_of (zeroed 1 t.plan.drone_count) t.plan.dependency_count (zeroed 1 t.plan.form) (zeroed (L.drones * L.name) t.plan.names) (zeroed L.drones t.plan.stop_counts)
    (zeroed L.stops t.plan.locations) (zeroed L.stops t.plan.times) (zeroed L.stops t.plan.legs) t.visited t.drone_flags
    t.plan.first_drones t.plan.first_stops t.plan.second_drones t.plan.second_stops t.flags
    (zeroed (2 * most_pairs) t.plan.pairs)

-- tables that are zeroed but for the pairs: zeroing changes the pairs alone
abbrev pub ZeroedButPairs : Limits → Tables → Type 0
ZeroedButPairs L z =
    zeroed_tables L z
    ≡ tables_of z.plan.drone_count z.plan.dependency_count z.plan.form z.plan.names z.plan.stop_counts z.plan.locations z.plan.times z.plan.legs z.visited z.drone_flags
    z.plan.first_drones z.plan.first_stops z.plan.second_drones z.plan.second_stops z.flags (zeroed (2 * most_pairs) z.plan.pairs)

-- a text read into tables z: the reply, and the tables t that are left if it is taken. If it is refused, and z is zeroed but for the pairs, zeroing the pairs and what its lines wrote gives the tables
-- of the refusal
pub record TextStored (L : Limits) (text : List ℕ) (z : Tables) (r : ReadingReply) (t : Tables) : Type 0 where
  pub replied : r ≡ (read_lines L text z).reply
  pub left_taken : is_taken r ≡ true → t ≡ (read_lines L text z).tables
  pub left_refused : is_taken r ≡ false → ZeroedButPairs L z → text_zeroed L t ≡ (read_lines L text z).tables
