-- Tables that are zeroed one by one are the zeroed tables, and zeroing keeps every length.
use mathlib.Core.Path.{◌≡◌}
use mathlib.Core.List.{List}
use Prim.Native.Nat.{ℕ, ◌*◌}
use Rattle.tables.specs.Limits.{Limits, most_pairs}
use Rattle.tables.specs.Tables.{Tables, tables_of, full_size}
use Rattle.tables.specs.Zero.{zeroed, zeroed_tables}
use Rattle.tables.proofs.Zero.{zeroed-length}
use Rattle.tables.proofs.SizeLaws.{SameLengths, full_size_lengths}

-- the lists afterwards, in the order of `tables_of`
module _ (L : Limits) (t : Tables) {a b c d e f g h i j k l m n o p : List ℕ} where
  pub each-zeroed :
      a ≡ zeroed 1 t.plan.drone_count
      → b ≡ zeroed 1 t.plan.dependency_count
      → c ≡ zeroed 1 t.plan.form
      → d ≡ zeroed (L.drones * L.name) t.plan.names
      → e ≡ zeroed L.drones t.plan.stop_counts
      → f ≡ zeroed L.stops t.plan.locations
      → g ≡ zeroed L.stops t.plan.times
      → h ≡ zeroed L.stops t.plan.legs
      → i ≡ zeroed L.drones t.visited
      → j ≡ zeroed L.drones t.drone_flags
      → k ≡ zeroed L.dependencies t.plan.first_drones
      → l ≡ zeroed L.dependencies t.plan.first_stops
      → m ≡ zeroed L.dependencies t.plan.second_drones
      → n ≡ zeroed L.dependencies t.plan.second_stops
      → o ≡ zeroed L.dependencies t.flags
      → p ≡ zeroed (2 * most_pairs) t.plan.pairs
      → tables_of a b c d e f g h i j k l m n o p ≡ zeroed_tables L t
  each-zeroed pa pb pc pd pe pf pg ph pi pj pk pl pm pn po pp = cc

pub zeroed_lengths : (L : Limits) (t : Tables) → SameLengths (zeroed_tables L t) t
zeroed_lengths L t = record {
  drone_count_lem = zeroed-length 1 t.plan.drone_count;
  dependency_count = zeroed-length 1 t.plan.dependency_count;
  form = zeroed-length 1 t.plan.form;
  names = zeroed-length (L.drones * L.name) t.plan.names;
  stop_counts_lem = zeroed-length L.drones t.plan.stop_counts;
  locations = zeroed-length L.stops t.plan.locations;
  times = zeroed-length L.stops t.plan.times;
  legs = zeroed-length L.stops t.plan.legs;
  first_drones_lem = zeroed-length L.dependencies t.plan.first_drones;
  first_stops_lem = zeroed-length L.dependencies t.plan.first_stops;
  second_drones_lem = zeroed-length L.dependencies t.plan.second_drones;
  second_stops_lem = zeroed-length L.dependencies t.plan.second_stops;
  visited = zeroed-length L.drones t.visited;
  drone_flags = zeroed-length L.drones t.drone_flags;
  flags = zeroed-length L.dependencies t.flags;
  pairs = zeroed-length (2 * most_pairs) t.plan.pairs;
}

pub zeroed-full_size : (L : Limits) (t : Tables) → full_size L (zeroed_tables L t) ≡ full_size L t
zeroed-full_size L t = full_size_lengths L (zeroed_tables L t) t (zeroed_lengths L t)
