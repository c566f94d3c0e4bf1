-- The lent tables as lists: what contracts speak of (document 01, "Tables and what is sound"). Assumes nothing.
use Rattle.std.specs.Prelude.{Bool, ◌&&◌, List, ℕ, ◌*◌, ◌≤◌, leb, length, get_or}
use Rattle.tables.specs.Limits.{Limits, most_pairs}

-- what no call writes: "Drone count, dependency count, names, each drone's M, stops .. and dependencies are lent tables". The stops of all drones stand one
-- after another, those of drone 0 first; of a dependency the planned first drone and its stop, the planned second drone and its stop. "The tables hold the form", and the leg into each stop
pub record PlanLists : Type 0 where
  pub drone_count : List ℕ
  pub dependency_count : List ℕ
  pub form : List ℕ
  pub names : List ℕ
  pub stop_counts : List ℕ
  pub locations : List ℕ
  pub times : List ℕ
  pub legs : List ℕ
  pub first_drones : List ℕ
  pub first_stops : List ℕ
  pub second_drones : List ℕ
  pub second_stops : List ℕ
  -- request 7: "The site pairs are held in a further lent table"
  pub pairs : List ℕ

-- the tables: the plan, "drones' progress" (the last visited stop, and a flag byte whose bit 0 is "under way to the next"), and the dependencies' flag bytes
pub record Tables : Type 0 where
  pub plan : PlanLists
  pub visited : List ℕ
  pub drone_flags : List ℕ
  pub flags : List ℕ

-- the tables that hold these lists
abbrev pub tables_of :
    List ℕ → List ℕ → List ℕ → List ℕ → List ℕ → List ℕ → List ℕ → List ℕ → List ℕ → List ℕ → List ℕ → List ℕ → List ℕ → List ℕ → List ℕ → List ℕ → Tables
tables_of drone_count dependency_count form names stop_counts locations times legs visited drone_flags first_drones first_stops second_drones second_stops flags pairs = record {
  plan = record {
    drone_count = drone_count;
    dependency_count = dependency_count;
    form = form;
    names = names;
    stop_counts = stop_counts;
    locations = locations;
    times = times;
    legs = legs;
    first_drones = first_drones;
    first_stops = first_stops;
    second_drones = second_drones;
    second_stops = second_stops;
    pairs = pairs;
  };
  visited = visited;
  drone_flags = drone_flags;
  flags = flags;
}

-- f of each table and its full size: "Each table carries its own full size as a fixed figure, taken from the limits above"
abbrev pub each_table : (ℕ → List ℕ → List ℕ) → Limits → Tables → Tables
each_table f L t =
    tables_of
    (f 1 t.plan.drone_count)
    (f 1 t.plan.dependency_count)
    (f 1 t.plan.form)
    (f (L.drones * L.name) t.plan.names)
    (f L.drones t.plan.stop_counts)
    (f L.stops t.plan.locations)
    (f L.stops t.plan.times)
    (f L.stops t.plan.legs)
    (f L.drones t.visited)
    (f L.drones t.drone_flags)
    (f L.dependencies t.plan.first_drones)
    (f L.dependencies t.plan.first_stops)
    (f L.dependencies t.plan.second_drones)
    (f L.dependencies t.plan.second_stops)
    (f L.dependencies t.flags)
    (f (2 * most_pairs) t.plan.pairs)

-- a count stands alone in its table, and so does the form
abbrev pub drones : PlanLists → ℕ
drones p = get_or p.drone_count 0 0

abbrev pub dependencies : PlanLists → ℕ
dependencies p = get_or p.dependency_count 0 0

abbrev pub form_of : PlanLists → ℕ
form_of p = get_or p.form 0 0

-- refusal 41 turned round: no lent table is below full size
unfoldable pub full_size : Limits → Tables → Bool
full_size L t =
    leb 1 (length t.plan.drone_count)
    && (leb 1 (length t.plan.dependency_count)
    && (leb 1 (length t.plan.form)
    && (leb (L.drones * L.name) (length t.plan.names)
    && (leb L.drones (length t.plan.stop_counts)
    && (leb L.stops (length t.plan.locations)
    && (leb L.stops (length t.plan.times)
    && (leb L.stops (length t.plan.legs)
    && (leb L.dependencies (length t.plan.first_drones)
    && (leb L.dependencies (length t.plan.first_stops)
    && (leb L.dependencies (length t.plan.second_drones)
    && (leb L.dependencies (length t.plan.second_stops)
    && (leb L.drones (length t.visited)
    && (leb L.drones (length t.drone_flags)
    && (leb L.dependencies (length t.flags)
    && leb (2 * most_pairs) (length t.plan.pairs)))))))))))))))

-- the same as facts
pub record Sizes (L : Limits) (t : Tables) : Type 0 where
  pub drone_count_lem : 1 ≤ length t.plan.drone_count
  pub dependency_count : 1 ≤ length t.plan.dependency_count
  pub form : 1 ≤ length t.plan.form
  pub names : L.drones * L.name ≤ length t.plan.names
  pub stop_counts_lem : L.drones ≤ length t.plan.stop_counts
  pub locations : L.stops ≤ length t.plan.locations
  pub times : L.stops ≤ length t.plan.times
  pub legs : L.stops ≤ length t.plan.legs
  pub first_drones_lem : L.dependencies ≤ length t.plan.first_drones
  pub first_stops_lem : L.dependencies ≤ length t.plan.first_stops
  pub second_drones_lem : L.dependencies ≤ length t.plan.second_drones
  pub second_stops_lem : L.dependencies ≤ length t.plan.second_stops
  pub visited : L.drones ≤ length t.visited
  pub drone_flags : L.drones ≤ length t.drone_flags
  pub flags : L.dependencies ≤ length t.flags
  pub pairs : 2 * most_pairs ≤ length t.plan.pairs
