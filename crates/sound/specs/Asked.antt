-- What the functions ask of counts and lists, and what they leave in local tables. Assumes nothing.
use Rattle.std.specs.Prelude.{◌≡◌, List, ℕ, ◌+◌, ◌-◌, ◌≤◌, ◌<◌, length}
use Rattle.below.specs.Below.{at}
use Rattle.tables.specs.Limits.{Limits}
use Rattle.tables.specs.Tables.{Tables}
use Rattle.tables.specs.declared.lent.Sides.{Sides}
use Rattle.precedence.specs.Graph.{Plan}
use Rattle.plan.specs.Stops.{start, owner, stop_number}
use Rattle.plan.specs.Field.{plan_of, graph}
use Rattle.plan.specs.Status.{status_in}
use Rattle.sound.specs.Parts.{name_sum}

-- counts that are in their ranges, and n stops in all
pub record Counted (L : Limits) (drones n m : ℕ) (counts : List ℕ) : Type 0 where
  pub has_counts : L.drones ≤ length counts
  pub some_drone : 1 ≤ drones
  pub few_drones : drones ≤ L.drones
  pub few_dependencies : m ≤ L.dependencies
  pub have_stops : (d : ℕ) → d < drones → 1 ≤ at counts d
  pub total : n ≡ start counts drones
  pub few_stops : n ≤ L.stops

-- the columns of the dependencies have room for m entries
pub record ColumnRoom (m : ℕ) (first_drones first_stops second_drones second_stops flags : List ℕ) : Type 0 where
  pub has_first_drones : m ≤ length first_drones
  pub has_first_stops : m ≤ length first_stops
  pub has_second_drones : m ≤ length second_drones
  pub has_second_stops : m ≤ length second_stops
  pub has_flags : m ≤ length flags

-- .. of lent sides
abbrev pub SidesRoom : (m : ℕ) → Sides → (flags : List ℕ) → Type 0
SidesRoom m sides = ColumnRoom m sides.first_drones.now sides.first_stops.now sides.second_drones.now sides.second_stops.now

-- the local tables hold each stop's drone and its number there, and each drone's first and last stop
pub record Numbers (L : Limits) (drones n : ℕ) (counts owners numbers starts lasts : List ℕ) : Type 0 where
  pub owners_size : length owners ≡ L.stops
  pub numbers_size : length numbers ≡ L.stops
  pub owners_are : (v : ℕ) → v < n → at owners v ≡ owner drones counts v
  pub numbers_are : (v : ℕ) → v < n → at numbers v ≡ stop_number drones counts v
  pub starts_are : (d : ℕ) → d < drones → at starts d ≡ start counts d
  pub lasts_are : (d : ℕ) → d < drones → at lasts d ≡ at counts d - 1

-- the tables hold the graph G of a plan whose drone d has `at counts d` stops, over stops that are numbered through: each stop's drone, each drone's first and last
-- stop, and of each wait the stop that nobody enters (`into`) before another is visited (`from`)
pub record GraphTables (L : Limits) (counts : List ℕ) (G : Plan) (owners starts lasts from into : List ℕ) : Type 0 where
  pub owners_size : length owners ≡ L.stops
  pub from_size : length from ≡ L.dependencies
  pub into_size : length into ≡ L.dependencies
  pub owners_are : (v : ℕ) → v < start counts G.drones → at owners v ≡ owner G.drones counts v
  pub starts_are : (d : ℕ) → d < G.drones → at starts d ≡ start counts d
  pub lasts_are : (d : ℕ) → d < G.drones → at lasts d ≡ G.last d
  pub from_are : (k : ℕ) → k < G.count → at from k ≡ start counts (G.wait k).awaited + (G.wait k).until
  pub into_are : (k : ℕ) → k < G.count → at into k ≡ start counts (G.wait k).waiter + (G.wait k).stop

-- .. the graph of lent tables with the order now in force
abbrev pub WaitsInForce : (L : Limits) (t : Tables) (owners starts lasts from into : List ℕ) → Type 0
WaitsInForce L t = GraphTables L t.plan.stop_counts (graph (plan_of t.plan) (status_in t))

-- room for that
pub record Room (L : Limits) (owners starts lasts from into : List ℕ) : Type 0 where
  pub owners_room : length owners ≡ L.stops
  pub starts_room : length starts ≡ L.drones
  pub lasts_room : length lasts ≡ L.drones
  pub from_room : length from ≡ L.dependencies
  pub into_room : length into ≡ L.dependencies

-- room for the numbering
pub record Scratch (L : Limits) (owners numbers starts lasts : List ℕ) : Type 0 where
  pub owners_room : length owners ≡ L.stops
  pub numbers_room : length numbers ≡ L.stops
  pub starts_room : length starts ≡ L.drones
  pub lasts_room : length lasts ≡ L.drones

-- flat holds the first m stops of two columns, drones and stops, numbered through
pub record Through (L : Limits) (starts of stops : List ℕ) (m : ℕ) (flat : List ℕ) : Type 0 where
  pub size : length flat ≡ L.dependencies
  pub are : (k : ℕ) → k < m → at flat k ≡ at starts (at of k) + at stops k

-- keys holds the sums of the first n names' bytes
abbrev pub Keyed : (L : Limits) (names keys : List ℕ) → ℕ → Type 0
Keyed L names keys n = (d : ℕ) → d < n → at keys d ≡ name_sum L names d
