-- Remaining rounds over stops that are numbered through: those of drone 0 first, from `off 0` on, then those of drone 1, and so on; `own` is a stop's drone.
-- Wait k lets nobody into stop `into k` before stop `from k` is visited. A drone's remaining rounds and the cost are those of crate `precedence`.
-- (document 01, "The calls".) Assumes nothing.
use Rattle.std.specs.Prelude.{◌≡◌, false, List, ℕ, ◌+◌, ◌-◌, ◌≤◌, ◌<◌, ltb, length}
use Rattle.below.specs.Below.{pick, list_below, at}
use Rattle.tables.specs.Limits.{Limits}
use Rattle.precedence.specs.Graph.{Kept, reached, cyclic}
use Rattle.cycles.specs.Flat.{flat_plan, FlatTables}
use Rattle.cycles.specs.declared.lent.FlatStops.{FlatStops}
use Rattle.cycles.specs.declared.lent.FlatWaits.{FlatWaits}

-- the leg into the stop s of drone d
abbrev pub flat_leg : (off leg : ℕ → ℕ) → ℕ → ℕ → ℕ
flat_leg off leg d s = leg (off d + s)

-- the round in which stop v is visited, 0 if it is visited at first
unfoldable pub stop_round : (own off last : ℕ → ℕ) (drones : ℕ) (from into : ℕ → ℕ) (m : ℕ) (leg : ℕ → ℕ) → (ℕ → ℕ) → ℕ → ℕ
stop_round own off last drones from into m leg p v = reached (flat_plan own off last drones from into m) (flat_leg off leg) p (own v) (v - off (own v))

-- "each stop's round in a local table": entry v is the round of stop v; the entries past the n stops are 0
unfoldable pub stop_rounds : (L : Limits) (own off last : ℕ → ℕ) (drones n : ℕ) (from into : ℕ → ℕ) (m : ℕ) (leg : ℕ → ℕ) → (ℕ → ℕ) → List ℕ
stop_rounds L own off last drones n from into m leg p = list_below L.stops (λ v. pick (ltb v n) (stop_round own off last drones from into m leg p v) 0)

-- .. of lent tables
abbrev pub rounds_in : (L : Limits) → FlatStops → FlatWaits → (leg : ℕ → ℕ) → (ℕ → ℕ) → List ℕ
rounds_in L stops waits = stop_rounds L (at stops.owners.now) (at stops.starts.now) (at stops.lasts.now) stops.drones stops.count (at waits.from.now) (at waits.into.now) waits.count

-- what remaining rounds are counted from: tables of sound size whose waits name stops, a leg of "1 to 60 rounds" into each stop that is no first one, a graph without a
-- cycle, nobody past a last stop, and "for every dependency whose waiting stop is visited .., the stop it waits for is visited"
pub record Ready (L : Limits) (owners starts lasts : List ℕ) (drones n : ℕ) (from into : List ℕ) (m : ℕ) (legs visited : List ℕ) : Type 0 where
  pub tables : FlatTables L owners starts lasts drones n from into m
  pub has_visited : drones ≤ length visited
  pub has_legs : n ≤ length legs
  pub short_legs : (v : ℕ) → v < n → at legs v ≤ L.leg
  pub some_legs : (v : ℕ) → v < n → at starts (at owners v) < v → 0 < at legs v
  pub acyclic : cyclic (flat_plan (at owners) (at starts) (at lasts) drones (at from) (at into) m) ≡ false
  pub kept : Kept (flat_plan (at owners) (at starts) (at lasts) drones (at from) (at into) m) (at visited)
  pub within : (d : ℕ) → d < drones → at visited d ≤ at lasts d

-- .. of lent tables
abbrev pub ReadyIn : Limits → FlatStops → FlatWaits → (legs visited : List ℕ) → Type 0
ReadyIn L stops waits = Ready L stops.owners.now stops.starts.now stops.lasts.now stops.drones stops.count waits.from.now waits.into.now waits.count

-- stop v has an owner, which is a drone of the tables, and is no earlier than that drone's first stop
pub record OwnedStop (L : Limits) (owners : List ℕ) (off : ℕ → ℕ) (v : ℕ) : Type 0 where
  pub stop_in : v < L.stops
  pub owned : v < length owners
  pub owner_in_lem : at owners v < L.drones
  pub past : off (at owners v) ≤ v
