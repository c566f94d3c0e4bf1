-- The links, the table of rounds and the log of a graph whose waits come and go at the end of their list. Assumes nothing.
use Rattle.std.specs.Prelude.{◌≡◌, Bool, true, false, Option, Some, List, ℕ, ◌+◌, ◌≤◌, ◌<◌, length}
use Rattle.below.specs.Below.{at}
use Rattle.tables.specs.Limits.{Limits}
use Rattle.precedence.specs.Graph.{cyclic}
use Rattle.cycles.specs.Flat.{flat_plan}
use Rattle.cycles.specs.Links.{LinkedWaits}
use Rattle.cycles.specs.Walk.{course_with, RoundTable}
use Rattle.raising.specs.Lifting.{log_room, Logged, LogAt, LogsOn}

-- the drones stand at their visited stops
pub record AtVisitedStops (L : Limits) (starts : List ℕ) (drones : ℕ) (visited cur : List ℕ) : Type 0 where
  pub size : length cur ≡ L.drones
  pub are : (d : ℕ) → d < drones → at cur d ≡ at starts d + at visited d

-- the first m waits are linked, t is their table of rounds, and the log ends at top
pub record UpToDate (L : Limits) (owners starts lasts : List ℕ) (drones n : ℕ) (from into : List ℕ) (m : ℕ) (legs cur head next : List ℕ) (top : ℕ) (t ls lo : List ℕ) : Type 0 where
  pub linked : LinkedWaits L (at from) m head next
  pub rounds : RoundTable (course_with owners starts lasts drones n from into m) (at legs) (at cur) (at t)
  pub log : LogAt L top t ls lo

-- the log ended at mark when the table was that of the first m waits, and leads back to it
pub record MarkedTable (L : Limits) (owners starts lasts : List ℕ) (drones n : ℕ) (from into : List ℕ) (m : ℕ) (legs cur : List ℕ) (mark top : ℕ) (t ls lo : List ℕ) : Type 0 where
  pub table : List ℕ
  pub leads : Logged L.leg L.stops log_room mark table top t ls lo
  pub rounds : RoundTable (course_with owners starts lasts drones n from into m) (at legs) (at cur) (at table)

-- wait m is tried: with a cycle all stands as it did; without one it is added, and the log leads back as before unless the table is a fresh one
pub record Tried (L : Limits) (owners starts lasts : List ℕ) (drones n : ℕ) (from into : List ℕ) (m : ℕ) (legs cur : List ℕ) (top : ℕ) (t ls lo : List ℕ) (has_cycle fresh : Bool) (head next : List ℕ) (r : ℕ) (t' ls' lo' : List ℕ) : Type 0 where
  pub says_cyclic : has_cycle ≡ cyclic (flat_plan (at owners) (at starts) (at lasts) drones (at from) (at into) (m + 1))
  pub stays : has_cycle ≡ true → (fresh ≡ false) × UpToDate L owners starts lasts drones n from into m legs cur head next r t' ls' lo'
  pub grows : has_cycle ≡ false → UpToDate L owners starts lasts drones n from into (m + 1) legs cur head next r t' ls' lo'
  pub logs : fresh ≡ false → LogsOn L top t ls lo r t' ls' lo'

-- back to the first m waits: by the log if their mark is known, and earlier marks hold on; or else with a fresh table
pub record TakenBack (L : Limits) (owners starts lasts : List ℕ) (drones n : ℕ) (from into : List ℕ) (m : ℕ) (legs cur : List ℕ) (mark : Option ℕ) (top : ℕ) (t ls lo head next : List ℕ) (r : ℕ) (t' : List ℕ) : Type 0 where
  pub standing : UpToDate L owners starts lasts drones n from into m legs cur head next r t' ls lo
  pub marks : (at_mark : ℕ) → mark ≡ Some at_mark → (base : ℕ) (t₀ : List ℕ) → base ≤ at_mark → Logged L.leg L.stops log_room base t₀ top t ls lo → Logged L.leg L.stops log_room base t₀ r t' ls lo
