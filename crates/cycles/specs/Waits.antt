-- The waits of a dependency table in the direction now in force, and the test of the table and of its graph. Dependency k has the first stop xs k and the second
-- stop ys k. Assumes nothing.
use Rattle.std.specs.Prelude.{◌≡◌, ◌≢◌, Bool, true, not, ◌&&◌, ◌||◌, List, ℕ, ◌+◌, ◌≤◌, ◌<◌, length}
use Rattle.below.specs.Below.{at, pick}
use Rattle.tables.specs.Limits.{Limits}
use Rattle.tables.specs.Flags.{turned_bit}
use Rattle.precedence.specs.Graph.{cyclic}
use Rattle.plan.specs.Visits.{Visits}
use Rattle.plan.specs.Waits.{withdrawn_in}
use Rattle.plan.specs.Dependencies.{right}
use Rattle.meetings.specs.Asked.{SteadyStops, PairTable}
use Rattle.cycles.specs.Flat.{flat_plan, Shape}

-- nobody enters stop `into_of` before stop `from_of` is visited. Turned, the first stop waits for the departure from the second
abbrev pub from_of : (xs ys : ℕ → ℕ) (turned : ℕ → Bool) → ℕ → ℕ
from_of xs ys turned k = pick (turned k) (ys k + 1) (xs k + 1)

abbrev pub into_of : (xs ys : ℕ → ℕ) (turned : ℕ → Bool) → ℕ → ℕ
into_of xs ys turned k = pick (turned k) (xs k) (ys k)

-- wait k is one of a withdrawn drone, on either side; x says who is withdrawn
abbrev pub aside_of : (own : ℕ → ℕ) (x : ℕ → Bool) (from into : ℕ → ℕ) → ℕ → Bool
aside_of own x from into k = x (own (from k)) || x (own (into k))

-- and it is then left out: it waits for the stop 0 of its drone, which is visited
abbrev pub kept_from : (own off : ℕ → ℕ) (x : ℕ → Bool) (from into : ℕ → ℕ) → ℕ → ℕ
kept_from own off x from into k = pick (aside_of own x from into k) (off (own (from k))) (from k)

-- bit 0 of a flag byte
abbrev pub turned_in : List ℕ → ℕ → Bool
turned_in flags k = turned_bit (at flags k)

-- from and into hold the waits of the first k dependencies
pub record Edges (L : Limits) (firsts seconds flags : List ℕ) (k : ℕ) (from into : List ℕ) : Type 0 where
  pub from_size : length from ≡ L.dependencies
  pub into_size : length into ≡ L.dependencies
  pub from_is : (j : ℕ) → j < k → at from j ≡ from_of (at firsts) (at seconds) (turned_in flags) j
  pub into_is : (j : ℕ) → j < k → at into j ≡ into_of (at firsts) (at seconds) (turned_in flags) j

-- from' holds the first k of the waits that are in from and into, those of withdrawn drones left out
pub record LeftOut (L : Limits) (owners starts drone_flags from into : List ℕ) (k : ℕ) (from' : List ℕ) : Type 0 where
  pub size : length from' ≡ L.dependencies
  pub are : (j : ℕ) → j < k → at from' j ≡ kept_from (at owners) (at starts) (withdrawn_in drone_flags) (at from) (at into) j

-- from and into hold the waits of the first k dependencies, those of withdrawn drones left out
pub record KeptEdges (L : Limits) (owners starts drone_flags firsts seconds flags : List ℕ) (k : ℕ) (from into : List ℕ) : Type 0 where
  pub from_size : length from ≡ L.dependencies
  pub into_size : length into ≡ L.dependencies
  pub from_is : (j : ℕ) → j < k → at from j ≡ kept_from (at owners) (at starts) (withdrawn_in drone_flags) (from_of (at firsts) (at seconds) (turned_in flags)) (into_of (at firsts) (at seconds) (turned_in flags)) j
  pub into_is : (j : ℕ) → j < k → at into j ≡ into_of (at firsts) (at seconds) (turned_in flags) j

-- the first m waits are between stops that have a drone, and each drone a flag byte
pub record AsideRoom (L : Limits) (owners drone_flags from into : List ℕ) (m : ℕ) : Type 0 where
  pub few_waits : m ≤ L.dependencies
  pub from_size : length from ≡ L.dependencies
  pub into_size : length into ≡ L.dependencies
  pub has_drone_flags : L.drones ≤ length drone_flags
  pub from_in : (k : ℕ) → k < m → at from k < length owners
  pub into_in : (k : ℕ) → k < m → at into k < length owners
  pub from_own : (k : ℕ) → k < m → at owners (at from k) < L.drones
  pub into_own : (k : ℕ) → k < m → at owners (at into k) < L.drones

-- of a turned dependency, which is not fixed, the waits need this much: its first stop is no stop 0, and its second is not the last of all n stops
abbrev pub UnfixedTurns : (own off : ℕ → ℕ) (n m : ℕ) (xs ys : ℕ → ℕ) (turned : ℕ → Bool) → Type 0
UnfixedTurns own off n m xs ys turned = (k : ℕ) → k < m → turned k ≡ true → (xs k ≢ off (own (xs k))) × (ys k + 1 < n)

-- the table is right, and its graph, with the turns in force and the waits of withdrawn drones left out, has no cycle
unfoldable pub graph_sound : (S : Visits) (off last : ℕ → ℕ) (drones m : ℕ) (xs ys : ℕ → ℕ) (turned x : ℕ → Bool) → Bool
graph_sound S off last drones m xs ys turned x = right S m xs ys && not (cyclic (flat_plan S.own off last drones (kept_from S.own off x (from_of xs ys turned) (into_of xs ys turned)) (into_of xs ys turned) m))

-- what the two checks ask of the tables, all of it known from the tests of single stops and of flag bytes
pub record Given (L : Limits) (owners locations times starts lasts firsts seconds flags : List ℕ) (drones n m : ℕ) : Type 0 where
  pub stops : SteadyStops L n owners locations times
  pub table : PairTable m firsts seconds
  pub shape : Shape (at owners) (at starts) (at lasts) drones n
  pub zero_time : (v : ℕ) → v < n → v ≡ at starts (at owners v) → at times v ≡ 0
  pub unfixed : UnfixedTurns (at owners) (at starts) n m (at firsts) (at seconds) (turned_in flags)
  pub has_flags : m ≤ length flags
  pub few_drones : drones ≤ L.drones
  pub few_waits : m ≤ L.dependencies
