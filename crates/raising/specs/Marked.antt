-- Stops marked as still to be looked at, and of each drone a stop before which it has no marked one. Assumes nothing.
use Rattle.std.specs.Prelude.{◌≡◌, ◌⊎◌, Bool, false, Option, Some, None, List, ℕ, ◌≤◌, ◌<◌, length, set}
use Rattle.below.specs.Below.{at}
use Rattle.tables.specs.Limits.{Limits}
use Rattle.cycles.specs.Walk.{Course}
use Rattle.raising.specs.Lifting.{InLog, none_left, FromStop, LogsOn, Lifting}

-- no stop of a drone is marked before its entry in `low`
abbrev pub NoneBefore : (own : ℕ → ℕ) (n : ℕ) (marks low : List ℕ) → Type 0
NoneBefore own n marks low = (v : ℕ) → v < n → 0 < at marks v → at low (own v) ≤ v

-- the tables of marks have their sizes
pub record MarkTables (L : Limits) (marks was low : List ℕ) : Type 0 where
  pub marks_size : length marks ≡ L.stops
  pub was_size : length was ≡ L.stops
  pub low_size : length low ≡ L.drones

-- stop w is marked; x is the earlier of it and of its drone's entry
pub record NotedOne (L : Limits) (own : ℕ → ℕ) (w : ℕ) (marks low marks' was' low' : List ℕ) : Type 0 where
  pub tables : MarkTables L marks' was' low'
  pub marks_is : marks' ≡ set marks w 1
  pub first : ℕ
  pub low_is : low' ≡ set low (own w) first
  pub at_most : (first ≤ at low (own w)) × (first ≤ w)
  pub is_one : (first ≡ at low (own w)) ⊎ (first ≡ w)

-- the stops of the log from position h on, before position end, are marked, and no other
pub record NotedAll (L : Limits) (own : ℕ → ℕ) (n : ℕ) (ls : List ℕ) (h end : ℕ) (marks low marks' was' low' : List ℕ) : Type 0 where
  pub tables : MarkTables L marks' was' low'
  pub marked : (j : ℕ) → h ≤ j → j < end → 0 < at marks' (at ls j)
  pub still : (v : ℕ) → 0 < at marks v → 0 < at marks' v
  pub only : (v : ℕ) → 0 < at marks' v → (0 < at marks v) ⊎ InLog ls h end v
  pub none_before : NoneBefore own n marks low → NoneBefore own n marks' low'
  pub low_length : length low' ≡ length low
  pub low_only : (d : ℕ) → (at low' d ≡ at low d) ⊎ InLog ls h end (at low' d)

-- the first marked stop from `from` on, before `past`; or else one that is past every stop
pub record NextMarked (marks : List ℕ) (none from past r : ℕ) : Type 0 where
  pub is_marked : (r ≡ none) ⊎ (0 < at marks r)
  pub is_first : (v : ℕ) → from ≤ v → v < past → 0 < at marks v → r ≤ v

-- a drone that has a marked stop, if there is one
pub record Chosen (low : List ℕ) (drones n : ℕ) (chosen : Option ℕ) : Type 0 where
  pub none_left_lem : chosen ≡ None → (e : ℕ) → e < drones → n ≤ at low e
  pub one_left : (d : ℕ) → chosen ≡ Some d → (d < drones) × (at low d < n)

-- every marked stop, and every stop in `low`, is b or is reached from it
pub record MarksReached (C : Course) (b : ℕ) (marks low : List ℕ) : Type 0 where
  pub marked : (v : ℕ) → 0 < at marks v → (v < C.stops) × FromStop C b v
  pub first : (d : ℕ) → d < C.drones → at low d < C.stops → FromStop C b (at low d)
  pub none_before : NoneBefore C.own C.stops marks low

-- a marked stop was looked at: the log leads back as before, and if it had room, what is raised and not looked at is marked again
pub record LookedAt (L : Limits) (C : Course) (leg start : ℕ → ℕ) (b base end : ℕ) (t ls lo : List ℕ) (full : Bool) (r : ℕ) (t' ls' lo' marks' was' low' : List ℕ) : Type 0 where
  pub logs : LogsOn L end t ls lo r t' ls' lo'
  pub tables : full ≡ false → MarkTables L marks' was' low'
  pub lifts : full ≡ false → Lifting C leg start marks' b base r r none_left none_left t' ls'
  pub reached : full ≡ false → MarksReached C b marks' low'
