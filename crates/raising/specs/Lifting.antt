-- A flat table of rounds brought up to date after one wait more: entries are raised along edges from the stop that the new wait is into. A log names the raised stops with their old
-- entries; its part from `h` on is the worklist, and read backwards it leads back. Assumes nothing.
use Rattle.std.specs.Prelude.{◌≡◌, ◌⊎◌, Bool, true, false, List, ℕ, zero, suc, ◌+◌, ◌*◌, ◌-◌, ◌≤◌, ◌<◌, max, eqb, length, set}
use Rattle.below.specs.Below.{at, pick, max_below}
use Rattle.tables.specs.Limits.{Limits}
use Rattle.precedence.specs.Graph.{Vertex, vertex_at, Walk, Cycle}
use Rattle.cycles.specs.Flat.{FlatTables}
use Rattle.cycles.specs.Walk.{Course, course_plan, RoundTable}

-- ---- the log

-- the entries that the log has room for
abbrev pub log_room : ℕ
log_room = 12288

-- stop v stands in the log from position h on, before position end
abbrev pub InLog : List ℕ → (h end v : ℕ) → Type 0
InLog ls h end v = (j : ℕ) × (h ≤ j) × (j < end) × (at ls j ≡ v)

-- stop v is still to be looked at: it is marked in p, or stands in that part of the log
abbrev pub ToLookAt : (p ls : List ℕ) → (h end v : ℕ) → Type 0
ToLookAt p ls h end v = (0 < at p v) ⊎ InLog ls h end v

-- the table with the n entries of the log from base on put back, the last first
unfoldable pub undone : (ls lo : List ℕ) (base n : ℕ) → List ℕ → List ℕ
undone ls lo base zero t = t
undone ls lo base (suc n) t = undone ls lo base n (set t (at ls (base + n)) (at lo (base + n)))

-- the log up to end leads from the table t back to the table t₀ that was there when it ended at base. No leg is longer than g, so that no entry is greater than g for each stop and
-- for each entry of the log
pub record Logged (g size room base : ℕ) (t₀ : List ℕ) (end : ℕ) (t ls lo : List ℕ) : Type 0 where
  pub table_size : length t ≡ size
  pub stops_size : length ls ≡ room
  pub olds_size : length lo ≡ room
  pub from_base : base ≤ end
  pub in_room : end ≤ room
  pub in_table : (j : ℕ) → base ≤ j → j < end → at ls j < size
  pub small_first : (v : ℕ) → at t₀ v ≤ g * (size + base)
  pub small : (v : ℕ) → at t v ≤ g * (size + end)
  pub undoes : undone ls lo base (end - base) t ≡ t₀

-- the log ends at top, where the table is t
abbrev pub LogAt : (L : Limits) (top : ℕ) (t ls lo : List ℕ) → Type 0
LogAt L top t ls lo = Logged L.leg L.stops log_room top t top t ls lo

-- whatever table the log led to from its old end, it leads to from the new one
abbrev pub LogsOn : (L : Limits) (top : ℕ) (t ls lo : List ℕ) (r : ℕ) (t' ls' lo' : List ℕ) → Type 0
LogsOn L top t ls lo r t' ls' lo' = (base : ℕ) (t₀ : List ℕ) → Logged L.leg L.stops log_room base t₀ top t ls lo → Logged L.leg L.stops log_room base t₀ r t' ls' lo'

-- ---- the graph

-- what entries are raised over: the tables of a plan with its legs, and drones that stand at their first stops or past them
pub record Raisable (L : Limits) (owners starts lasts : List ℕ) (drones n : ℕ) (from into : List ℕ) (m : ℕ) (legs cur : List ℕ) : Type 0 where
  pub tables : FlatTables L owners starts lasts drones n from into m
  pub stands : (d : ℕ) → d < drones → at starts d ≤ at cur d
  pub has_legs : n ≤ length legs
  pub short_legs : (v : ℕ) → v < n → at legs v ≤ L.leg

-- no edge out of any stop
abbrev pub none_left : ℕ → Type 0
none_left v = ⊥

-- the course with its first m waits only
abbrev pub first_waits : Course → ℕ → Course
first_waits C m = record { own = C.own; off = C.off; last = C.last; drones = C.drones; stops = C.stops; from = C.from; into = C.into; waits = m }

-- the edge from stop u into stop w was offered: w is visited or is late enough already, or the log has no room, or w is raised
abbrev pub Quiet : (own leg start : ℕ → ℕ) (u w : ℕ) (top : ℕ) (t ls lo : List ℕ) (full : Bool) (r : ℕ) (t' ls' lo' : List ℕ) → Type 0
Quiet own leg start u w top t ls lo full r t' ls' lo' = (full ≡ false) × (r ≡ top) × (t' ≡ t) × (ls' ≡ ls) × (lo' ≡ lo) × ((w ≤ start (own w)) ⊎ (leg w + at t u ≤ at t w))

abbrev pub NoRoom : (top : ℕ) (t ls lo : List ℕ) (full : Bool) (r : ℕ) (t' ls' lo' : List ℕ) → Type 0
NoRoom top t ls lo full r t' ls' lo' = (full ≡ true) × (r ≡ top) × (t' ≡ t) × (ls' ≡ ls) × (lo' ≡ lo)

abbrev pub Lifted : (room : ℕ) (own leg start : ℕ → ℕ) (u w : ℕ) (top : ℕ) (t ls lo : List ℕ) (full : Bool) (r : ℕ) (t' ls' lo' : List ℕ) → Type 0
Lifted room own leg start u w top t ls lo full r t' ls' lo' = (full ≡ false) × (top < room) × (r ≡ top + 1) × (start (own w) < w) × (at t w < leg w + at t u) × (t' ≡ set t w (leg w + at t u)) × (ls' ≡ set ls top w) × (lo' ≡ set lo top (at t w))

pub record Offered (room : ℕ) (own leg start : ℕ → ℕ) (u w top : ℕ) (t ls lo : List ℕ) (full : Bool) (r : ℕ) (t' ls' lo' : List ℕ) : Type 0 where
  pub came : Quiet own leg start u w top t ls lo full r t' ls' lo' ⊎ (NoRoom top t ls lo full r t' ls' lo' ⊎ Lifted room own leg start u w top t ls lo full r t' ls' lo')

module _ (C : Course) where
  open C use {own, off, stops, from, into, waits}

  abbrev pub stop_vertex : ℕ → Vertex
  stop_vertex v = vertex_at (own v) (v - off (own v))

  -- v is b, or is reached from it
  abbrev pub FromStop : ℕ → ℕ → Type 0
  FromStop b v = (v ≡ b) ⊎ Walk (course_plan C) (stop_vertex b) (stop_vertex v)

  -- the greatest entry among what stop v awaits, the stop before it included
  unfoldable pub latest_into : (ℕ → ℕ) → ℕ → ℕ
  latest_into t v = max (t (v - 1)) (max_below waits (λ k. pick (eqb (into k) v) (t (from k)) 0))

  module _ (leg start : ℕ → ℕ) where
    -- a table that is being raised after a new wait into b. Edges that are not kept start at stops that are still to be looked at, or are own edges out of a stop with o or waits with q
    pub record Lifting (p : List ℕ) (b base h end : ℕ) (o q : ℕ → Type 0) (t ls : List ℕ) : Type 0 where
      pub from_base : base ≤ h
      pub in_log : h ≤ end
      pub at_visited : (v : ℕ) → v < stops → v ≤ start (own v) → at t v ≡ 0
      pub supported : (v : ℕ) → v < stops → start (own v) < v → at t v ≤ leg v + latest_into (at t) v
      pub kept_own : (v : ℕ) → v + 1 < stops → start (own (v + 1)) < v + 1 → o v ⊎ (ToLookAt p ls h end v ⊎ (leg (v + 1) + at t v ≤ at t (v + 1)))
      pub kept_wait : (k : ℕ) → k < waits → start (own (into k)) < into k → q k ⊎ (ToLookAt p ls h end (from k) ⊎ (leg (into k) + at t (from k) ≤ at t (into k)))
      pub reached : (j : ℕ) → base ≤ j → j < end → (at ls j < stops) × FromStop b (at ls j)

    -- a part of the raising: the log leads back to the same tables as before, and if it had room, the edges of o and q became those of o' and q'
    pub record PartRaised (L : Limits) (u : ℕ) (o q o' q' : ℕ → Type 0) (top : ℕ) (t ls lo : List ℕ) (full : Bool) (r : ℕ) (t' ls' lo' : List ℕ) : Type 0 where
      pub logs : LogsOn L top t ls lo r t' ls' lo'
      pub lifts : full ≡ false → (p : List ℕ) (b base h : ℕ) → FromStop b u → Lifting p b base h top o q t ls → Lifting p b base h r o' q' t' ls'

    -- the raising has ended: the table with the new wait, or a cycle, or the log has no room; it leads back in each case
    pub record RaisedTable (L : Limits) (top : ℕ) (t ls lo : List ℕ) (full cyclic : Bool) (r : ℕ) (t' ls' lo' : List ℕ) : Type 0 where
      pub logs : LogsOn L top t ls lo r t' ls' lo'
      pub settles : full ≡ false → cyclic ≡ false → RoundTable C leg start (at t')
      pub finds : full ≡ false → cyclic ≡ true → Cycle (course_plan C)

  -- a wait out of stop u, before link
  abbrev pub OutBefore : (u link : ℕ) → ℕ → Type 0
  OutBefore u link k = (from k ≡ u) × (k < link)
