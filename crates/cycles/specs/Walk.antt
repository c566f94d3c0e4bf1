-- A walk of the plan graph: drones that can move do so, one stop at a time, until none can. `cur d` is the last visited stop of drone d, by the stops' flat numbers.
-- Assumes nothing.
use Rattle.std.specs.Prelude.{◌≡◌, Bool, true, false, cond, not, ◌&&◌, List, ℕ, ◌+◌, ◌*◌, ◌-◌, ◌≤◌, ◌<◌, max, ltb, leb, eqb, length, set}
use Rattle.below.specs.Below.{at, pick, count_below, sum_below, max_below}
use Rattle.tables.specs.Limits.{Limits}
use Rattle.precedence.specs.Graph.{Plan, Ahead, play, at_start, free}
use Rattle.cycles.specs.Flat.{flat_plan}

-- the stops and waits that are walked: stop v is one of drone `own v`, whose stops are those from `off` to `off + last`; wait k lets nobody into stop `into k` before
-- stop `from k` is visited
pub record Course : Type 0 where
  pub own : ℕ → ℕ
  pub off : ℕ → ℕ
  pub last : ℕ → ℕ
  pub drones : ℕ
  pub stops : ℕ
  pub from : ℕ → ℕ
  pub into : ℕ → ℕ
  pub waits : ℕ

-- those of tables
abbrev pub course_with : (owners starts lasts : List ℕ) (drones n : ℕ) (from into : List ℕ) (m : ℕ) → Course
course_with owners starts lasts drones n from into m = record { own = at owners; off = at starts; last = at lasts; drones = drones; stops = n; from = at from; into = at into; waits = m }

-- p is no further than some number of rounds from the first stops
abbrev pub WithinRounds : Plan → (ℕ → ℕ) → Type 0
WithinRounds P p = (k : ℕ) × Ahead P.drones p (play P at_start k)

-- wait k is met: the stop that it awaits is visited
unfoldable pub met_at : (own from cur : ℕ → ℕ) → ℕ → Bool
met_at own from cur k = leb (from k) (cur (own (from k)))

-- how many of the first m waits are into stop v and not met
unfoldable pub unmet_into : (into : ℕ → ℕ) (m : ℕ) → (ℕ → Bool) → ℕ → ℕ
unmet_into into m met v = count_below m (λ k. eqb (into k) v && not (met k))

-- drone d is short of its last stop, and no wait into the next one is unmet
unfoldable pub can_move : (off last cur need : ℕ → ℕ) → ℕ → Bool
can_move off last cur need d = ltb (cur d) (off d + last d) && eqb (need (cur d + 1)) 0

-- the stops of a wait have entries in the tables, and so has the drone that is awaited
pub record Ends (L : Limits) (owners : List ℕ) (a b : ℕ) : Type 0 where
  pub from_small : a < L.stops
  pub from_owned : a < length owners
  pub awaited_small : at owners a < L.drones
  pub into_small : b < L.stops

-- drone d has moved on to its next stop v, and v has its entry: its leg after the greater of what it has and of the entry before it
pub record Advanced (leg : ℕ → ℕ) (d : ℕ) (cur cur' t t' : List ℕ) (v : ℕ) : Type 0 where
  pub at_next : v ≡ at cur d + 1
  pub cur_is : cur' ≡ set cur d v
  pub table_is : t' ≡ set t v (leg v + max (at t v) (at t (v - 1)))

-- nothing more keeps the drone of stop w from it, and w is its next stop
abbrev pub Wakes : (owners cur need : List ℕ) (w : ℕ) → Type 0
Wakes owners cur need w = (at need w ≡ 1) × (at cur (at owners w) + 1 ≡ w)

-- one wait into stop w is met, by a visit with that entry: its drone goes on top of the stack if that wakes it
pub record OneMet (owners cur : List ℕ) (w entry top : ℕ) (need need' stack stack' t t' : List ℕ) (r : ℕ) : Type 0 where
  pub need_is : need' ≡ set need w (at need w - 1)
  pub table_is : t' ≡ set t w (max (at t w) entry)
  pub wakes : Wakes owners cur need w → (stack' ≡ set stack top (at owners w)) × (r ≡ top + 1)
  pub quiet : (Wakes owners cur need w → ⊥) → (stack' ≡ stack) × (r ≡ top)

-- the stack holds each drone that passes `can` once, and no other
pub record Stacked (L : Limits) (drones : ℕ) (can : ℕ → Bool) (stack : List ℕ) (top : ℕ) : Type 0 where
  pub size : length stack ≡ L.drones
  pub within : (i : ℕ) → i < top → at stack i < drones
  pub once : (d : ℕ) → d < drones → count_below top (λ i. eqb (at stack i) d) ≡ pick (can d) 1 0

module _ (C : Course) where
  open C use {own, off, last, drones, stops, from, into, waits}

  abbrev pub course_plan : Plan
  course_plan = flat_plan own off last drones from into waits

  -- the drones' progress
  abbrev pub progress : List ℕ → ℕ → ℕ
  progress cur d = at cur d - off d

  -- how far the drones are from their last stops
  abbrev pub left : (ℕ → ℕ) → ℕ
  left cur = sum_below drones (λ d. off d + last d - cur d)

  -- .. but of the waits for stop v only those from wait x on
  unfoldable pub met_from : (ℕ → ℕ) → ℕ → ℕ → ℕ → Bool
  met_from cur v x k = cond (eqb (from k) v) (leb x k) (met_at own from cur k)

  -- the greatest entry of t among the stops that the met waits into stop v await
  unfoldable pub latest_met : (ℕ → Bool) → (ℕ → ℕ) → ℕ → ℕ
  latest_met met t v = max_below waits (λ k. pick (eqb (into k) v && met k) (t (from k)) 0)

  -- t is the table of the stops' rounds: 0 for a stop that is visited at the start, or else the stop's leg after the latest of what it awaits, the stop before it included
  pub record RoundTable (leg : ℕ → ℕ) (start : ℕ → ℕ) (t : ℕ → ℕ) : Type 0 where
    pub at_visited : (v : ℕ) → v < stops → v ≤ start (own v) → t v ≡ 0
    pub at_unvisited : (v : ℕ) → v < stops → start (own v) < v → t v ≡ leg v + max (t (v - 1)) (max_below waits (λ k. pick (eqb (into k) v) (t (from k)) 0))

module _ (L : Limits) (C : Course) where
  open C use {own, off, last, drones, stops, from, into, waits}

  -- ---- what holds at each step of the walk from `start`; `met` are the waits met so far

  -- the drones stand at stops of theirs, and have come there by moves that they may make
  pub record Places (start cur : List ℕ) : Type 0 where
    pub size : length cur ≡ L.drones
    pub low : (d : ℕ) → d < drones → off d ≤ at cur d
    pub high : (d : ℕ) → d < drones → at cur d ≤ off d + last d
    pub onward : (d : ℕ) → d < drones → at start d ≤ at cur d
    pub reached : WithinRounds (course_plan C) (progress C start) → WithinRounds (course_plan C) (progress C cur)

  -- a count of the unmet waits into each stop
  pub record Needs (met : ℕ → Bool) (need : List ℕ) : Type 0 where
    pub size : length need ≡ L.stops
    pub counted : (v : ℕ) → v < stops → at need v ≡ unmet_into into waits met v

  -- a visited stop has its entry of the table of rounds, any other the greatest of what its met waits await. No leg is longer than g, and no entry is greater than b
  pub record Entries (leg : ℕ → ℕ) (g b : ℕ) (start : List ℕ) (met : ℕ → Bool) (cur t : List ℕ) : Type 0 where
    pub size : length t ≡ L.stops
    pub past : (v : ℕ) → stops ≤ v → at t v ≡ 0
    pub small : (v : ℕ) → at t v + g * left C (at cur) ≤ b
    pub kept : (k : ℕ) → k < waits → into k ≤ at cur (own (into k)) → met k ≡ true
    pub visited : (T : ℕ → ℕ) → RoundTable C leg (at start) T → (v : ℕ) → v < stops → v ≤ at cur (own v) → at t v ≡ T v
    pub awaiting : (T : ℕ → ℕ) → RoundTable C leg (at start) T → (v : ℕ) → v < stops → at cur (own v) < v → at t v ≡ latest_met C met T v

  pub record Walking (leg : ℕ → ℕ) (g b : ℕ) (start : List ℕ) (met : ℕ → Bool) (cur need stack : List ℕ) (top : ℕ) (t : List ℕ) : Type 0 where
    pub places : Places start cur
    pub needs : Needs met need
    pub stacked : Stacked L drones (can_move off last (at cur) (at need)) stack top
    pub entries : Entries leg g b start met cur t

  -- the waits for the visited stop v are gone through from the greatest on: `link` is one more than the next of them, 0 if there is none
  pub record MeetingWaits (leg : ℕ → ℕ) (g b : ℕ) (start cur : List ℕ) (v link : ℕ) (need stack : List ℕ) (top : ℕ) (t : List ℕ) : Type 0 where
    pub walking : Walking leg g b start (met_from C (at cur) v link) cur need stack top t
    pub stop_in : v < stops
    pub seen : v ≤ at cur (own v)
    pub within : link ≤ waits
    pub found : (j : ℕ) → link ≡ j + 1 → from j ≡ v

  -- ---- its start and its end

  -- drones at stops of theirs, "for every dependency whose waiting stop is visited .., the stop it waits for is visited"
  pub record Begun (cur : List ℕ) : Type 0 where
    pub size : length cur ≡ L.drones
    pub low : (d : ℕ) → d < drones → off d ≤ at cur d
    pub high : (d : ℕ) → d < drones → at cur d ≤ off d + last d
    pub kept : (k : ℕ) → k < waits → into k ≤ at cur (own (into k)) → met_at own from (at cur) k ≡ true

  -- nobody can move, and every visited stop has its entry of the table of rounds
  pub record Walked (leg : ℕ → ℕ) (b : ℕ) (start cur t : List ℕ) : Type 0 where
    pub places : Places start cur
    pub none_free : (d : ℕ) → d < drones → free (course_plan C) (progress C cur) d ≡ false
    pub size : length t ≡ L.stops
    pub past : (v : ℕ) → stops ≤ v → at t v ≡ 0
    pub small : (v : ℕ) → at t v ≤ b
    pub visited : (T : ℕ → ℕ) → RoundTable C leg (at start) T → (v : ℕ) → v < stops → v ≤ at cur (own v) → at t v ≡ T v
