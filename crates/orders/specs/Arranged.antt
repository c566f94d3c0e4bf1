-- The waits as the search has them: first those of the c dependencies that are not open, then those of the k open ones, in number order, all in the order now in force.
-- Assumes nothing.
use Rattle.std.specs.Prelude.{◌≡◌, Bool, true, false, ◌&&◌, List, ℕ, ◌+◌, ◌-◌, ◌≤◌, ◌<◌, leb, eqb, length}
use Rattle.below.specs.Below.{at, pick, count_below, laid, picks}
use Rattle.tables.specs.Limits.{Limits}
use Rattle.precedence.specs.Graph.{Wait, Plan, Kept, cyclic}
use Rattle.cycles.specs.Flat.{flat_plan, FlatTables}
use Rattle.rounds.specs.Remaining.{flat_leg}
use Rattle.choices.specs.Budget.{SearchReply, reply_for}
use Rattle.choices.specs.Directions.{choice_cyclic, choice_cost}

-- nobody enters stop b before stop a is visited
abbrev pub wait_between : (owners starts : List ℕ) (a b : ℕ) → Wait
wait_between owners starts a b = record { waiter = at owners b; stop = b - at starts (at owners b); awaited = at owners a; until = a - at starts (at owners a) }

-- the plan as it stands
abbrev pub standing_plan : (owners starts lasts : List ℕ) (drones : ℕ) (from into : List ℕ) (m : ℕ) → Plan
standing_plan owners starts lasts drones from into m = flat_plan (at owners) (at starts) (at lasts) drones (at from) (at into) m

-- wait j turned: who waited to enter a stop is awaited to leave it, and whose leaving was awaited waits to enter
abbrev pub turned_round : (owners starts from into : List ℕ) → ℕ → Wait
turned_round owners starts from into j = wait_between owners starts (at into j + 1) (at from j - 1)

-- the open ones are those from c on
abbrev pub open_from : ℕ → ℕ → Bool
open_from c j = leb c j

-- the directions in `dirs` turn wait j
abbrev pub turned_at : ℕ → List ℕ → ℕ → Bool
turned_at c dirs j = leb c j && eqb (at dirs (j - c)) 1

-- f and i hold the waits that are not open and the first d open ones in the directions of `dirs`
pub record Decided (from into : List ℕ) (c : ℕ) (dirs : List ℕ) (d : ℕ) (f i : List ℕ) : Type 0 where
  pub from_is : (j : ℕ) → j < c + d → at f j ≡ pick (turned_at c dirs j) (at into j + 1) (at from j)
  pub into_is : (j : ℕ) → j < c + d → at i j ≡ pick (turned_at c dirs j) (at from j - 1) (at into j)

-- what the search asks of m waits: tables of a plan without a cycle, a leg of "1 to 60 rounds" into each stop that is no first one, progress that keeps its waits, and of each open
-- wait, turned, that its stops are there and that the one that it is into is not visited
pub record Searchable (L : Limits) (owners starts lasts : List ℕ) (drones n : ℕ) (from into : List ℕ) (m : ℕ) (is_open_lem : ℕ → Bool) (legs visited : List ℕ) : Type 0 where
  pub tables : FlatTables L owners starts lasts drones n from into m
  pub has_visited : drones ≤ length visited
  pub has_legs : n ≤ length legs
  pub short_legs : (v : ℕ) → v < n → at legs v ≤ L.leg
  pub some_legs : (v : ℕ) → v < n → at starts (at owners v) < v → 0 < at legs v
  pub acyclic : cyclic (standing_plan owners starts lasts drones from into m) ≡ false
  pub kept : Kept (standing_plan owners starts lasts drones from into m) (at visited)
  pub within : (d : ℕ) → d < drones → at visited d ≤ at lasts d
  pub turned_from : (j : ℕ) → j < m → is_open_lem j ≡ true → at into j + 1 < n
  pub unentered : (j : ℕ) → j < m → is_open_lem j ≡ true → at visited (at owners (at from j - 1)) < at from j - 1 - at starts (at owners (at from j - 1))

-- the reply of the search over m waits, k of them open
abbrev pub standing_reply : (owners starts lasts : List ℕ) (drones : ℕ) (from into : List ℕ) (m : ℕ) (is_open_lem : ℕ → Bool) (legs visited : List ℕ) (budget k : ℕ) → SearchReply
standing_reply owners starts lasts drones from into m is_open_lem legs visited budget k =
    reply_for
    (choice_cyclic (standing_plan owners starts lasts drones from into m) (turned_round owners starts from into) is_open_lem)
    (choice_cost (standing_plan owners starts lasts drones from into m) (turned_round owners starts from into) is_open_lem (flat_leg (at starts) (at legs)) (at visited))
    budget k

-- an open dependency is marked with a 1, any other with a 0
abbrev pub marked_open : List ℕ → ℕ → Bool
marked_open opens w = eqb (at opens w) 1

abbrev pub marked_shut : List ℕ → ℕ → Bool
marked_shut opens w = eqb (at opens w) 0

-- the waits of those of the first m that pass q, in number order, from the position spot on; r is the position after them
pub record GatheredWaits (q : ℕ → Bool) (m : ℕ) (from into : List ℕ) (spot : ℕ) (f i f' i' : List ℕ) (r : ℕ) : Type 0 where
  pub next_is : r ≡ spot + count_below m q
  pub from_is : f' ≡ laid f spot (picks m q (at from))
  pub into_is : i' ≡ laid i spot (picks m q (at into))
