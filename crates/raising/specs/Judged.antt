-- What is judged of a graph by its table of rounds: whether it has a cycle, and its cost if it has none. Assumes nothing.
use Rattle.std.specs.Prelude.{◌≡◌, Bool, false, List, ℕ, ◌≤◌, ◌<◌, length}
use Rattle.below.specs.Below.{at}
use Rattle.tables.specs.Limits.{Limits}
use Rattle.precedence.specs.Graph.{Plan, Kept, cyclic, cost}
use Rattle.cycles.specs.Flat.{flat_plan, FlatTables}
use Rattle.cycles.specs.Walk.{WithinRounds}

-- what a graph is judged from: as what remaining rounds are counted from (`Ready`), but in place of a graph without a cycle the visited stops are such as rounds from the first stops
-- come to
pub record Judgeable (L : Limits) (owners starts lasts : List ℕ) (drones n : ℕ) (from into : List ℕ) (m : ℕ) (legs visited : List ℕ) : Type 0 where
  pub tables : FlatTables L owners starts lasts drones n from into m
  pub has_visited : drones ≤ length visited
  pub has_legs : n ≤ length legs
  pub short_legs : (v : ℕ) → v < n → at legs v ≤ L.leg
  pub some_legs : (v : ℕ) → v < n → at starts (at owners v) < v → 0 < at legs v
  pub kept : Kept (flat_plan (at owners) (at starts) (at lasts) drones (at from) (at into) m) (at visited)
  pub within : (d : ℕ) → d < drones → at visited d ≤ at lasts d
  pub comes_to : WithinRounds (flat_plan (at owners) (at starts) (at lasts) drones (at from) (at into) m) (at visited)

-- a verdict on a plan
pub record Verdict (P : Plan) (leg : ℕ → ℕ → ℕ) (p : ℕ → ℕ) (has_cycle : Bool) (c : ℕ) : Type 0 where
  pub says_cyclic : has_cycle ≡ cyclic P
  pub says_cost : cyclic P ≡ false → c ≡ cost P leg p
