-- The graph with the order now in force when the dependencies of a list are turned. Assumes nothing.
use Rattle.std.specs.Prelude.{Bool, List, ℕ}
use Rattle.tables.specs.Tables.{Tables}
use Rattle.precedence.specs.Graph.{cyclic}
use Rattle.plan.specs.Field.{plan_of, after_turns, graph}
use Rattle.plan.specs.Status.{status_in}

-- the graph now in force, with all dependencies of a list turned, has a cycle
abbrev pub group_cyclic : Tables → List ℕ → Bool
group_cyclic t ws = cyclic (graph (plan_of t.plan) (after_turns (status_in t) ws))
