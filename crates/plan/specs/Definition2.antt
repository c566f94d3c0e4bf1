-- The plan graph as source document 004 defines it (Definition 2), and the claim that an accepted plan's graph with nothing turned is that one. Assumes nothing.
use Rattle.std.specs.Prelude.{◌≡◌, ◌≢◌, ◌↔◌, true, ℕ, suc, ◌≤◌, ◌<◌}
use Rattle.precedence.specs.Graph.{Vertex, vertex_at, Edge}
use Rattle.plan.specs.Field.{FieldPlan, as_planned, graph, AcceptedPlan}

module _ (F : FieldPlan) where
  open F use {drones, last, location, time, meets}

  -- 004, Definition 2: "each vertex .. corresponds to the k-th tuple in the path" of an agent: a stop of a drone
  abbrev pub IsStop : Vertex → Type 0
  IsStop v = (v.drone < drones) × (v.stop ≤ last v.drone)

  -- the edges of a plan, from its stops alone
  pub data PlannedEdge : Vertex → Vertex → Type 0 where
    -- "Type 1 edges connect two vertices corresponding to consecutive tuples for the same agent": stop k of drone i, and its next
    type_1 : (i k : ℕ) → i < drones → k < last i → PlannedEdge (vertex_at i k) (vertex_at i (suc k))
    -- "Type 2 edges connect two vertices of distinct agents": stop s+1 of drone j and stop k of drone i, where the locations of stop s of j and of stop k of i meet and the time
    -- of s is below that of k
    type_2 : (j s i k : ℕ) → j < drones → s ≤ last j → i < drones → k ≤ last i → i ≢ j → meets (location j s) (location i k) ≡ true → time j s < time i k → PlannedEdge (vertex_at j (suc s)) (vertex_at i k)

-- the graph of an accepted plan, as planned: its edges are exactly these, and each joins two stops that are there
pub record Definition2 : Type 0 where
  pub edges : (F : FieldPlan) → AcceptedPlan F → (u v : Vertex) → Edge (graph F as_planned) u v ↔ PlannedEdge F u v
  pub vertices : (F : FieldPlan) → AcceptedPlan F → (u v : Vertex) → Edge (graph F as_planned) u v → IsStop F u × IsStop F v
