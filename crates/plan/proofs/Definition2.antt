-- The edges of an accepted plan's graph are those of source document 004: of two drones at one location the one that is there first is gone before the other comes, so its
-- time is below the other's. Assumes nothing.
use mathlib.Core.Path.{sym, subst}
use Prim.Native.Nat.{suc, ◌<◌}
use native.Mathlib.Omega.{arith}
use Rattle.precedence.specs.Graph.{Vertex, vertex_at, Edge, own, dep}
use Rattle.precedence.proofs.Visits.{entered, left}
use Rattle.plan.specs.Field.{Dependency, FieldPlan, as_planned, graph, Meeting, AcceptedPlan}
use Rattle.plan.specs.Definition2.{IsStop, PlannedEdge, type_1, type_2, Definition2}
use Rattle.plan.proofs.Turns.{gone-before, graph-formed, none_unfixed}

module _ (F : FieldPlan) (accepted : AcceptedPlan F) where
  open F use {drones, last, location, time, dependency}

  -- what a dependency awaits, and the stop that waits for it
  abbrev awaited : Dependency → Vertex
  awaited x = vertex_at x.first (suc x.first_stop)

  abbrev waiting : Dependency → Vertex
  waiting x = vertex_at x.second x.second_stop

  meeting_edge : (x : Dependency) → Meeting F x → PlannedEdge F (awaited x) (waiting x)
  meeting_edge x m =
      let g = gone-before F accepted.checked x m in
      let early : time x.first x.first_stop < time x.second x.second_stop = omega (arith, accepted.checked.rises x.first x.first_stop m.first_in g.goes_on, g.in_time) in
      type_2 x.first x.first_stop x.second x.second_stop m.first_in m.first_stop_in m.second_in m.second_stop_in (λ q. m.different (sym q)) m.one_location early

  edge-planned : {u v : Vertex} → Edge (graph F as_planned) u v → PlannedEdge F u v
  edge-planned (own d s l k) = type_1 d s l k
  edge-planned (dep w l) = meeting_edge (dependency w) (accepted.each w l)

  meeting_awaited : (x : Dependency) → Meeting F x → Edge (graph F as_planned) (awaited x) (waiting x)
  meeting_awaited x m = let (w, l, e) = accepted.every x m in subst (λ (y : Dependency). Edge (graph F as_planned) (awaited y) (waiting y)) e (dep w l)

  planned-edge : {u v : Vertex} → PlannedEdge F u v → Edge (graph F as_planned) u v
  planned-edge (type_1 i k l m) = own i k l m
  planned-edge (type_2 j s i k a b c d ne q early) = meeting_awaited (record { first = j; first_stop = s; second = i; second_stop = k })
      (record { first_in = a; first_stop_in = b; second_in = c; second_stop_in = d; different = λ e. ne (sym e); one_location = q; there_first = omega arith })

  edge_stops : {u v : Vertex} → Edge (graph F as_planned) u v → IsStop F u × IsStop F v
  edge_stops e =
      let formed = graph-formed F accepted as_planned (none_unfixed F accepted) in
      let to = entered (graph F as_planned) formed e in
      (left (graph F as_planned) formed e, (to.0, to.2))

pub definition_2 : Definition2
definition_2 = record { edges = λ F accepted u v. (edge-planned F accepted, planned-edge F accepted); vertices = λ F accepted u v e. edge_stops F accepted e }
