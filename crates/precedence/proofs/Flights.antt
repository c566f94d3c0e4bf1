-- The table of flights holds, by computation; and the theorems' hypotheses are met: flight Q is formed and has no cycle, so its
-- remaining rounds are longest chains. Assumes nothing.
use mathlib.Core.Path.{refl, sym, ◌∙◌}
use mathlib.Core.Bool.{false}
use Prim.Native.Nat.{zero, suc}
use native.Mathlib.Omega.{arith}
use lib.Dec.{lit<, lit≤}
use Rattle.below.specs.Below.{all_below, sum_below, list_below}
use Rattle.precedence.specs.Graph.{Formed, Cycle, at_start, one_round, cyclic_list, blocks, free, round, finished, unvisited, round_list, play_list}
use Rattle.precedence.specs.Flights.{as_expected, graph_q, GraphFlights}
use Rattle.precedence.proofs.Visits.{acyclic_iff}
use Rattle.precedence.proofs.Legs.{one_no_empty}
use Rattle.precedence.proofs.Lists.{cyclic_list_is, cost_list_is}
use Rattle.precedence.proofs.Theorems.{remaining_is_longest}

formed : Formed (graph_q false)
formed zero l = record { waiter_in = lit< tt; stop_pos = lit< tt; stop_in = lit≤ tt; awaited_in = lit< tt; until_in = lit≤ tt }
formed (suc w) l = absurd (omega arith)

no_cycle : Cycle (graph_q false) → ⊥
unfolding cyclic_list finished sum_below play_list round_list list_below round free blocks all_below unvisited
no_cycle = (acyclic_iff (graph_q false) formed).0 (sym (cyclic_list_is (graph_q false) formed) ∙ refl)

pub graph-flights : GraphFlights
unfolding as_expected
graph-flights = record { as_tabled = tt; cycles_counted = cyclic_list_is; costs_counted = λ P formed leg. cost_list_is P leg formed; chain_of_q = remaining_is_longest (graph_q false) one_round formed no_cycle at_start (one_no_empty (graph_q false) at_start) 1 (lit< tt) (lit< tt) }
