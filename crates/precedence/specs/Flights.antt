-- Flights Q and P of document 01 on the graph's definitions ("Flights to try"), as a table. Assumes nothing.
use Rattle.std.specs.Prelude.{◌≡◌, List, [], ◌∷◌, Bool, true, false, ◌&&◌, ◌||◌, ℕ, ◌≤◌, T, eqb, length, get_or}
use Rattle.below.specs.Below.{all_in, first_below, all_below, sum_below, list_below, at}
use Rattle.precedence.specs.Graph.{Wait, departure, Plan, blocks, free, round, finished, unvisited, round_list, play_list, cyclic_list, legs_left, fills, fly_round, fly_round_list, fly_list, remaining_list, Formed, at_start, remaining, cost, one_round, cyclic, Longest}

-- a plan from lists: each drone's last stop, and the waits
abbrev pub from_lists : List ℕ → List Wait → Plan
from_lists lasts waits = record { drones = length lasts; last = at lasts; count = length waits; wait = λ w. get_or waits w (departure 0 0 0 0) }

-- a dependency of drone 0 at its stop s and drone 1 at its stop k, drone 0 first as planned; turned, drone 1 is first
abbrev pub dependency_wait : Bool → ℕ → ℕ → Wait
dependency_wait false s k = departure 0 s 1 k
dependency_wait true s k = departure 1 k 0 s

-- Q: locations 1, 6, 5, 2 and 3, 5, 4: they share 5, at stop 2 and stop 1
abbrev pub graph_q : Bool → Plan
graph_q turned = from_lists (3 ∷ 2 ∷ []) (dependency_wait turned 2 1 ∷ [])

-- P: locations 10, 20, 30, 40 and 11, 20, 30, 41: they share 20 and 30, both at stop 1 and stop 2
abbrev pub graph_p : Bool → Bool → Plan
graph_p a b = from_lists (3 ∷ 3 ∷ []) (dependency_wait a 1 1 ∷ dependency_wait b 2 2 ∷ [])

-- each drone's legs, from lists
abbrev pub legs_in : List (List ℕ) → ℕ → ℕ → ℕ
legs_in legs d s = at (get_or legs d []) s

-- a plan, its legs, the drones' places, whether its graph has a cycle, and the cost from these places if it has none
pub record ExpectedGraph : Type 0 where
  pub plan : Plan
  pub legs : ℕ → ℕ → ℕ
  pub places : List ℕ
  pub has_cycle : Bool
  pub costs : ℕ

abbrev pub on_graph : Plan → List ℕ → Bool → ℕ → ExpectedGraph
on_graph p ps b n = record { plan = p; legs = one_round; places = ps; has_cycle = b; costs = n }

-- without a cycle, with these legs
abbrev pub with_legs : Plan → List (List ℕ) → List ℕ → ℕ → ExpectedGraph
with_legs p legs ps n = record { plan = p; legs = legs_in legs; places = ps; has_cycle = false; costs = n }

-- the last four: Q with a long first leg; with a long wait (turned, it is the other drone's); and from a place on the way, where a drone under way counts its full leg
abbrev pub flights : List ExpectedGraph
flights =
    on_graph (graph_q false) (0 ∷ 0 ∷ []) false 8
    ∷ on_graph (graph_q true) (0 ∷ 0 ∷ []) false 6
    ∷ on_graph (graph_q false) (2 ∷ 0 ∷ []) false 4
    ∷ on_graph (graph_p false false) (0 ∷ 0 ∷ []) false 8
    ∷ on_graph (graph_p true false) (0 ∷ 0 ∷ []) true 0
    ∷ on_graph (graph_p false true) (0 ∷ 0 ∷ []) true 0
    ∷ on_graph (graph_p true true) (0 ∷ 0 ∷ []) false 8
    ∷ with_legs (graph_q false) ((0 ∷ 4 ∷ 1 ∷ 1 ∷ []) ∷ (0 ∷ 1 ∷ 1 ∷ []) ∷ []) (0 ∷ 0 ∷ []) 14
    ∷ with_legs (graph_q false) ((0 ∷ 2 ∷ 1 ∷ 3 ∷ []) ∷ (0 ∷ 5 ∷ 2 ∷ []) ∷ []) (0 ∷ 0 ∷ []) 19
    ∷ with_legs (graph_q true) ((0 ∷ 2 ∷ 1 ∷ 3 ∷ []) ∷ (0 ∷ 5 ∷ 2 ∷ []) ∷ []) (0 ∷ 0 ∷ []) 18
    ∷ with_legs (graph_q false) ((0 ∷ 2 ∷ 1 ∷ 3 ∷ []) ∷ (0 ∷ 5 ∷ 2 ∷ []) ∷ []) (2 ∷ 0 ∷ []) 13
    ∷ []

-- the remaining cost, counted on a list of places
abbrev pub cost_list : Plan → (ℕ → ℕ → ℕ) → List ℕ → ℕ
cost_list P leg ps = sum_below P.drones (remaining_list P leg ps)

abbrev same_bool : Bool → Bool → Bool
same_bool true b = b
same_bool false true = false
same_bool false false = true

-- a flight is as the table says
unfoldable pub as_expected : ExpectedGraph → Bool
unfolding first_below all_below sum_below list_below blocks free round finished unvisited round_list play_list cyclic_list legs_left fills fly_round fly_round_list fly_list remaining_list
as_expected f = same_bool (cyclic_list f.plan) f.has_cycle && (same_bool f.has_cycle true || eqb (cost_list f.plan f.legs f.places) f.costs)

-- the table holds, and what is counted on lists is what the graph's definitions say; of flight Q at first, drone 1's remaining rounds are its longest chain
pub record GraphFlights : Type 0 where
  pub as_tabled : T (all_in as_expected flights)
  pub cycles_counted : (P : Plan) → Formed P → cyclic_list P ≡ cyclic P
  pub costs_counted : (P : Plan) → Formed P → (leg : ℕ → ℕ → ℕ) (ps : List ℕ) → P.drones ≤ length ps → cost_list P leg ps ≡ cost P leg (at ps)
  pub chain_of_q : Longest (graph_q false) one_round at_start 1 (remaining (graph_q false) one_round at_start 1)
