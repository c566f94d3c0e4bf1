-- The search on flights Q and P, on three drones that share one crossing, on three drones of which one is better turned, and on Q with legs, as a table: a choice's cycle and cost
-- are counted on lists.
-- Assumes nothing.
use Rattle.std.specs.Prelude.{◌≡◌, Bool, true, false, List, [], ◌∷◌, ℕ, length, get_or}
use Rattle.precedence.specs.Graph.{Wait, Plan, departure, cyclic_list, one_round}
use Rattle.precedence.specs.Flights.{from_lists, legs_in, cost_list}
use Rattle.choices.specs.Budget.{SearchReply, found, over, reply_for}
use Rattle.choices.specs.Directions.{choice_plan}

-- a dependency of drone j at its stop s and drone i at its stop k, drone j first
pub record Shared : Type 0 where
  pub first : ℕ
  pub first_stop : ℕ
  pub second : ℕ
  pub second_stop : ℕ

abbrev pub shared_by : (j s i k : ℕ) → Shared
shared_by j s i k = record { first = j; first_stop = s; second = i; second_stop = k }

abbrev pub waits_of : List Shared → List Wait
waits_of [] = []
waits_of (d ∷ ds) = departure d.first d.first_stop d.second d.second_stop ∷ waits_of ds

abbrev pub turned_of : List Shared → List Wait
turned_of [] = []
turned_of (d ∷ ds) = departure d.second d.second_stop d.first d.first_stop ∷ turned_of ds

-- last stops, legs, places, dependencies (all of them open), the budget, and the reply
pub record Question : Type 0 where
  pub lasts : List ℕ
  pub legs : ℕ → ℕ → ℕ
  pub places : List ℕ
  pub dependencies : List Shared
  pub budget : ℕ
  pub replied_with : SearchReply

abbrev pub asked_plan : Question → List Bool → Plan
asked_plan a = choice_plan (from_lists a.lasts (waits_of a.dependencies)) (λ w. get_or (turned_of a.dependencies) w (departure 0 0 0 0)) (λ w. true)

unfoldable pub answer_to : Question → SearchReply
answer_to a = reply_for (λ xs. cyclic_list (asked_plan a xs)) (λ xs. cost_list (asked_plan a xs) a.legs a.places) a.budget (length a.dependencies)

-- with legs of one round, and with legs from lists
abbrev pub asks : List ℕ → List ℕ → List Shared → ℕ → SearchReply → Question
asks l p d b r = record { lasts = l; legs = one_round; places = p; dependencies = d; budget = b; replied_with = r }

abbrev pub asks_with_legs : List ℕ → List (List ℕ) → List ℕ → List Shared → ℕ → SearchReply → Question
asks_with_legs l legs p d b r = record { lasts = l; legs = legs_in legs; places = p; dependencies = d; budget = b; replied_with = r }

abbrev pub flight_q : List Shared
flight_q = shared_by 0 2 1 1 ∷ []

abbrev pub flight_p : List Shared
flight_p = shared_by 0 1 1 1 ∷ shared_by 0 2 1 2 ∷ []

abbrev pub crossing : List Shared
crossing = shared_by 0 1 1 1 ∷ shared_by 0 1 2 1 ∷ shared_by 1 1 2 1 ∷ []

abbrev pub three : List Shared
three = shared_by 0 1 2 3 ∷ shared_by 0 3 1 1 ∷ []

abbrev pub questions : List Question
questions =
    asks (3 ∷ 2 ∷ []) (0 ∷ 0 ∷ []) flight_q 3 (found 6 (true ∷ []) 3)
    ∷ asks (3 ∷ 2 ∷ []) (0 ∷ 0 ∷ []) flight_q 2 (over 2)
    ∷ asks (3 ∷ 3 ∷ []) (0 ∷ 0 ∷ []) flight_p 100 (found 8 (false ∷ false ∷ []) 3)
    ∷ asks (2 ∷ 2 ∷ 2 ∷ []) (0 ∷ 0 ∷ 0 ∷ []) crossing 100 (found 12 (false ∷ false ∷ false ∷ []) 6)
    ∷ asks (4 ∷ 2 ∷ 4 ∷ []) (0 ∷ 0 ∷ 0 ∷ []) three 100 (found 10 (false ∷ true ∷ []) 4)
    ∷ asks (0 ∷ []) (0 ∷ []) [] 1 (found 0 [] 1)
    ∷ asks_with_legs (3 ∷ 2 ∷ []) ((0 ∷ 2 ∷ 1 ∷ 3 ∷ []) ∷ (0 ∷ 5 ∷ 2 ∷ []) ∷ []) (0 ∷ 0 ∷ []) flight_q 3 (found 18 (true ∷ []) 3)
    ∷ asks_with_legs (3 ∷ 2 ∷ []) ((0 ∷ 1 ∷ 1 ∷ 1 ∷ []) ∷ (0 ∷ 9 ∷ 1 ∷ []) ∷ []) (0 ∷ 0 ∷ []) flight_q 3 (found 16 (false ∷ []) 2)
    ∷ []

-- every answer is the table's
abbrev pub AllAnswered : List Question → Type 0
AllAnswered [] = Unit {0}
AllAnswered (a ∷ more) = (answer_to a ≡ a.replied_with) × AllAnswered more
