-- The cheapest directions of flights: Q is better turned; P costs the same with both left and with both turned; three drones that share one crossing; a long leg; a withdrawn drone; and
-- each refusal. Assumes nothing.
use Rattle.std.specs.Prelude.{◌≡◌, List, [], ◌∷◌, ℕ}
use Rattle.tables.specs.Tables.{Tables}
use Rattle.call_log.specs.Calls.{marked}
use Rattle.call_log.specs.Flights.{Visit, go, small, tables_in, tables_by, Q, long_q, P}
use Rattle.call_log.specs.BestOrder.{BestOutcome, best_is, too_many, best_refused, BestAnswer, best_order}

-- tables, the lent list and the budget, and the answer
pub record BestFlight : Type 0 where
  pub tables : Tables
  pub lent : List ℕ
  pub budget : ℕ
  pub answer : BestAnswer

abbrev pub best : Tables → List ℕ → ℕ → BestOutcome → List ℕ → BestFlight
best t l n o r = record { tables = t; lent = l; budget = n; answer = record { outcome = o; list = r } }

-- drones that come to location 10 one after another
abbrev pub triple_crossing : List (List Visit)
triple_crossing = (go 1 0 ∷ go 10 1 ∷ go 2 2 ∷ []) ∷ (go 3 0 ∷ go 10 3 ∷ go 4 4 ∷ []) ∷ (go 5 0 ∷ go 10 5 ∷ go 6 6 ∷ []) ∷ []

abbrev pub best_flights : List BestFlight
best_flights =
    -- Q: dependency 0 turned costs 6. Three choices are entered: the empty one, left, turned. With a budget of two it is 37
    best (tables_by (Q 4)) (9 ∷ 9 ∷ 9 ∷ []) 3 (best_is 6 1 3) (0 ∷ 0 ∷ 0 ∷ [])
    ∷ best (tables_by (Q 4)) (9 ∷ 9 ∷ 9 ∷ []) 2 (too_many 2) (9 ∷ 9 ∷ 9 ∷ [])
    -- P: both left, or both turned, costs 8. The earliest is the empty list
    ∷ best (tables_by P) (9 ∷ 9 ∷ 9 ∷ []) 100000 (best_is 8 0 3) (0 ∷ 0 ∷ 0 ∷ [])
    ∷ best (tables_by P) (9 ∷ 9 ∷ 9 ∷ []) 2 (too_many 2) (9 ∷ 9 ∷ 9 ∷ [])
    -- three at one crossing: whoever is first, the cost is the same
    ∷ best (tables_by triple_crossing) (9 ∷ 9 ∷ 9 ∷ []) 6 (best_is 12 0 6) (0 ∷ 0 ∷ 0 ∷ [])
    ∷ best (tables_by triple_crossing) (9 ∷ 9 ∷ 9 ∷ []) 5 (too_many 5) (9 ∷ 9 ∷ 9 ∷ [])
    -- Q with a leg of three rounds into drone 0's stop 2: left costs 12, turned 8
    ∷ best (tables_in 2 long_q) (9 ∷ 9 ∷ 9 ∷ []) 3 (best_is 8 1 3) (0 ∷ 0 ∷ 0 ∷ [])
    -- Q with drone 0 withdrawn: its dependency is 35 for turns, so nothing is open. "The count is the number of part-made and finished choices entered, the empty one included"
    ∷ best (marked (tables_by (Q 4)) 0) (9 ∷ 9 ∷ 9 ∷ []) 1 (best_is 2 0 1) (0 ∷ 0 ∷ 0 ∷ [])
    -- "38, a budget out of range", and 41 for a list that is too short
    ∷ best (tables_by (Q 4)) (9 ∷ 9 ∷ 9 ∷ []) 0 (best_refused 38) (9 ∷ 9 ∷ 9 ∷ [])
    ∷ best (tables_by (Q 4)) (9 ∷ 9 ∷ 9 ∷ []) 100001 (best_refused 38) (9 ∷ 9 ∷ 9 ∷ [])
    ∷ best (tables_by (Q 4)) (9 ∷ 9 ∷ []) 0 (best_refused 41) (9 ∷ 9 ∷ [])
    ∷ []

-- every answer is the table's
abbrev pub BestFlightsHold : List BestFlight → Type 0
BestFlightsHold [] = Unit {0}
BestFlightsHold (f ∷ fs) = (best_order small f.tables f.lent f.budget ≡ f.answer) × BestFlightsHold fs
