-- Document 01's example and the faults of call lines, by computation from the definitions.
use Prim.Native.Nat.{ℕ, ◌-◌}
use mathlib.Core.Path.{◌≡◌, refl}
use mathlib.Core.List.{List, [], ◌∷◌, ◌++◌}
use Rattle.plan.specs.Visits.{same_location}
use Rattle.below.specs.Below.{is_in, first_below, all_below, sum_below}
use Rattle.tables.specs.Limits.{most_cost}
use Rattle.precedence.specs.Graph.{blocks, free, round, play, finished, unvisited, legs_left, fills, fly_round, fly, reached, remaining, cost, cyclic}
use Rattle.lines.specs.Keys.{first_line, agents_key, stops_key, last_line}
use Rattle.lines.specs.Bytes.{byte_at, is_at}
use Rattle.lines.specs.Names.{name_line}
use Rattle.lines.specs.Numbers.{is_digit, digits_from, number_at, field_at, digits}
use Rattle.lines.specs.Stops.{time_end, leg_field, stop_line, count_line}
use Rattle.call_log.specs.CallLog.{accepted_calls, reply_in}
use Rattle.transcript.specs.Keys.{grant_key, arrive_key, turn_key, cost_key}
use Rattle.transcript.specs.Input.{starts_line, ends_plan, plan_end, call_line, call_at, call_lines_at, requests_at, cost as cost_request}
use Rattle.transcript.specs.Output.{reply_text, answer_line, answer_lines, answers_by, output_of, PlanReading}
use Rattle.std.specs.Prelude.{Err}
use Rattle.transcript.specs.declared.keys.Kind.TheVariants.{Grant, Cost}
use Rattle.transcript.specs.declared.requests.CallFault.TheVariants.{Malformed, OutOfRange}

-- ---- flight Q

-- in either plan form, with legs of one
abbrev plan_q : ℕ → List ℕ
plan_q form =
    first_line form ++ count_line agents_key 2
    ++ name_line (115 ∷ 117 ∷ 114 ∷ 118 ∷ 101 ∷ 121 ∷ 45 ∷ 113 ∷ 117 ∷ 97 ∷ 100 ∷ 45 ∷ 101 ∷ 97 ∷ 115 ∷ 116 ∷ 45 ∷ 49 ∷ []) ++ count_line stops_key 4 ++ stop_line form 1 0 0 ++ stop_line form 6 1 1 ++ stop_line form 5 2 1 ++ stop_line form 2 3 1
    ++ name_line (115 ∷ 117 ∷ 114 ∷ 118 ∷ 101 ∷ 121 ∷ 45 ∷ 113 ∷ 117 ∷ 97 ∷ 100 ∷ 45 ∷ 101 ∷ 97 ∷ 115 ∷ 116 ∷ 45 ∷ 50 ∷ []) ++ count_line stops_key 3 ++ stop_line form 3 0 0 ++ stop_line form 5 4 1 ++ stop_line form 4 5 1
    ++ last_line

abbrev calls_q : List ℕ
calls_q = count_line cost_key 0 ++ count_line grant_key 1 ++ count_line turn_key 0 ++ count_line cost_key 0 ++ count_line grant_key 1 ++ count_line grant_key 0 ++ count_line arrive_key 1 ++ count_line arrive_key 1

-- what reading it gives: drone 0 at 1 6 5 2, drone 1 at 3 5 4, and one dependency, drone 0 at its stop 2 before drone 1 at its stop 1
abbrev reading_q : PlanReading
reading_q = record {
  number = 0;
  plan = record {
    drones = 2;
    last = λ d. 3 - d;
    location = λ d s. 0;
    time = λ d s. 0;
    leg = λ d s. 1;
    meets = same_location;
    count = 1;
    dependency = λ w. record { first = 0; first_stop = 2; second = 1; second_stop = 1 };
  };
}

-- plan=0 cost=8 grant=23:0 turn=0 cost=6 grant=0 grant=0 arrive=0 arrive=24 end=calls
abbrev output_q : List ℕ
output_q =
    112 ∷ 108 ∷ 97 ∷ 110 ∷ 61 ∷ 48 ∷ 10 ∷
    99 ∷ 111 ∷ 115 ∷ 116 ∷ 61 ∷ 56 ∷ 10 ∷
    103 ∷ 114 ∷ 97 ∷ 110 ∷ 116 ∷ 61 ∷ 50 ∷ 51 ∷ 58 ∷ 48 ∷ 10 ∷
    116 ∷ 117 ∷ 114 ∷ 110 ∷ 61 ∷ 48 ∷ 10 ∷
    99 ∷ 111 ∷ 115 ∷ 116 ∷ 61 ∷ 54 ∷ 10 ∷
    103 ∷ 114 ∷ 97 ∷ 110 ∷ 116 ∷ 61 ∷ 48 ∷ 10 ∷
    103 ∷ 114 ∷ 97 ∷ 110 ∷ 116 ∷ 61 ∷ 48 ∷ 10 ∷
    97 ∷ 114 ∷ 114 ∷ 105 ∷ 118 ∷ 101 ∷ 61 ∷ 48 ∷ 10 ∷
    97 ∷ 114 ∷ 114 ∷ 105 ∷ 118 ∷ 101 ∷ 61 ∷ 50 ∷ 52 ∷ 10 ∷
    101 ∷ 110 ∷ 100 ∷ 61 ∷ 99 ∷ 97 ∷ 108 ∷ 108 ∷ 115 ∷ 10 ∷ []

-- the plan is the bytes through `end=plan`
plan_ends : plan_end (plan_q 1 ++ calls_q) ≡ 138
unfolding plan_end first_below ends_plan starts_line byte_at is_at digits time_end leg_field
plan_ends = refl

-- .. in `plan=2` with two bytes more in each line of a stop
legs_plan_ends : plan_end (plan_q 2 ++ calls_q) ≡ 152
unfolding plan_end first_below ends_plan starts_line byte_at is_at digits time_end leg_field
legs_plan_ends = refl

-- document 01's output
flight_Q : output_of (λ text. reading_q) (plan_q 1 ++ calls_q) ≡ output_q
unfolding output_of plan_end first_below ends_plan starts_line byte_at is_at digits time_end leg_field call_lines_at call_at field_at number_at digits_from is_digit answers_by answer_lines answer_line reply_text accepted_calls reply_in blocks free round play finished unvisited legs_left fills fly_round fly reached remaining cost cyclic is_in all_below sum_below
flight_Q = refl

-- ---- call lines

-- `grant=65535`
greatest : call_at (103 ∷ 114 ∷ 97 ∷ 110 ∷ 116 ∷ 61 ∷ 54 ∷ 53 ∷ 53 ∷ 51 ∷ 53 ∷ 10 ∷ []) 0 ≡ call_line Grant 65535 12
unfolding call_at is_at byte_at field_at number_at digits_from is_digit
greatest = refl

-- `grant=65536`
beyond : call_at (103 ∷ 114 ∷ 97 ∷ 110 ∷ 116 ∷ 61 ∷ 54 ∷ 53 ∷ 53 ∷ 51 ∷ 54 ∷ 10 ∷ []) 0 ≡ Err OutOfRange
unfolding call_at is_at byte_at field_at number_at digits_from is_digit
beyond = refl

-- `cost=1`: any but 0
beyond_cost : call_at (99 ∷ 111 ∷ 115 ∷ 116 ∷ 61 ∷ 49 ∷ 10 ∷ []) 0 ≡ Err OutOfRange
unfolding call_at is_at byte_at field_at number_at digits_from is_digit
beyond_cost = refl

-- `arrive=0` without its line feed
no_feed : call_at (97 ∷ 114 ∷ 114 ∷ 105 ∷ 118 ∷ 101 ∷ 61 ∷ 48 ∷ []) 0 ≡ Err Malformed
unfolding call_at is_at byte_at field_at number_at digits_from is_digit
no_feed = refl

-- `turn=65536` without its line feed: the form is judged before the range
form_first : call_at (116 ∷ 117 ∷ 114 ∷ 110 ∷ 61 ∷ 54 ∷ 53 ∷ 53 ∷ 51 ∷ 54 ∷ []) 0 ≡ Err Malformed
unfolding call_at is_at byte_at field_at number_at digits_from is_digit
form_first = refl

-- `turn=00`
leading_zero : call_at (116 ∷ 117 ∷ 114 ∷ 110 ∷ 61 ∷ 48 ∷ 48 ∷ 10 ∷ []) 0 ≡ Err Malformed
unfolding call_at is_at byte_at field_at number_at digits_from is_digit
leading_zero = refl

-- `Grant=0`
capital : call_at (71 ∷ 114 ∷ 97 ∷ 110 ∷ 116 ∷ 61 ∷ 48 ∷ 10 ∷ []) 0 ≡ Err Malformed
unfolding call_at is_at byte_at field_at number_at digits_from is_digit
capital = refl

-- an empty line
empty_line : call_at (10 ∷ []) 0 ≡ Err Malformed
unfolding call_at is_at byte_at field_at number_at digits_from is_digit
empty_line = refl

-- nothing is read after the first fault
up_to_fault : requests_at (count_line cost_key 0 ++ count_line cost_key 1 ++ count_line grant_key 0) 0 ≡ record { requests = cost_request ∷ []; ending = Err OutOfRange }
unfolding call_lines_at call_at is_at byte_at field_at number_at digits_from is_digit digits
up_to_fault = refl

-- ---- the plan's bytes

-- `end=plan` in the middle of a line ends nothing: here the line is `xend=plan`, and all bytes are the plan
inside_line : plan_end (120 ∷ last_line ++ count_line cost_key 0) ≡ 17
unfolding plan_end first_below ends_plan starts_line byte_at is_at digits
inside_line = refl

-- the first such line counts
first_end : plan_end (10 ∷ last_line ++ last_line) ≡ 10
unfolding plan_end first_below ends_plan starts_line byte_at is_at
first_end = refl

-- ---- a refused plan prints nothing more: `plan=2`

refused_plan : output_of (λ text. record { number = 2; plan = reading_q.plan }) (count_line cost_key 0) ≡ 112 ∷ 108 ∷ 97 ∷ 110 ∷ 61 ∷ 50 ∷ 10 ∷ []
unfolding output_of plan_end first_below ends_plan starts_line byte_at is_at digits
refused_plan = refl

-- ---- the greatest cost: `cost=7618560`

greatest_cost_lem : answer_line Cost 0 most_cost ≡ 99 ∷ 111 ∷ 115 ∷ 116 ∷ 61 ∷ 55 ∷ 54 ∷ 49 ∷ 56 ∷ 53 ∷ 54 ∷ 48 ∷ 10 ∷ []
unfolding answer_line digits
greatest_cost_lem = refl
