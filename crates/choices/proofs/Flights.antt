-- The table of specs/Flights.antt, by computing. Assumes nothing.
use mathlib.Core.Path.{refl}
use Rattle.below.specs.Below.{first_below, all_below, count_below, sum_below, list_below}
use Rattle.precedence.specs.Graph.{blocks, free, round, finished, unvisited, round_list, play_list, legs_left, fills, fly_round, fly_round_list, fly_list, remaining_list, cyclic_list}
use Rattle.choices.specs.Walk.{below, is_entered, walk_over}
use Rattle.choices.specs.Budget.{replied, reply_for}
use Rattle.choices.specs.Directions.{decided_at, direction_of}
use Rattle.choices.specs.Flights.{answer_to, questions, AllAnswered}

pub flights : AllAnswered questions
unfolding first_below all_below count_below sum_below list_below blocks free round finished unvisited round_list play_list legs_left fills fly_round fly_round_list fly_list remaining_list cyclic_list below is_entered walk_over replied reply_for decided_at direction_of answer_to
flights = (refl, (refl, (refl, (refl, (refl, (refl, (refl, (refl, tt))))))))
