-- Demand 2, its parts gathered. Assumes nothing.
use Rattle.call_log.specs.Claims.{Demand2}
use Rattle.call_log.proofs.Exactly.{granted_exactly, waits_exactly, arrived_exactly, withdrawn_exactly, gone_exactly, aside_exactly, nobody_waits, unvisited_of_others, legs_of_others, second_after_first, turned_exactly, cycle_exactly, group_exactly, group_cycle_exactly, no_group_exactly, walked_exactly, turn_is_group, log_turn_is_group}
use Rattle.call_log.proofs.SoundKept.{stays_usable}
use Rattle.call_log.proofs.Withdrawals.{withdrawal_raises_none}
use Rattle.call_log.proofs.Costs.{cost_means, cost_bounded, cost_limit, plain_cost_limit}

pub demand2 : Demand2
demand2 = record {
  granted_exactly = granted_exactly;
  waits_exactly = waits_exactly;
  arrived_exactly = arrived_exactly;
  withdrawn_exactly = withdrawn_exactly;
  gone_exactly = gone_exactly;
  aside_exactly = aside_exactly;
  nobody_waits = nobody_waits;
  withdrawal_raises_none = withdrawal_raises_none;
  unvisited_of_others = unvisited_of_others;
  legs_of_others = legs_of_others;
  second_after_first = second_after_first;
  turned_exactly = turned_exactly;
  cycle_exactly = cycle_exactly;
  group_exactly = group_exactly;
  group_cycle_exactly = group_cycle_exactly;
  no_group_exactly = no_group_exactly;
  walked_exactly = walked_exactly;
  turn_is_group = turn_is_group;
  log_turn_is_group = log_turn_is_group;
  stays_usable = stays_usable;
  cost_means = cost_means;
  cost_bounded = cost_bounded;
  cost_limit = cost_limit;
  plain_cost_limit = plain_cost_limit;
}
