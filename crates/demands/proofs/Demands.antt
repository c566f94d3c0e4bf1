-- The three demands, at the product's limits. Assumes nothing.
use Rattle.tables.specs.Limits.{limits}
use Rattle.text.proofs.Offsets.{offsets_begin_lines}
use Rattle.text.proofs.CutTexts.{limits_cut_at_fault, limits_absent_at_length}
use Rattle.call_log.proofs.Claims.{demand2}
use Rattle.accepted.proofs.ReadSound.{tables_hold_plan, tables_hold_form, tables_hold_site, site_given_back, plain_legs, accepted_text, tables_sound}
use Rattle.accepted.proofs.TextFound.{demand3_of_texts}
use Rattle.accepted.proofs.Reported.{reported_of_texts}
use Rattle.accepted.proofs.Refused.{limits_lines_refused_exactly, dependencies-refused_exactly}
use Rattle.accepted.proofs.Taken.{limits-taken_exactly}
use Rattle.accepted.proofs.SiteRead.{site_refused_exactly, without_site}
use Rattle.accepted.proofs.SoundAccepted.{limits-sound_means_accepted}
use Rattle.joining.proofs.Claims.{limits_joining}
use Rattle.demands.specs.Demands.{FirstDemand, SecondDemand, ThirdDemand, Demands}
use Rattle.demands.proofs.BestOrder.{best_order_claims}
use Rattle.demands.proofs.Numbers.{exact_numbers}
use Rattle.demands.proofs.Refusals.{refusals_leave}
use Rattle.demands.proofs.FullSizes.{full_sizes_kept}
use Rattle.demands.proofs.Writing.{written_out}
use Rattle.demands.proofs.Remaining.{remaining_cost}

pub first_demand : FirstDemand limits
first_demand = record {
  exact_numbers = exact_numbers limits;
  site_refused = site_refused_exactly limits;
  reported_of_texts = reported_of_texts limits;
  refusals_leave = refusals_leave limits;
  full_sizes_kept = full_sizes_kept limits;
  lines_refused = limits_lines_refused_exactly;
  dependencies_refused = dependencies-refused_exactly limits;
  offsets_begin_lines = offsets_begin_lines limits;
  cut_at_fault = limits_cut_at_fault;
  absent_at_length = limits_absent_at_length;
}

pub second_demand : SecondDemand limits
second_demand = record {
  taken_exactly = limits-taken_exactly;
  tables_hold_plan = tables_hold_plan limits;
  tables_hold_form = tables_hold_form limits;
  tables_hold_site = tables_hold_site limits;
  plain_legs = plain_legs limits;
  accepted_text = accepted_text limits;
  without_site = without_site limits;
  tables_sound = tables_sound limits;
  sound_means_accepted = limits-sound_means_accepted;
  calls_exact = demand2;
  best_order_lem = best_order_claims limits;
  written_out = written_out limits;
  site_given_back = site_given_back limits;
  joined = limits_joining;
  remaining_cost = remaining_cost limits;
}

pub third_demand : ThirdDemand limits
third_demand = record { of_texts = demand3_of_texts limits; of_joined = limits_joining.demand_3 }

pub demands : Demands limits
demands = record { first = first_demand; second = second_demand; third = third_demand }
