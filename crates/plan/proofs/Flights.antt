-- The flights are as the statement has them, by computation. Assumes nothing.
use mathlib.Core.Path.{refl}
use Rattle.below.specs.Below.{first_below, all_below, sum_below, picks, rows_below, pair_before}
use Rattle.near.specs.Near.{pair_count, listed_in, near, meets_in, pair_sound, pairs_sound}
use Rattle.plan.specs.Stops.{start, owner, stop_number}
use Rattle.plan.specs.Check.{fault_at, first_fault, over, collide, collider}
use Rattle.plan.specs.Answers.{fault_case, check_of}
use Rattle.plan.specs.Dependencies.{follows, is_last, is_fixed, flag_of}
use Rattle.plan.specs.Flights.{Starred, NearFlights}

pub starred : Starred
unfolding first_below sum_below picks rows_below start owner stop_number fault_at first_fault over collide collider fault_case check_of follows is_last is_fixed flag_of
starred = record {
  leaves_as_other_enters = refl;
  number_is_10 = refl;
  taken = refl;
  one_dependency = refl;
  two_dependencies = refl;
  fixed_by_first_stop = refl;
  fixed_by_last_stop = refl;
  rises_by_leg = refl;
  leg_too_long = refl;
  number_is_12 = refl;
  after_8 = refl;
  before_9 = refl;
  then_9 = refl;
}

pub near-flights : NearFlights
unfolding first_below all_below sum_below picks rows_below pair_before start owner stop_number fault_at first_fault over collide collider fault_case check_of follows is_last is_fixed flag_of pair_count listed_in near meets_in pair_sound pairs_sound
near-flights = record {
  near_dependency = refl;
  near_collision = refl;
  near_at_once = refl;
  number_is_10 = refl;
  taken_without = refl;
  ends_of_row = refl;
  middle_of_row = refl;
  two_near = refl;
  one_drone_near = refl;
  by_itself = refl;
  none_by_itself = refl;
  no_pairs_lem = refl;
  rising = refl;
  equal_pairs = refl;
  falling_pair = refl;
  falling_list = refl;
}
