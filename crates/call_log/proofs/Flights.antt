-- The flights, computed by the log and the tables as they were read. Assumes nothing.
use mathlib.Core.Path.{refl}
use mathlib.Core.List.{◌++◌}
use Rattle.below.specs.Below.{first_below, all_below, count_below, sum_below, list_below, picks, rows_below, is_in, pair_before}
use Rattle.tables.specs.Legs.{leg_right, longest_leg}
use Rattle.tables.specs.Tables.{full_size}
use Rattle.tables.specs.Flags.{turned_bit, fixed_flag, under_way_bit, withdrawn_bit, only_two_bits}
use Rattle.lines.specs.Names.{is_name_byte}
use Rattle.precedence.specs.Graph.{blocks, free, round, play, finished, unvisited, legs_left, fills, fly_round, fly, reached, remaining, cost, cyclic}
use Rattle.near.specs.Near.{listed_in, near, meets_in, pair_count, pair_sound, pairs_sound}
use Rattle.plan.specs.Stops.{start, owner, stop_number}
use Rattle.plan.specs.Check.{fault_at, first_fault, over, collide, collider, apart}
use Rattle.plan.specs.Dependencies.{follows, is_last, is_fixed, flag_of}
use Rattle.plan.specs.Status.{fixed_unturned, within_stops, waits_kept}
use Rattle.sound.specs.Sound.{zero_from, name_length, name_sound, same_name, names_differ, in_range, names_sound, site_sound, lists_sound, zeros, passes_check, plan_accepted_lem, dependencies_sound, plan_unused_lem, flags_sound, drone_flags_sound, progress_unused, sound}
use Rattle.call_log.specs.CallLog.{reply_in, accepted_calls}
use Rattle.call_log.specs.Flights.{slips, group_flights, carried_home, looks, leg_flights, site_flights, FlightsHold, LegsUnsound, PairsUnsound}
use Rattle.call_log.proofs.Read.{is_read}
use Rattle.call_log.proofs.FollowLog.{follow_by, holds_by, flights_all}

pub flights_hold : FlightsHold
unfolding holds_by follow_by is_read is_in reply_in accepted_calls sound zero_from name_length name_sound same_name names_differ in_range leg_right longest_leg names_sound site_sound lists_sound zeros pairs_sound pair_sound pair_before pair_count meets_in near listed_in passes_check plan_accepted_lem dependencies_sound plan_unused_lem flags_sound drone_flags_sound progress_unused fixed_unturned within_stops waits_kept follows is_last is_fixed flag_of fault_at first_fault over collide collider apart start owner stop_number blocks free round play finished unvisited legs_left fills fly_round fly reached remaining cost cyclic is_name_byte turned_bit under_way_bit withdrawn_bit only_two_bits full_size first_below all_below count_below sum_below list_below picks rows_below fixed_flag
flights_hold = flights_all (slips ++ group_flights ++ carried_home ++ looks ++ leg_flights ++ site_flights) refl

pub legs_unsound : LegsUnsound
unfolding sound zero_from name_length name_sound same_name names_differ in_range leg_right longest_leg names_sound site_sound lists_sound zeros pairs_sound pair_sound pair_before pair_count meets_in near listed_in passes_check plan_accepted_lem dependencies_sound plan_unused_lem flags_sound drone_flags_sound progress_unused fixed_unturned within_stops waits_kept follows is_last is_fixed flag_of fault_at first_fault over collide collider apart start owner stop_number blocks free round play finished unvisited legs_left fills fly_round fly reached remaining cost cyclic is_name_byte turned_bit under_way_bit withdrawn_bit only_two_bits full_size first_below all_below count_below sum_below list_below picks rows_below
legs_unsound = record { longer_in_plain = refl; no_form = refl; third_form = refl; leg_0 = refl; leg_61 = refl; leg_too_long = refl }

pub pairs_unsound : PairsUnsound
unfolding sound zero_from name_length name_sound same_name names_differ in_range leg_right longest_leg names_sound site_sound lists_sound zeros pairs_sound pair_sound pair_before pair_count meets_in near listed_in passes_check plan_accepted_lem dependencies_sound plan_unused_lem flags_sound drone_flags_sound progress_unused fixed_unturned within_stops waits_kept follows is_last is_fixed flag_of fault_at first_fault over collide collider apart start owner stop_number blocks free round play finished unvisited legs_left fills fly_round fly reached remaining cost cyclic is_name_byte turned_bit under_way_bit withdrawn_bit only_two_bits full_size first_below all_below count_below sum_below list_below picks rows_below
pairs_unsound = record { sound_pairs = refl; one_location = refl; falling_pair = refl; equal_pairs = refl; falling_list = refl; half_a_pair = refl; after_zero = refl }
