-- Flight Q by presses, computed. Assumes nothing.
use mathlib.Core.Path.{refl}
use Rattle.below.specs.Below.{first_below, all_below, count_below, sum_below, list_below, picks, rows_below, pair_before}
use Rattle.tables.specs.Tables.{full_size}
use Rattle.tables.specs.Legs.{leg_right, longest_leg}
use Rattle.tables.specs.Flags.{turned_bit, flip_bit, under_way_bit, withdrawn_bit, only_two_bits, set_under_way, clear_under_way, set_withdrawn}
use Rattle.lines.specs.Names.{is_name_byte}
use Rattle.precedence.specs.Graph.{blocks, free, round, play, finished, unvisited, legs_left, fills, fly_round, fly, reached, remaining, cost, cyclic}
use Rattle.near.specs.Near.{listed_in, near, meets_in, pair_count, pair_sound, pairs_sound}
use Rattle.plan.specs.Stops.{start, owner, stop_number}
use Rattle.plan.specs.Check.{fault_at, first_fault, over, collide, collider, apart}
use Rattle.plan.specs.Dependencies.{follows, is_last, is_fixed, flag_of}
use Rattle.plan.specs.Status.{fixed_unturned, within_stops, waits_kept}
use Rattle.sound.specs.Sound.{zero_from, name_length, name_sound, same_name, names_differ, in_range, names_sound, site_sound, lists_sound, zeros, passes_check, plan_accepted_lem, dependencies_sound, plan_unused_lem, flags_sound, drone_flags_sound, progress_unused, sound}
use Rattle.call_log.specs.CallLog.{reply_in, short}
use Rattle.call_log.specs.Calls.{reply_of, grant_step, arrive_step}
use Rattle.handset.specs.Press.{after_grants, bits_below, grant_all_step, after_arrival, press_step}
use Rattle.handset.specs.Flights.{presses_hold, FlightQHolds}

pub flight_q_holds : FlightQHolds
unfolding presses_hold press_step after_arrival grant_all_step bits_below after_grants reply_of grant_step arrive_step reply_in short sound zero_from name_length name_sound same_name names_differ in_range leg_right longest_leg names_sound site_sound lists_sound zeros pairs_sound pair_sound pair_before pair_count meets_in near listed_in passes_check plan_accepted_lem dependencies_sound plan_unused_lem flags_sound drone_flags_sound progress_unused fixed_unturned within_stops waits_kept follows is_last is_fixed flag_of fault_at first_fault over collide collider apart start owner stop_number blocks free round play finished unvisited legs_left fills fly_round fly reached remaining cost cyclic is_name_byte turned_bit flip_bit under_way_bit withdrawn_bit only_two_bits set_under_way clear_under_way set_withdrawn full_size first_below all_below count_below sum_below list_below picks rows_below
flight_q_holds = (refl, refl)
