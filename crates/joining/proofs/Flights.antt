-- The flights, computed. Assumes nothing.
use mathlib.Core.Path.{refl}
use Rattle.below.specs.Below.{first_below, all_below, count_below, sum_below, list_below, picks, rows_below, is_in, laid, pair_before}
use Rattle.tables.specs.Legs.{plain_leg, longest_leg, leg_right}
use Rattle.tables.specs.Tables.{full_size}
use Rattle.tables.specs.Zero.{zeroed}
use Rattle.tables.specs.Flags.{turned_bit, flip_bit, under_way_bit, withdrawn_bit, only_two_bits, set_under_way, clear_under_way, set_withdrawn, fixed_flag}
use Rattle.lines.specs.Bytes.{byte_at, is_at}
use Rattle.lines.specs.Numbers.{is_digit, digits_from, number_at, field_at, digits}
use Rattle.lines.specs.Forms.{form_at}
use Rattle.lines.specs.Stops.{time_end, leg_at, leg_field, go_at, stops_at, count_at, stop_lines}
use Rattle.lines.specs.Names.{until_feed, line_end, is_capital, small_byte, small_form, is_name_byte, is_text_byte, text_bytes, text_name, name_at, name_of}
use Rattle.near.specs.Near.{listed_in, near, meets_in, pair_count, pair_sound, pairs_sound}
use Rattle.site.specs.Site.{in_order, near_at, pairs_at, pair_count_at, site_at}
use Rattle.site.specs.Written.{near_lines}
use Rattle.precedence.specs.Graph.{blocks, free, round, play, finished, unvisited, reached, cyclic}
use Rattle.text.specs.LinesRead.{stops_read, drone_at, same, elem, drones_at, lines_of_form, lines_at}
use Rattle.text.specs.TextWritten.{rows_in}
use Rattle.text.specs.Written.{route_lines}
use Rattle.plan.specs.Stops.{start, owner, stop_number}
use Rattle.plan.specs.Check.{fault_at, first_fault, over, collide, collider, apart}
use Rattle.plan.specs.Dependencies.{follows, is_last, is_fixed, flag_of}
use Rattle.plan.specs.Answers.{fault_case, check_of}
use Rattle.plan.specs.Status.{fixed_unturned, within_stops, waits_kept}
use Rattle.sound.specs.Sound.{zero_from, zeros, name_length, name_sound, same_name, names_differ, in_range, names_sound, site_sound, lists_sound, passes_check, plan_accepted_lem, dependencies_sound, plan_unused_lem, flags_sound, drone_flags_sound, progress_unused, sound}
use Rattle.call_log.specs.CallLog.{reply_in}
use Rattle.call_log.specs.Calls.{flip_flags, reply_of, grant_step, arrive_step, withdraw_step, turn_step, turn_all_step, tables_after}
use Rattle.reading.specs.Reading.{read_plan, read_lines}
use Rattle.joining.specs.Joining.{joined_text, unstarted, same_pairs, join_plans}
use Rattle.joining.specs.Flights.{JoiningFlights}

pub joining_flights : JoiningFlights
unfolding join_plans joined_text unstarted same_pairs tables_after reply_of flip_flags is_in grant_step arrive_step withdraw_step turn_step turn_all_step reply_in sound zero_from zeros name_length name_sound same_name names_differ in_range plain_leg longest_leg leg_right names_sound site_sound lists_sound pairs_sound pair_sound pair_before pair_count meets_in near listed_in passes_check plan_accepted_lem dependencies_sound plan_unused_lem flags_sound drone_flags_sound progress_unused fixed_unturned within_stops waits_kept follows is_last is_fixed flag_of fault_at first_fault over collide collider apart start owner stop_number blocks free round play finished unvisited reached cyclic is_name_byte turned_bit flip_bit under_way_bit withdrawn_bit only_two_bits set_under_way clear_under_way set_withdrawn fixed_flag full_size zeroed first_below all_below count_below sum_below list_below picks rows_below laid byte_at is_at is_digit digits_from number_at field_at digits form_at time_end leg_at leg_field go_at stops_at count_at stop_lines until_feed line_end is_capital small_byte small_form is_text_byte text_bytes text_name name_at name_of stops_read drone_at same elem drones_at lines_of_form lines_at rows_in route_lines fault_case check_of in_order near_at pairs_at pair_count_at site_at near_lines read_plan read_lines
joining_flights = record {
  replies = record {
    flight_q = refl;
    collide = refl;
    too_long = refl;
    too_many_drones = refl;
    one_name = refl;
    too_many_stops = refl;
    too_many_dependencies = refl;
    name_first = refl;
    length_first = refl;
  };
  unfit = record {
    under_way = refl;
    visited = refl;
    withdrawn = refl;
    turned = refl;
    turned_twice = refl;
    other_pairs = refl;
    pairs_of_one = refl;
    not_sound = refl;
    small = refl;
  };
  sites = record { no_pairs_lem = refl; near_starts = refl; near_later = refl; near_count = refl; near_too_many = refl };
  forms = record { one_of_each = refl; legs_first = refl; mixed_too_long = refl; mixed_one_name = refl; mixed_too_many_stops = refl };
}
