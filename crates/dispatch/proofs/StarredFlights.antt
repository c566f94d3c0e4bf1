-- The starred flights, computed; and at the product's limits by the law of two limits. Assumes nothing.
use mathlib.Core.Path.{refl}
use native.Mathlib.Omega.{arith}
use Rattle.below.specs.Below.{first_below, all_below, count_below, sum_below, list_below, laid, picks, rows_below, is_in, pair_before}
use Rattle.tables.specs.Tables.{full_size}
use Rattle.tables.specs.Legs.{plain_leg, leg_right, longest_leg}
use Rattle.tables.specs.Limits.{limits, Raised}
use Rattle.tables.specs.Zero.{zeroed, filled}
use Rattle.tables.specs.Flags.{turned_bit, flip_bit, fixed_flag, under_way_bit, withdrawn_bit, only_two_bits, set_under_way, clear_under_way}
use Rattle.lines.specs.Bytes.{byte_at, is_at}
use Rattle.lines.proofs.NumberRoundTrip.{limits_seven}
use Rattle.lines.specs.Numbers.{is_digit, digits_from, number_at, field_at}
use Rattle.lines.specs.Forms.{form_at}
use Rattle.lines.specs.Stops.{time_end, leg_at, go_at, stops_at, count_at}
use Rattle.lines.specs.Names.{until_feed, line_end, is_capital, small_byte, small_form, is_name_byte, is_text_byte, text_bytes, text_name, name_at}
use Rattle.text.specs.Examples.{bytes}
use Rattle.text.specs.LinesRead.{stops_read, drone_at, same, elem, drones_at, lines_of_form, lines_at}
use Rattle.precedence.specs.Graph.{blocks, free, round, play, finished, unvisited, legs_left, fills, fly_round, fly, reached, remaining, cost, cyclic}
use Rattle.near.specs.Near.{listed_in, near, meets_in, pair_count, pair_sound, pairs_sound}
use Rattle.plan.specs.Stops.{start, owner, stop_number}
use Rattle.plan.specs.Check.{fault_at, first_fault, over, collide, collider, apart}
use Rattle.plan.specs.Dependencies.{follows, is_last, is_fixed, flag_of}
use Rattle.plan.specs.Answers.{fault_case, check_of}
use Rattle.plan.specs.Status.{fixed_unturned, within_stops, waits_kept}
use Rattle.sound.specs.Sound.{zero_from, name_length, name_sound, same_name, names_differ, in_range, names_sound, site_sound, lists_sound, zeros, passes_check, plan_accepted_lem, dependencies_sound, plan_unused_lem, flags_sound, drone_flags_sound, progress_unused, sound}
use Rattle.call_log.specs.CallLog.{reply_in, accepted_calls}
use Rattle.call_log.specs.Calls.{reply_of, grant_step, arrive_step, turn_step, cost_reply}
use Rattle.call_log.specs.Flights.{follow}
use Rattle.reading.specs.Reading.{read_plan, read_lines, without}
use Rattle.dispatch.specs.Flights.{tight, HasOutcome, collides, early_q, starred_texts, StarredFlights, StarredAtLimits}
use Rattle.dispatch.proofs.FlightsBefore.{flights-before}

pub starred_flights : StarredFlights
unfolding follow reply_of is_in grant_step arrive_step turn_step cost_reply reply_in accepted_calls sound zero_from name_length name_sound same_name names_differ in_range leg_right longest_leg names_sound site_sound lists_sound zeros pairs_sound pair_sound pair_before pair_count meets_in near listed_in passes_check plan_accepted_lem dependencies_sound plan_unused_lem flags_sound drone_flags_sound progress_unused fixed_unturned within_stops waits_kept follows is_last is_fixed flag_of fault_at first_fault over collide collider apart fault_case check_of start owner stop_number blocks free round play finished unvisited legs_left fills fly_round fly reached remaining cost cyclic byte_at is_at is_digit digits_from number_at field_at go_at stops_at count_at until_feed line_end is_capital small_byte small_form is_name_byte is_text_byte text_bytes text_name name_at stops_read drone_at same elem drones_at form_at lines_of_form lines_at plain_leg time_end leg_at turned_bit flip_bit fixed_flag under_way_bit withdrawn_bit only_two_bits set_under_way clear_under_way full_size zeroed read_plan read_lines first_below all_below count_below sum_below list_below laid picks rows_below
starred_flights = ((refl, refl, refl), (refl, ((refl, refl, refl), ((refl, refl, refl), ((refl, refl, refl), ((refl, refl, refl), ((refl, refl, refl), ((refl, refl, refl), tt))))))))

-- ---- at the product's limits

-- a plan that is refused leaves no tables to look at
early_collides : HasOutcome limits early_q (read_plan limits without (bytes early_q) (filled 7 limits)) (collides 0 2 1 1)
unfolding first_below all_below count_below sum_below full_size zeroed byte_at is_at is_digit digits_from number_at field_at go_at stops_at count_at until_feed line_end is_capital small_byte small_form is_name_byte is_text_byte text_bytes text_name name_at stops_read drone_at same elem drones_at form_at lines_of_form lines_at plain_leg leg_right longest_leg time_end leg_at start owner stop_number fault_at first_fault over collide collider follows fault_case check_of meets_in near listed_in read_plan read_lines
early_collides = refl

tight_raised : Raised tight limits
tight_raised = record { text = omega arith; drones = omega arith; stops = omega arith; dependencies = omega arith; name = refl; location = refl; time = refl; leg = refl; form = omega arith }

pub starred_at_limits : StarredAtLimits
starred_at_limits = flights-before tight limits tight_raised limits_seven starred_texts (tt, (early_collides, (tt, (tt, (tt, (tt, (tt, (tt, tt)))))))) starred_flights
