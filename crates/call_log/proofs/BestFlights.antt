-- The table of specs/BestFlights.antt, by computing. Assumes nothing.
use mathlib.Core.Path.{refl}
use Rattle.below.specs.Below.{first_below, all_below, count_below, sum_below, list_below, picks, rows_below, pair_before}
use Rattle.tables.specs.Legs.{leg_right, longest_leg}
use Rattle.tables.specs.Tables.{full_size}
use Rattle.tables.specs.Flags.{turned_bit, under_way_bit, withdrawn_bit, only_two_bits, set_withdrawn}
use Rattle.lines.specs.Names.{is_name_byte}
use Rattle.precedence.specs.Graph.{blocks, free, round, play, finished, unvisited, legs_left, fills, fly_round, fly, reached, remaining, cost, cyclic}
use Rattle.near.specs.Near.{listed_in, near, meets_in, pair_count, pair_sound, pairs_sound}
use Rattle.plan.specs.Stops.{start, owner, stop_number}
use Rattle.plan.specs.Check.{fault_at, first_fault, over, collide, collider, apart}
use Rattle.plan.specs.Dependencies.{follows, is_last, is_fixed, flag_of}
use Rattle.plan.specs.Status.{fixed_unturned, within_stops, waits_kept}
use Rattle.sound.specs.Sound.{zero_from, name_length, name_sound, same_name, names_differ, in_range, names_sound, site_sound, lists_sound, zeros, passes_check, plan_accepted_lem, dependencies_sound, plan_unused_lem, flags_sound, drone_flags_sound, progress_unused, sound}
use Rattle.below.specs.Below.{laid}
use Rattle.tables.specs.Zero.{zeroed}
use Rattle.choices.specs.Walk.{below, is_entered, walk_over}
use Rattle.choices.specs.Budget.{replied, reply_for}
use Rattle.choices.specs.Directions.{decided_at, direction_of, to_turn}
use Rattle.call_log.specs.BestOrder.{budget_in, opens, turns_listed, best_order}
use Rattle.call_log.specs.BestFlights.{best_flights, BestFlightsHold}

pub best-flights : BestFlightsHold best_flights
unfolding best_order budget_in opens turns_listed laid zeroed below is_entered walk_over replied reply_for decided_at direction_of to_turn sound zero_from name_length name_sound same_name names_differ in_range leg_right longest_leg names_sound site_sound lists_sound zeros pairs_sound pair_sound pair_before pair_count meets_in near listed_in passes_check plan_accepted_lem dependencies_sound plan_unused_lem flags_sound drone_flags_sound progress_unused fixed_unturned within_stops waits_kept follows is_last is_fixed flag_of fault_at first_fault over collide collider apart start owner stop_number blocks free round play finished unvisited legs_left fills fly_round fly reached remaining cost cyclic is_name_byte turned_bit under_way_bit withdrawn_bit only_two_bits set_withdrawn full_size first_below all_below count_below sum_below list_below picks rows_below
best-flights = (refl, (refl, (refl, (refl, (refl, (refl, (refl, (refl, (refl, (refl, (refl, tt)))))))))))
