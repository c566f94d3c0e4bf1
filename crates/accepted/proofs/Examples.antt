-- The worked readings of specs/Examples, by computing; flight Q is accepted, so demand 3 holds of every list of calls after it.
use mathlib.Core.Path.{◌≡◌, refl, ap}
use mathlib.Core.List.{List}
use Rattle.below.specs.Below.{first_below, all_below, count_below, sum_below, pair_before}
use Rattle.tables.specs.Limits.{limits}
use Rattle.tables.specs.Legs.{plain_leg, longest_leg, leg_right}
use Rattle.tables.specs.Tables.{Tables, full_size}
use Rattle.tables.specs.Zero.{zeroed, filled}
use Rattle.lines.specs.Bytes.{byte_at, is_at}
use Rattle.lines.specs.Numbers.{is_digit, digits_from, number_at, field_at}
use Rattle.lines.specs.Forms.{form_at}
use Rattle.lines.specs.Stops.{time_end, leg_at, go_at, stops_at, count_at}
use Rattle.lines.specs.Names.{until_feed, line_end, is_capital, small_byte, small_form, is_name_byte, is_text_byte, text_bytes, text_name, name_at}
use Rattle.near.specs.Near.{listed_in, near, meets_in}
use Rattle.site.specs.Site.{in_order, near_at, pairs_at, pair_count_at, site_at}
use Rattle.text.specs.LinesRead.{stops_read, drone_at, same, elem, drones_at, lines_of_form, lines_at}
use Rattle.text.specs.Examples.{bytes, legged_q}
use Rattle.plan.specs.Stops.{start, owner, stop_number}
use Rattle.plan.specs.Check.{fault_at, first_fault, over, collide, collider}
use Rattle.plan.specs.Dependencies.{follows}
use Rattle.plan.specs.Answers.{fault_case, check_of}
use Rattle.call_log.specs.CallLog.{Call, Entry}
use Rattle.call_log.specs.Calls.{step, Ran}
use Rattle.call_log.specs.Demand.{Found}
use Rattle.reading.specs.Reading.{without, read_plan, read_lines}
use Rattle.accepted.specs.Examples.{text_q, ReadingsHold}
use Rattle.accepted.specs.TextPlan.{routes_plan, text_routes, site_meets, text_plan}
use Rattle.accepted.proofs.TextFound.{demand3_of_texts}

-- Q with legs is read as the routes of Q
q_legs_routes : text_routes limits (bytes legged_q) ≡ text_routes limits (bytes text_q)
unfolding plain_leg longest_leg leg_right byte_at is_at is_digit digits_from number_at field_at form_at time_end leg_at go_at stops_at count_at until_feed line_end is_capital small_byte small_form is_name_byte is_text_byte text_bytes text_name name_at stops_read drone_at same elem drones_at lines_of_form lines_at
q_legs_routes = refl

pub readings_hold : ReadingsHold
unfolding first_below all_below count_below sum_below full_size zeroed plain_leg longest_leg leg_right byte_at is_at is_digit digits_from number_at field_at form_at time_end leg_at go_at stops_at count_at until_feed line_end is_capital small_byte small_form is_name_byte is_text_byte text_bytes text_name name_at stops_read drone_at same elem drones_at lines_of_form lines_at start owner stop_number fault_at first_fault over collide collider follows fault_case check_of pair_before listed_in near meets_in in_order near_at pairs_at pair_count_at site_at read_plan read_lines
readings_hold = record {
  as_listed = refl;
  q_taken = refl;
  q_legs_taken = refl;
  q_legs_plan = λ s. ap (routes_plan (site_meets limits s)) q_legs_routes;
  q_legs_form = refl;
  stops_named = record { starts_late = refl; not_rising = refl; leg_too_long = refl; first_8 = refl; then_12 = refl; then_9 = refl; same_location = refl; collision = refl };
  older_replies = record {
    just_enough = refl;
    too_long = refl;
    too_many_drones = refl;
    too_many_stops = refl;
    too_many_together = refl;
    too_many_dependencies = refl;
    unknown_form = refl;
    too_long_first = refl;
  };
  site_replies = record {
    beside_without = refl;
    beside_near = refl;
    in_a_row = refl;
    in_a_row_count = refl;
    in_a_row_late = refl;
    by_itself = refl;
    q_4_6 = refl;
    q_4_6_count = refl;
    q_5_6_count = refl;
    q_count = refl;
    no_line = refl;
    no_end = refl;
    not_below = refl;
    malformed_first = refl;
    not_above = refl;
    before_1 = refl;
    then_1 = refl;
    then_11 = refl;
  };
}

-- demand 3 of flight Q, whatever is called after its reading
pub flight_q-found : (calls : List Call) (got : List Entry) (t : Tables) → Ran (step limits) (read_plan limits without (bytes text_q) (filled 7 limits)).tables calls got t → Found (text_plan limits without (bytes text_q)) calls got t
flight_q-found calls got t ran = demand3_of_texts limits without (bytes text_q) (filled 7 limits) _ _ calls got t (record { replied = refl; left = refl }) readings_hold.q_taken ran
