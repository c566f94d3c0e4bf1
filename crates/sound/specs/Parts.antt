-- The parts into which the code takes the sound test apart. Each is a test of the lists and numbers that it is given, in an order in which every read is safe.
-- Assumes nothing.
use Rattle.std.specs.Prelude.{Bool, false, not, cond, ◌&&◌, ◌||◌, List, [], ◌∷◌, ℕ, suc, ◌+◌, ◌*◌, ◌/◌, ltb, leb, eqb}
use Rattle.below.specs.Below.{all_below, sum_below, at, pick}
use Rattle.tables.specs.Limits.{Limits}
use Rattle.tables.specs.Legs.{leg_right}
use Rattle.near.specs.Near.{meets_in}
use Rattle.tables.specs.Flags.{turned_bit, under_way_bit, only_two_bits}
use Rattle.precedence.specs.Graph.{cyclic}
use Rattle.plan.specs.Stops.{start, owner, stop_number}
use Rattle.plan.specs.Visits.{Visits, visits_with}
use Rattle.plan.specs.Check.{fault_at}
use Rattle.plan.specs.Dependencies.{right}
use Rattle.plan.specs.Waits.{withdrawn_in}
use Rattle.plan.specs.Field.{FieldPlan, Status, plan_of, graph, fixed}

-- the counts and the form are in their ranges: with the counts the stops are numbered
unfoldable pub counts_sound : (L : Limits) (drones form : ℕ) (counts : List ℕ) (m : ℕ) → Bool
counts_sound L drones form counts m =
    leb 1 drones
    && (leb drones L.drones
    && (leb 1 form
    && (leb form L.form
    && (leb m L.dependencies
    && (all_below drones (λ d. leb 1 (at counts d))
    && leb (start counts drones) L.stops)))))

-- the sum of the bytes of a drone's row of the table of names, which the code has as the name's key: equal names have equal ones
unfoldable pub name_sum : (L : Limits) (names : List ℕ) → ℕ → ℕ
name_sum L names d = sum_below L.name (λ i. at names (d * L.name + i))

-- stop v's location and time are in their ranges, its leg is right, and the plan check finds nothing at it
unfoldable pub stop_sound : (L : Limits) (form : ℕ) (S : Visits) (leg : ℕ → ℕ) → ℕ → Bool
stop_sound L form S leg v = leb (S.loc v) L.location && (leb (S.time v) L.time && (leg_right L form (S.num v) (leg v) && eqb (fault_at S leg v) 0))

-- entry k of two columns, drones and stops, names a stop
unfoldable pub stop_in_lem : (drones : ℕ) (counts : List ℕ) (ds ss : ℕ → ℕ) → ℕ → Bool
stop_in_lem drones counts ds ss k = ltb (ds k) drones && ltb (ss k) (at counts (ds k))

-- a flag byte less its bit 0 is right, and a fixed one is not turned
unfoldable pub flag_right : (is_fixed : Bool) (flag : ℕ) → Bool
flag_right is_fixed flag = eqb (flag / 2) (pick is_fixed 1 0) && not (turned_bit flag && is_fixed)

-- dependency k is fixed; `last` is each drone's last stop
unfoldable pub fixed_at : (last first_stop second second_stop : ℕ → ℕ) → ℕ → Bool
fixed_at last first_stop second second_stop k = eqb (first_stop k) 0 || eqb (second_stop k) (last (second k))

-- record k names two stops, and its flag byte is right
unfoldable pub record_right : (drones : ℕ) (counts lasts first_drones first_stops second_drones second_stops flags : List ℕ) → ℕ → Bool
record_right drones counts lasts first_drones first_stops second_drones second_stops flags k =
    stop_in_lem drones counts (at first_drones) (at first_stops) k
    && (stop_in_lem drones counts (at second_drones) (at second_stops) k
    && flag_right (fixed_at (at lasts) (at first_stops) (at second_drones) (at second_stops) k) (at flags k))

-- a drone's flag byte has no bit but bits 0 and 1, and the drone is not past nor under way beyond its last stop
unfoldable pub drone_sound : (last place flag : ℕ) → Bool
drone_sound last place flag = only_two_bits flag && (leb place last && not (under_way_bit flag && leb last place))

-- a drone with that place and flag byte has visited stop k or is under way to it
unfoldable pub entered_by : (place flag k : ℕ) → Bool
entered_by place flag k = leb k place || under_way_bit flag && eqb k (suc place)

-- the waiter has not entered its stop, or the awaited drone has left the stop s
unfoldable pub wait_kept : (visited drone_flags : List ℕ) (waiter stop awaited s : ℕ) → Bool
wait_kept visited drone_flags waiter stop awaited s = not (entered_by (at visited waiter) (at drone_flags waiter) stop) || leb (suc s) (at visited awaited)

-- dependency k is kept in the order now in force
unfoldable pub order_kept : (visited drone_flags first_drones first_stops second_drones second_stops flags : List ℕ) → ℕ → Bool
order_kept visited drone_flags first_drones first_stops second_drones second_stops flags k = cond (turned_bit (at flags k))
    (wait_kept visited drone_flags (at first_drones k) (at first_stops k) (at second_drones k) (at second_stops k))
    (wait_kept visited drone_flags (at second_drones k) (at second_stops k) (at first_drones k) (at first_stops k))

-- or a drone of it is withdrawn: the sound rule "passes over its own waits"
unfoldable pub kept_at : (visited drone_flags first_drones first_stops second_drones second_stops flags : List ℕ) → ℕ → Bool
kept_at visited drone_flags first_drones first_stops second_drones second_stops flags k =
    (withdrawn_in drone_flags (at first_drones k) || withdrawn_in drone_flags (at second_drones k)) || order_kept visited drone_flags first_drones first_stops second_drones second_stops flags k

-- the status of which the marks and the turns alone are known, which the graph does not look beyond
abbrev pub turns_in : (drone_flags flags : List ℕ) → Status
turns_in drone_flags flags = record { place = λ d. 0; under_way = λ d. false; withdrawn = withdrawn_in drone_flags; turned = λ k. turned_bit (at flags k) }

-- the plan by its counts and columns
module _ (drones n m : ℕ) (counts locations times legs first_drones first_stops second_drones second_stops pairs : List ℕ) where
  abbrev pub field_of : FieldPlan
  field_of = plan_of (record {
    drone_count = drones ∷ [];
    dependency_count = m ∷ [];
    form = [];
    names = [];
    stop_counts = counts;
    locations = locations;
    times = times;
    legs = legs;
    first_drones = first_drones;
    first_stops = first_stops;
    second_drones = second_drones;
    second_stops = second_stops;
    pairs = pairs;
  })

  -- the plan's visits
  abbrev pub visits_by : Visits
  visits_by = visits_with (meets_in pairs) (owner drones counts) (stop_number drones counts) (at locations) (at times) n

  -- every stop is sound, every record names two stops, every flag byte is right, nothing collides, the records are the plan's dependencies, and the graph now in
  -- force has no cycle
  unfoldable pub graph_part : (L : Limits) (form : ℕ) (drone_flags flags : List ℕ) → Bool
  graph_part L form drone_flags flags =
      all_below n (stop_sound L form visits_by (at legs))
      && (all_below m (stop_in_lem drones counts (at first_drones) (at first_stops))
      && (all_below m (stop_in_lem drones counts (at second_drones) (at second_stops))
      && (all_below m (λ k. flag_right (fixed field_of k) (at flags k))
      && (right visits_by m (λ k. start counts (at first_drones k) + at first_stops k) (λ k. start counts (at second_drones k) + at second_stops k)
      && not (cyclic (graph field_of (turns_in drone_flags flags)))))))
