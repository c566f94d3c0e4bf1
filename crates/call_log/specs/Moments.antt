-- What the call log says after each call of a flight, and flights that take as many undelayed rounds as the legs of the unvisited stops (document 01, "The call log";
-- document 02, point 14). In demand 3 what a drone holds and whether it is short stand as premises, and the legs of the unvisited stops as an upper bound: were a drone
-- under way to hold nothing ahead, or the bound one too many, demand 3 would be proved all the same. Here they are computed. Assumes nothing.
use Rattle.std.specs.Prelude.{◌≡◌, Bool, true, false, not, cond, ◌&&◌, List, [], ◌∷◌, map, ℕ, suc, ◌-◌, eqb, length}
use Rattle.below.specs.Below.{all_in, all_below, list_below, picks, update}
use Rattle.precedence.specs.Graph.{Plan, finished, legs_left, visited_after}
use Rattle.plan.specs.Field.{FieldPlan, plan_of, graph, place_of}
use Rattle.call_log.specs.CallLog.{Call, grant, arrive, withdraw, turn, Reply, accepted, refused, must_wait, holds_location, short, status_by, Entry, log_from, log_of}
use Rattle.call_log.specs.Demand.{Finishes}
use Rattle.call_log.specs.Flights.{Visit, go, go_for, plan_on, says, flight_in, flight_holds, Q, long_q}

abbrev pub same_numbers : List ℕ → List ℕ → Bool
same_numbers [] [] = true
same_numbers [] (b ∷ y) = false
same_numbers (a ∷ x) [] = false
same_numbers (a ∷ x) (b ∷ y) = eqb a b && same_numbers x y

-- ---- moments

-- one drone: the locations that it holds, in rising order, and the legs of its unvisited stops, which are as many where every leg takes one round
pub record DroneNow : Type 0 where
  pub held : List ℕ
  pub under_way : Bool
  pub is_short : Bool
  pub left : ℕ

-- it stands at a stop, with others to come; it is under way to the next one; it stands at its last stop
abbrev pub stands : List ℕ → ℕ → DroneNow
stands ls n = record { held = ls; under_way = false; is_short = true; left = n }

abbrev pub goes : List ℕ → ℕ → DroneNow
goes ls n = record { held = ls; under_way = true; is_short = true; left = n }

abbrev pub at_last : List ℕ → DroneNow
at_last ls = record { held = ls; under_way = false; is_short = false; left = 0 }

-- it is withdrawn, and was under way or not
abbrev pub carried : Bool → DroneNow
carried b = record { held = []; under_way = b; is_short = false; left = 0 }

-- a call, its reply, and after it each drone and the legs of the unvisited stops of all
pub record Moment : Type 0 where
  pub made : Call
  pub replied : Reply
  pub drones_now : List DroneNow
  pub left_in_all : ℕ

abbrev pub called : Call → Reply → List DroneNow → ℕ → Moment
called c r ds n = record { made = c; replied = r; drones_now = ds; left_in_all = n }

-- the form and the routes of a plan with so many dependencies, and the moments of a flight
pub record WatchedFlight : Type 0 where
  pub form : ℕ
  pub routes : List (List Visit)
  pub count : ℕ
  pub moments : List Moment

abbrev pub watch : ℕ → List (List Visit) → ℕ → List Moment → WatchedFlight
watch form rs n ms = record { form = form; routes = rs; count = n; moments = ms }

module _ (F : FieldPlan) (log : List Entry) where
  -- the locations that a drone holds, of those below 8: the flights here have no others
  abbrev pub held_by : ℕ → List ℕ
  held_by d = picks 8 (holds_location F (status_by log) d) (λ l. l)

  -- the legs of the unvisited stops of all drones, as demand 3 adds them up; those of one drone are what is left with the others at their last stops
  abbrev pub left_in_all : ℕ
  left_in_all = legs_left (graph F (status_by log)) F.leg (place_of F (status_by log))

  abbrev pub left_by : ℕ → ℕ
  left_by d = legs_left (graph F (status_by log)) F.leg (update F.last d (place_of F (status_by log) d))

  abbrev pub is_now : ℕ → DroneNow → Bool
  is_now d x = same_numbers (held_by d) x.held && (agrees x.under_way ((status_by log).under_way d) && (agrees x.is_short (short F (status_by log) d) && eqb (left_by d) x.left))
    where
      agrees : Bool → Bool → Bool
      agrees said b = cond said b (not b)

  -- drone d and those after it
  abbrev pub are_now : ℕ → List DroneNow → Bool
  are_now d [] = eqb d F.drones
  are_now d (x ∷ xs) = is_now d x && are_now (suc d) xs

-- each moment is as it says by the log with its call
unfoldable pub follow_moments : FieldPlan → List Entry → List Moment → Bool
follow_moments F log [] = true
follow_moments F log (m ∷ ms) = let log' = log_from F log (m.made ∷ []) in are_now F log' 0 m.drones_now && (eqb (left_in_all F log') m.left_in_all && follow_moments F log' ms)

-- the replies are those of a flight, by the calls on tables and by the log; and the moments hold
unfoldable pub moments_hold : WatchedFlight → Bool
moments_hold x = flight_holds (flight_in x.form x.routes x.count (map (λ (m : Moment). says m.made m.replied) x.moments)) && follow_moments (plan_of (plan_on [] x.form x.routes)) [] x.moments

-- "With n arrivals of a drone accepted, it has visited its stops 0 to n and its place is stop n; its later stops are unvisited";
-- "It is under way when more grants than arrivals of it were accepted. It is short of its last stop when it has an unvisited one";
-- "It holds the location of its place and, when under way, that of its next stop"
abbrev pub watched_flights : List WatchedFlight
watched_flights =
    -- the calls of input Q, and on until everybody is at the last stop. Drone 0 goes by 1, 6, 5, 2 and drone 1 by 3, 5, 4
    watch 1 (Q 4) 1
    (called (grant 1) (must_wait 0) (stands (1 ∷ []) 3 ∷ stands (3 ∷ []) 2 ∷ []) 5
    ∷ called (turn 0) accepted (stands (1 ∷ []) 3 ∷ stands (3 ∷ []) 2 ∷ []) 5
    ∷ called (grant 1) accepted (stands (1 ∷ []) 3 ∷ goes (3 ∷ 5 ∷ []) 2 ∷ []) 5
    ∷ called (grant 0) accepted (goes (1 ∷ 6 ∷ []) 3 ∷ goes (3 ∷ 5 ∷ []) 2 ∷ []) 5
    ∷ called (arrive 1) accepted (goes (1 ∷ 6 ∷ []) 3 ∷ stands (5 ∷ []) 1 ∷ []) 4
    ∷ called (arrive 1) (refused 24) (goes (1 ∷ 6 ∷ []) 3 ∷ stands (5 ∷ []) 1 ∷ []) 4
    ∷ called (arrive 0) accepted (stands (6 ∷ []) 2 ∷ stands (5 ∷ []) 1 ∷ []) 3
    ∷ called (grant 0) (must_wait 0) (stands (6 ∷ []) 2 ∷ stands (5 ∷ []) 1 ∷ []) 3
    ∷ called (grant 1) accepted (stands (6 ∷ []) 2 ∷ goes (4 ∷ 5 ∷ []) 1 ∷ []) 3
    ∷ called (grant 0) (must_wait 0) (stands (6 ∷ []) 2 ∷ goes (4 ∷ 5 ∷ []) 1 ∷ []) 3
    ∷ called (arrive 1) accepted (stands (6 ∷ []) 2 ∷ at_last (4 ∷ []) ∷ []) 2
    ∷ called (grant 1) (refused 21) (stands (6 ∷ []) 2 ∷ at_last (4 ∷ []) ∷ []) 2
    ∷ called (grant 0) accepted (goes (5 ∷ 6 ∷ []) 2 ∷ at_last (4 ∷ []) ∷ []) 2
    ∷ called (arrive 0) accepted (stands (5 ∷ []) 1 ∷ at_last (4 ∷ []) ∷ []) 1
    ∷ called (grant 0) accepted (goes (2 ∷ 5 ∷ []) 1 ∷ at_last (4 ∷ []) ∷ []) 1
    ∷ called (arrive 0) accepted (at_last (2 ∷ []) ∷ at_last (4 ∷ []) ∷ []) 0
    ∷ [])
    -- drone 0 is withdrawn on its way to location 5: it holds nothing, is not short and has nothing left, though it stays recorded as under way; drone 1 goes there at once
    ∷ watch 1 (Q 4) 1
    (called (grant 0) accepted (goes (1 ∷ 6 ∷ []) 3 ∷ stands (3 ∷ []) 2 ∷ []) 5
    ∷ called (arrive 0) accepted (stands (6 ∷ []) 2 ∷ stands (3 ∷ []) 2 ∷ []) 4
    ∷ called (grant 0) accepted (goes (5 ∷ 6 ∷ []) 2 ∷ stands (3 ∷ []) 2 ∷ []) 4
    ∷ called (withdraw 0) accepted (carried true ∷ stands (3 ∷ []) 2 ∷ []) 2
    ∷ called (grant 1) accepted (carried true ∷ goes (3 ∷ 5 ∷ []) 2 ∷ []) 2
    ∷ called (withdraw 1) accepted (carried true ∷ carried true ∷ []) 0
    ∷ [])
    -- one drone with one stop is at its last stop from the first
    ∷ watch 1 ((go 7 0 ∷ []) ∷ []) 0 (called (grant 0) (refused 21) (at_last (7 ∷ []) ∷ []) 0 ∷ [])
    -- Q with a leg of three into drone 0's stop 2: it has 1 + 3 + 1 rounds to fly, and the leg under way counts in full
    ∷ watch 2 long_q 1
    (called (grant 0) accepted (goes (1 ∷ 6 ∷ []) 5 ∷ stands (3 ∷ []) 2 ∷ []) 7
    ∷ called (arrive 0) accepted (stands (6 ∷ []) 4 ∷ stands (3 ∷ []) 2 ∷ []) 6
    ∷ called (grant 0) accepted (goes (5 ∷ 6 ∷ []) 4 ∷ stands (3 ∷ []) 2 ∷ []) 6
    ∷ called (grant 1) (must_wait 0) (goes (5 ∷ 6 ∷ []) 4 ∷ stands (3 ∷ []) 2 ∷ []) 6
    ∷ called (arrive 0) accepted (stands (5 ∷ []) 1 ∷ stands (3 ∷ []) 2 ∷ []) 3
    ∷ called (withdraw 0) accepted (carried false ∷ stands (3 ∷ []) 2 ∷ []) 2
    ∷ [])
    ∷ []

-- ---- as many rounds as the legs of the unvisited stops

-- a flight in which in every undelayed round one drone only flies: the form and the routes of a plan with so many dependencies, the calls made, and then the drones'
-- places before the first round and after each one
pub record SlowFlight : Type 0 where
  pub form : ℕ
  pub routes : List (List Visit)
  pub count : ℕ
  pub calls : List Call
  pub places : List (List ℕ)

abbrev pub slow : ℕ → List (List Visit) → ℕ → List Call → List (List ℕ) → SlowFlight
slow form rs n cs ps = record { form = form; routes = rs; count = n; calls = cs; places = ps }

abbrev pub rounds_of : SlowFlight → ℕ
rounds_of x = length x.places - 1

abbrev pub slow_plan : SlowFlight → FieldPlan
slow_plan x = plan_of (plan_on [] x.form x.routes)

abbrev pub slow_log : SlowFlight → List Entry
slow_log x = log_of (slow_plan x) x.calls

module _ (G : Plan) (leg : ℕ → ℕ → ℕ) (p : ℕ → ℕ) where
  -- the drones' places after round k, after the next one, ..
  abbrev pub played_from : ℕ → List (List ℕ) → Bool
  played_from k [] = true
  played_from k (ps ∷ rest) = same_numbers (list_below G.drones (visited_after G leg p k)) ps && played_from (suc k) rest

  -- the legs of the unvisited stops add up to n; after n rounds everybody is at the last stop, and after fewer not
  unfoldable pub takes_all : ℕ → Bool
  takes_all n = eqb (legs_left G leg p) n && (finished G (visited_after G leg p n) && all_below n (λ k. not (finished G (visited_after G leg p k))))

unfoldable pub slow_holds : SlowFlight → Bool
slow_holds x =
    let G : Plan = graph (slow_plan x) (status_by (slow_log x)) in
    let p : ℕ → ℕ = place_of (slow_plan x) (status_by (slow_log x)) in
    let leg : ℕ → ℕ → ℕ = (slow_plan x).leg in
    flight_holds (flight_in x.form x.routes x.count []) && (played_from G leg p 0 x.places && takes_all G leg p (rounds_of x))

-- two drones that go round three locations, one after the other: only the one before the free location can go on
abbrev pub roundabout : List (List Visit)
roundabout = (go 1 0 ∷ go 2 1 ∷ go 3 3 ∷ []) ∷ (go 3 0 ∷ go 1 2 ∷ go 2 4 ∷ []) ∷ []

-- .. in legs of two, but for the first of drone 0
abbrev pub slow_roundabout : List (List Visit)
slow_roundabout = (go 1 0 ∷ go 2 1 ∷ go_for 3 3 2 ∷ []) ∷ (go 3 0 ∷ go_for 1 2 2 ∷ go_for 2 4 2 ∷ []) ∷ []

abbrev pub slow_flights : List SlowFlight
slow_flights =
    -- one drone alone
    slow 1 ((go 1 0 ∷ go 2 1 ∷ go 3 2 ∷ go 4 3 ∷ []) ∷ []) 0 [] ((0 ∷ []) ∷ (1 ∷ []) ∷ (2 ∷ []) ∷ (3 ∷ []) ∷ [])
    -- Q: drone 1 waits until drone 0 is at its last stop
    ∷ slow 1 (Q 4) 1 [] ((0 ∷ 0 ∷ []) ∷ (1 ∷ 0 ∷ []) ∷ (2 ∷ 0 ∷ []) ∷ (3 ∷ 0 ∷ []) ∷ (3 ∷ 1 ∷ []) ∷ (3 ∷ 2 ∷ []) ∷ [])
    -- two that take turns; and from their places after some calls, where "Being under way makes no difference"
    ∷ slow 1 roundabout 3 [] ((0 ∷ 0 ∷ []) ∷ (1 ∷ 0 ∷ []) ∷ (1 ∷ 1 ∷ []) ∷ (2 ∷ 1 ∷ []) ∷ (2 ∷ 2 ∷ []) ∷ [])
    ∷ slow 1 roundabout 3 (grant 0 ∷ arrive 0 ∷ grant 1 ∷ []) ((1 ∷ 0 ∷ []) ∷ (1 ∷ 1 ∷ []) ∷ (2 ∷ 1 ∷ []) ∷ (2 ∷ 2 ∷ []) ∷ [])
    -- longer legs. One drone alone: 2 and 3 rounds
    ∷ slow 2 ((go 1 0 ∷ go_for 2 2 2 ∷ go_for 3 5 3 ∷ []) ∷ []) 0 [] ((0 ∷ []) ∷ (0 ∷ []) ∷ (1 ∷ []) ∷ (1 ∷ []) ∷ (1 ∷ []) ∷ (2 ∷ []) ∷ [])
    -- 1, 3 and 1 rounds of drone 0, then 1 and 1 of drone 1
    ∷ slow 2 long_q 1 [] ((0 ∷ 0 ∷ []) ∷ (1 ∷ 0 ∷ []) ∷ (1 ∷ 0 ∷ []) ∷ (1 ∷ 0 ∷ []) ∷ (2 ∷ 0 ∷ []) ∷ (3 ∷ 0 ∷ []) ∷ (3 ∷ 1 ∷ []) ∷ (3 ∷ 2 ∷ []) ∷ [])
    -- 1 round of drone 0, 2 of drone 1, 2 of drone 0, 2 of drone 1; and with drone 1 under way to its stop 1: "a drone under way counts its full leg"
    ∷ slow 2 slow_roundabout 3 [] ((0 ∷ 0 ∷ []) ∷ (1 ∷ 0 ∷ []) ∷ (1 ∷ 0 ∷ []) ∷ (1 ∷ 1 ∷ []) ∷ (1 ∷ 1 ∷ []) ∷ (2 ∷ 1 ∷ []) ∷ (2 ∷ 1 ∷ []) ∷ (2 ∷ 2 ∷ []) ∷ [])
    ∷ slow 2 slow_roundabout 3 (grant 0 ∷ arrive 0 ∷ grant 1 ∷ []) ((1 ∷ 0 ∷ []) ∷ (1 ∷ 0 ∷ []) ∷ (1 ∷ 1 ∷ []) ∷ (1 ∷ 1 ∷ []) ∷ (2 ∷ 1 ∷ []) ∷ (2 ∷ 1 ∷ []) ∷ (2 ∷ 2 ∷ []) ∷ [])
    ∷ []

-- undelayed rounds finish everybody in no more rounds than "the sum of the unvisited stops' legs": a number of rounds that does so after these flights is no less either
abbrev pub NoFewer : List SlowFlight → Type 0
NoFewer [] = Unit {0}
NoFewer (x ∷ xs) = ((found : Finishes (slow_plan x) (slow_log x)) → found.0 ≡ rounds_of x) × NoFewer xs

-- the claims
pub record MomentClaims : Type 0 where
  pub moments_hold_lem : all_in moments_hold watched_flights ≡ true
  pub slow_hold : all_in slow_holds slow_flights ≡ true
  pub no_fewer : NoFewer slow_flights
