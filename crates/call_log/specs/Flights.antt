-- Flights: a plan given by its routes, the calls that are made, and what each must be answered (document 01, "Slips this trade has made"; document 02, points 2, 4, 7, 10 and 14). The starred
-- flights are read from their texts: dispatch/specs/Flights.antt.
-- The dependencies are computed from the routes, the replies both by the calls on tables and by the call log. Assumes nothing.
use Rattle.std.specs.Prelude.{◌≡◌, Bool, true, false, ◌&&◌, List, [], ◌∷◌, ◌++◌, map, ℕ, ◌+◌, ◌*◌, ◌-◌, eqb, pos, neg_ℤ, length, replicate}
use Rattle.std.specs.Int.Signed.{le_z}
use Rattle.below.specs.Below.{all_in, list_below}
use Rattle.tables.specs.Limits.{Limits, limits, most_pairs}
use Rattle.tables.specs.Tables.{PlanLists, Tables, dependencies}
use Rattle.precedence.specs.Graph.{cost}
use Rattle.plan.specs.Claims.{stop_total, owner_in, number_in, collider_in, visits_in}
use Rattle.plan.specs.Dependencies.{dependency_total, column, flag_of}
use Rattle.plan.specs.Field.{FieldPlan, plan_of, graph, place_of}
use Rattle.sound.specs.Sound.{sound}
use Rattle.call_log.specs.CallLog.{Call, grant, arrive, withdraw, turn, turn_all, Reply, accepted, refused, must_wait, status_by, Entry, entry_of, reply_by}
use Rattle.call_log.specs.Preview.{PreviewOutcome, would_turn, would_refuse, preview, preview_all}
use Rattle.call_log.specs.Calls.{step, CostOutcome, costs, cost_refused, cost_reply}

-- ---- plans by routes

-- "go=LOCATION@TIME", with a leg of one round, and "go=LOCATION@TIME@LEG"
pub record Visit : Type 0 where
  pub location : ℕ
  pub time : ℕ
  pub leg : ℕ

abbrev pub go_for : ℕ → ℕ → ℕ → Visit
go_for l t g = record { location = l; time = t; leg = g }

abbrev pub go : ℕ → ℕ → Visit
go l t = go_for l t 1

-- limits that just hold the flights below, so that full tables can be computed with
abbrev pub small : Limits
small = record { text = 0; drones = 3; stops = 12; dependencies = 3; name = 1; location = limits.location; time = limits.time; leg = limits.leg; form = limits.form }

-- a table of full size: the entries, and zeros after them
abbrev pub padded : ℕ → List ℕ → List ℕ
padded full l = l ++ replicate (full - length l) 0

-- the numbers of every route, those of drone 0 first; f of every stop; and the leg into every stop, 0 at stop 0
abbrev pub each_route : (List Visit → List ℕ) → List (List Visit) → List ℕ
each_route f [] = []
each_route f (r ∷ rs) = f r ++ each_route f rs

abbrev pub each_stop : (Visit → ℕ) → List (List Visit) → List ℕ
each_stop f = each_route (map f)

abbrev pub route_legs : List Visit → List ℕ
route_legs [] = []
route_legs (v ∷ r) = 0 ∷ map (λ (w : Visit). w.leg) r

-- the routes without dependencies, with the numbers of the site's pairs, in a plan form; drone d has the name of the one byte 97 + d
abbrev pub routes_only : List ℕ → ℕ → List (List Visit) → PlanLists
routes_only pairs form rs = record {
  drone_count = length rs ∷ [];
  dependency_count = 0 ∷ [];
  form = form ∷ [];
  names = padded small.drones (list_below (length rs) (λ d. 97 + d));
  stop_counts = padded small.drones (map length rs);
  locations = padded small.stops (each_stop (λ v. v.location) rs);
  times = padded small.stops (each_stop (λ v. v.time) rs);
  legs = padded small.stops (each_route route_legs rs);
  first_drones = [];
  first_stops = [];
  second_drones = [];
  second_stops = [];
  pairs = padded (2 * most_pairs) pairs;
}

-- the plan with the dependencies that its routes make
abbrev pub own_dependencies : PlanLists → PlanLists
own_dependencies p = record {
  drone_count = p.drone_count;
  dependency_count = dependency_total (visits_in p) ∷ [];
  form = p.form;
  names = p.names;
  stop_counts = p.stop_counts;
  locations = p.locations;
  times = p.times;
  legs = p.legs;
  first_drones = padded small.dependencies (column (visits_in p) (λ v w. owner_in p v));
  first_stops = padded small.dependencies (column (visits_in p) (λ v w. number_in p v));
  second_drones = padded small.dependencies (column (visits_in p) (λ v w. owner_in p w));
  second_stops = padded small.dependencies (column (visits_in p) (λ v w. number_in p w));
  pairs = p.pairs;
}

abbrev pub plan_on : List ℕ → ℕ → List (List Visit) → PlanLists
plan_on pairs form rs = own_dependencies (routes_only pairs form rs)

-- the tables as an accepted reading of these routes leaves them
abbrev pub tables_at : List ℕ → ℕ → List (List Visit) → Tables
tables_at pairs form rs = let p = plan_on pairs form rs in record {
  plan = p;
  visited = replicate small.drones 0;
  drone_flags = replicate small.drones 0;
  flags = padded small.dependencies (column (visits_in p) (flag_of (owner_in p) (number_in p) (stop_total p)));
}

-- .. without a site text
abbrev pub tables_in : ℕ → List (List Visit) → Tables
tables_in = tables_at []

-- .. of a `plan=1` text
abbrev pub plan_by : List (List Visit) → PlanLists
plan_by = plan_on [] 1

abbrev pub tables_by : List (List Visit) → Tables
tables_by = tables_in 1

-- ---- flights

-- a call with the reply that it must get, `cost=0` with the cost, or a turn, of one or of a list, looked at before it is made
pub data Line : Type 0 where
  says : Call → Reply → Line
  costs_now : ℕ → Line
  previews : ℕ → PreviewOutcome → Line
  previews_all : List ℕ → PreviewOutcome → Line

-- the site's pairs, the form and the routes of a plan that is taken with so many dependencies, and the lines that hold then
pub record Flight : Type 0 where
  pub pairs : List ℕ
  pub form : ℕ
  pub routes : List (List Visit)
  pub count : ℕ
  pub told : List Line

abbrev pub flight_of : List ℕ → ℕ → List (List Visit) → ℕ → List Line → Flight
flight_of pairs form rs n ls = record { pairs = pairs; form = form; routes = rs; count = n; told = ls }

abbrev pub flight_in : ℕ → List (List Visit) → ℕ → List Line → Flight
flight_in = flight_of []

abbrev pub flight_at : List ℕ → List (List Visit) → ℕ → List Line → Flight
flight_at pairs = flight_of pairs 1

abbrev pub flight_by : List (List Visit) → ℕ → List Line → Flight
flight_by = flight_in 1

abbrev pub same_reply : Reply → Reply → Bool
same_reply accepted accepted = true
same_reply accepted (refused n) = false
same_reply accepted (must_wait w) = false
same_reply (refused m) accepted = false
same_reply (refused m) (refused n) = eqb m n
same_reply (refused m) (must_wait w) = false
same_reply (must_wait v) accepted = false
same_reply (must_wait v) (refused n) = false
same_reply (must_wait v) (must_wait w) = eqb v w

abbrev pub is_cost : CostOutcome → ℕ → Bool
is_cost (costs m) n = eqb m n
is_cost (cost_refused m) n = false

abbrev pub same_preview_lem : PreviewOutcome → PreviewOutcome → Bool
same_preview_lem (would_turn a) (would_turn b) = le_z a b && le_z b a
same_preview_lem (would_turn a) (would_refuse n) = false
same_preview_lem (would_refuse m) (would_turn b) = false
same_preview_lem (would_refuse m) (would_refuse n) = eqb m n

-- each line holds of the tables that the line before it left, within the limits, and of the log of the plan
module _ (L : Limits) (F : FieldPlan) where
  unfoldable pub follow : Tables → List Entry → List Line → Bool
  follow t log [] = true
  follow t log (says c r ∷ ls) = let by_log = reply_by F log c in same_reply (step L t c).reply r && (same_reply by_log r && follow (step L t c).tables (log ++ (entry_of c by_log ∷ [])) ls)
  follow t log (costs_now n ∷ ls) = is_cost (cost_reply L t) n && (eqb (cost (graph F (status_by log)) F.leg (place_of F (status_by log))) n && follow t log ls)
  follow t log (previews w r ∷ ls) = same_preview_lem (preview L t w) r && follow t log ls
  follow t log (previews_all ws r ∷ ls) = same_preview_lem (preview_all L t ws) r && follow t log ls

unfoldable pub flight_holds : Flight → Bool
flight_holds f =
    let p = plan_on f.pairs f.form f.routes in
    let t = tables_at f.pairs f.form f.routes in
    eqb (dependencies p) f.count && (eqb (collider_in p) (stop_total p) && (sound small t && follow small (plan_of p) t [] f.told))

-- ---- the table

-- input Q, with the second drone's location 5 at a time
abbrev pub Q : ℕ → List (List Visit)
Q t = (go 1 0 ∷ go 6 1 ∷ go 5 2 ∷ go 2 3 ∷ []) ∷ (go 3 0 ∷ go 5 t ∷ go 4 5 ∷ []) ∷ []

-- .. with a leg of three rounds into drone 0's stop 2, and the times that this takes
abbrev pub long_q : List (List Visit)
long_q = (go 1 0 ∷ go 6 1 ∷ go_for 5 4 3 ∷ go 2 5 ∷ []) ∷ (go 3 0 ∷ go 5 6 ∷ go 4 7 ∷ []) ∷ []

abbrev pub P : List (List Visit)
P = (go 10 0 ∷ go 20 1 ∷ go 30 2 ∷ go 40 3 ∷ []) ∷ (go 11 0 ∷ go 20 3 ∷ go 30 4 ∷ go 41 5 ∷ []) ∷ []

-- three drones, each of which meets the two others
abbrev pub ring : List (List Visit)
ring = (go 1 0 ∷ go 30 1 ∷ go 10 2 ∷ go 2 3 ∷ []) ∷ (go 3 0 ∷ go 10 4 ∷ go 20 5 ∷ go 4 6 ∷ []) ∷ (go 5 0 ∷ go 20 7 ∷ go 30 8 ∷ go 6 9 ∷ []) ∷ []

-- three drones that come to 10, 11 and 12 one after another
abbrev pub near_row : List (List Visit)
near_row = (go 1 0 ∷ go 10 1 ∷ go 2 2 ∷ []) ∷ (go 3 0 ∷ go 11 3 ∷ go 4 4 ∷ []) ∷ (go 5 0 ∷ go 12 5 ∷ go 6 6 ∷ []) ∷ []

-- flights against the slips, and turns in both directions
abbrev pub slips : List Flight
slips =
    -- "Waiting for the leader's visit and not for its departure"; "Counting cost from the start and not from progress"
    flight_by (Q 4) 1 (says (grant 0) accepted ∷ says (arrive 0) accepted ∷ costs_now 6 ∷ says (grant 0) accepted ∷ says (arrive 0) accepted ∷ says (grant 1) (must_wait 0) ∷ says (grant 0) accepted ∷ says (arrive 0) accepted ∷ says (grant 1) accepted ∷ costs_now 2 ∷ [])
    -- "Turning twice gives the first rule again"
    ∷ flight_by (Q 4) 1 (says (turn 0) accepted ∷ says (turn 0) accepted ∷ costs_now 8 ∷ says (grant 1) (must_wait 0) ∷ [])
    -- "Looking for a cycle between the two drones only; three can wait in a ring"
    ∷ flight_by ring 3 (says (turn 0) (refused 34) ∷ [])
    ∷ []

-- turns of a list
abbrev pub group_flights : List Flight
group_flights =
    -- "Flight P with both turned is accepted and still costs 8"
    flight_by P 2 (says (turn_all (0 ∷ 1 ∷ [])) accepted ∷ costs_now 8 ∷ says (turn_all (0 ∷ 1 ∷ [])) accepted ∷ costs_now 8 ∷ [])
    -- "36, an empty list or one not strictly rising, after 40 and before 30; then 30 to 34 as the list is walked, with 34 last of all"
    ∷ flight_by P 2 (says (turn_all (1 ∷ 0 ∷ [])) (refused 36) ∷ says (turn_all (7 ∷ 7 ∷ [])) (refused 36) ∷ says (turn_all []) (refused 36) ∷ says (turn_all (0 ∷ 7 ∷ [])) (refused 30) ∷ says (turn_all (0 ∷ [])) (refused 34) ∷ costs_now 8 ∷ [])
    -- with a third drone that makes dependency 2, a fixed one: it is found though 0 alone would make a cycle. And 32 as drone 0 is under way to its stop 1
    ∷ flight_by (P ++ ((go 12 0 ∷ go 11 5 ∷ go 13 6 ∷ []) ∷ [])) 3 (says (turn_all (0 ∷ 2 ∷ [])) (refused 31) ∷ says (turn_all (0 ∷ [])) (refused 34) ∷ says (grant 0) accepted ∷ says (turn_all (0 ∷ 1 ∷ [])) (refused 32) ∷ [])
    -- the list of length one: Q's dependency 0
    ∷ flight_by (Q 4) 1 (says (turn_all (0 ∷ [])) accepted ∷ costs_now 6 ∷ says (turn 0) accepted ∷ costs_now 8 ∷ [])
    ∷ []

-- withdrawals
abbrev pub carried_home : List Flight
carried_home =
    -- "A drone with a dead motor is picked up by hand, and the rest must go on": Q's drone 1 waits for drone 0, and no longer once that is withdrawn, which then costs nothing.
    -- "25, the drone is withdrawn, for grant, arrive and withdraw, after 20"; "35, a drone of the dependency is withdrawn, for turns, after 30"
    flight_by (Q 4) 1 (says (grant 1) (must_wait 0) ∷ costs_now 8 ∷ says (withdraw 0) accepted ∷ costs_now 2 ∷ says (grant 0) (refused 25) ∷ says (arrive 0) (refused 25) ∷ says (withdraw 0) (refused 25) ∷ says (withdraw 2) (refused 20) ∷ says (turn 0) (refused 35) ∷ says (turn 1) (refused 30) ∷ previews 0 (would_refuse 35) ∷ says (turn_all (0 ∷ 7 ∷ [])) (refused 35) ∷ previews_all (0 ∷ []) (would_refuse 35) ∷ says (grant 1) accepted ∷ says (arrive 1) accepted ∷ costs_now 1 ∷ [])
    -- it "then holds nothing": withdrawn under way to location 5, where drone 1 goes next
    ∷ flight_by (Q 4) 1 (says (grant 0) accepted ∷ says (arrive 0) accepted ∷ says (grant 0) accepted ∷ says (grant 1) (must_wait 0) ∷ says (withdraw 0) accepted ∷ says (arrive 0) (refused 25) ∷ says (grant 1) accepted ∷ says (arrive 1) accepted ∷ says (grant 1) accepted ∷ says (arrive 1) accepted ∷ costs_now 0 ∷ [])
    -- "cycles are looked for among the others"; a turned dependency stays turned
    ∷ flight_by ring 3 (says (turn 0) (refused 34) ∷ says (withdraw 1) accepted ∷ previews 1 (would_refuse 35) ∷ says (turn 0) accepted ∷ says (withdraw 2) accepted ∷ says (turn 0) (refused 35) ∷ costs_now 3 ∷ [])
    -- 35 "after 30", so before 31: dependency 0 is fixed
    ∷ flight_by ((go 5 0 ∷ go 6 1 ∷ []) ∷ (go 3 0 ∷ go 5 2 ∷ go 4 3 ∷ []) ∷ []) 1 (says (turn 0) (refused 31) ∷ says (withdraw 1) accepted ∷ says (turn 0) (refused 35) ∷ says (turn_all (0 ∷ [])) (refused 35) ∷ [])
    -- everybody is withdrawn, drone 1 under way: nobody is left to go on, and nothing costs
    ∷ flight_by (Q 4) 1 (says (turn 0) accepted ∷ says (grant 1) accepted ∷ says (withdraw 1) accepted ∷ costs_now 3 ∷ says (withdraw 0) accepted ∷ costs_now 0 ∷ says (grant 0) (refused 25) ∷ says (arrive 1) (refused 25) ∷ [])
    -- a drone that has finished
    ∷ flight_by ((go 1 0 ∷ []) ∷ []) 0 (says (grant 0) (refused 21) ∷ says (withdraw 0) accepted ∷ says (grant 0) (refused 25) ∷ costs_now 0 ∷ [])
    ∷ []

-- turns looked at before they are made
abbrev pub looks : List Flight
looks =
    -- "Flight Q gives -2", and the tables are untouched; once it is turned, turning it back costs 2. There is no dependency 1
    flight_by (Q 4) 1 (previews 0 (would_turn (neg_ℤ (pos 2))) ∷ costs_now 8 ∷ says (turn 0) accepted ∷ costs_now 6 ∷ previews 0 (would_turn (pos 2)) ∷ previews 1 (would_refuse 30) ∷ [])
    -- P: either alone has a cycle, both together cost the same
    ∷ flight_by P 2 (previews 0 (would_refuse 34) ∷ previews 1 (would_refuse 34) ∷ previews_all (0 ∷ 1 ∷ []) (would_turn (pos 0)) ∷ previews_all (1 ∷ 0 ∷ []) (would_refuse 36) ∷ previews_all [] (would_refuse 36) ∷ [])
    -- a fixed one; and one whose first drone is under way to its stop
    ∷ flight_by ((go 5 0 ∷ go 6 1 ∷ []) ∷ (go 3 0 ∷ go 5 2 ∷ go 4 3 ∷ []) ∷ []) 1 (previews 0 (would_refuse 31) ∷ [])
    ∷ flight_by (Q 4) 1 (says (grant 0) accepted ∷ says (arrive 0) accepted ∷ previews 0 (would_turn (pos 0)) ∷ says (grant 0) accepted ∷ previews 0 (would_refuse 32) ∷ [])
    ∷ []

-- what is said of Q, as the flights above have it
abbrev pub said_of_q : List Line
said_of_q = previews 0 (would_turn (neg_ℤ (pos 2))) ∷ says (grant 1) (must_wait 0) ∷ costs_now 8 ∷ says (turn 0) accepted ∷ costs_now 6 ∷ says (turn 0) accepted ∷ says (grant 0) accepted ∷ says (arrive 0) accepted ∷ costs_now 6 ∷ says (grant 0) accepted ∷ previews 0 (would_refuse 32) ∷ says (arrive 0) accepted ∷ says (grant 1) (must_wait 0) ∷ says (grant 0) accepted ∷ says (arrive 0) accepted ∷ says (grant 1) accepted ∷ costs_now 2 ∷ []

-- plans with leg lengths
abbrev pub leg_flights : List Flight
leg_flights =
    -- Q, and Q as `plan=2` with legs of one: every reply as Q's
    flight_in 1 (Q 4) 1 said_of_q
    ∷ flight_in 2 (Q 4) 1 said_of_q
    -- Q with a leg of three into drone 0's stop 2. Drone 0 is at its stops in rounds 1, 1 + 3 = 4 and 5. Drone 1's stop 1 awaits drone 0's stop 3: it is there in round 5 + 1 = 6, and at its
    -- stop 2 in round 7. Cost 5 + 7 = 12. Turned, drone 1 is there in rounds 1 and 2; drone 0's stop 2 awaits that, it is there in round 2 + 3 = 5 and lands in round 6. Cost 6 + 2 = 8,
    -- which is 4 less
    ∷ flight_in 2 long_q 1 (costs_now 12 ∷ previews 0 (would_turn (neg_ℤ (pos 4))) ∷ says (grant 1) (must_wait 0) ∷ says (turn 0) accepted ∷ costs_now 8 ∷ previews 0 (would_turn (pos 4)) ∷ [])
    -- from its stop 1 drone 0 has 3 + 1 rounds left and drone 1 two more, 4 + 6 = 10; "a drone under way counts its full leg", so it stays 10 until it is there, and is then 1 + 3 = 4.
    -- Once drone 0 is withdrawn drone 1 has two rounds left
    ∷ flight_in 2 long_q 1 (says (grant 0) accepted ∷ says (arrive 0) accepted ∷ costs_now 10 ∷ says (grant 0) accepted ∷ costs_now 10 ∷ says (arrive 0) accepted ∷ costs_now 4 ∷ says (withdraw 0) accepted ∷ costs_now 2 ∷ [])
    -- the longest leg: one drone, 60 rounds
    ∷ flight_in 2 ((go 1 0 ∷ go_for 2 60 60 ∷ []) ∷ []) 0 (costs_now 60 ∷ says (grant 0) accepted ∷ costs_now 60 ∷ says (arrive 0) accepted ∷ costs_now 0 ∷ [])
    ∷ []

-- crossings too close together
abbrev pub site_flights : List Flight
site_flights =
    -- Q with 5 and 6 near: drone 1's 5 makes a dependency with drone 0's 6 and one with its 5. Each turned alone has a cycle. Turned both, drone 1 is at its stops in rounds 1 and 2, and drone 0's
    -- stop 1 awaits that: it is at its stops in rounds 3, 4 and 5. Cost 5 + 2 = 7, which is 1 less
    flight_at (5 ∷ 6 ∷ []) (Q 4) 2 (costs_now 8 ∷ says (grant 1) (must_wait 0) ∷ says (turn 0) (refused 34) ∷ says (turn 1) (refused 34) ∷ previews_all (0 ∷ 1 ∷ []) (would_turn (neg_ℤ (pos 1))) ∷ says (turn_all (0 ∷ 1 ∷ [])) accepted ∷ costs_now 7 ∷ says (grant 0) (must_wait 0) ∷ says (grant 1) accepted ∷ [])
    -- Q with 4 and 6 near: drone 1 comes to 4 for good, so that dependency is fixed
    ∷ flight_at (4 ∷ 6 ∷ []) (Q 4) 2 (costs_now 8 ∷ says (turn 0) (refused 31) ∷ says (turn 1) (refused 34) ∷ says (grant 1) (must_wait 1) ∷ [])
    -- three in a row: 10 and 11 are near, 11 and 12, but not 10 and 12. Each drone waits for the one before it until that has left
    ∷ flight_at (10 ∷ 11 ∷ 11 ∷ 12 ∷ []) near_row 2 (costs_now 12 ∷ says (grant 2) (must_wait 1) ∷ says (grant 1) (must_wait 0) ∷ says (grant 0) accepted ∷ says (arrive 0) accepted ∷ says (grant 1) (must_wait 0) ∷ says (grant 0) accepted ∷ says (arrive 0) accepted ∷ says (grant 1) accepted ∷ [])
    -- .. and without the site text nobody waits
    ∷ flight_by near_row 0 (costs_now 6 ∷ says (grant 2) accepted ∷ says (grant 1) accepted ∷ says (grant 0) accepted ∷ [])
    -- "Only different drones are compared": one drone between near locations by itself
    ∷ flight_at (10 ∷ 11 ∷ 11 ∷ 12 ∷ []) ((go 10 0 ∷ go 11 1 ∷ go 12 2 ∷ go 11 3 ∷ []) ∷ []) 0 (costs_now 3 ∷ says (grant 0) accepted ∷ [])
    ∷ []

-- pairs that no site text gives, so that the tables are not sound
pub record PairsUnsound : Type 0 where
  pub sound_pairs : sound small (tables_at (2 ∷ 9 ∷ 7 ∷ 9 ∷ []) 1 (Q 4)) ≡ true
  -- A equal to B, and above it
  pub one_location : sound small (tables_at (7 ∷ 7 ∷ []) 1 (Q 4)) ≡ false
  pub falling_pair : sound small (tables_at (9 ∷ 7 ∷ []) 1 (Q 4)) ≡ false
  -- a pair twice, and one below the one before
  pub equal_pairs : sound small (tables_at (7 ∷ 9 ∷ 7 ∷ 9 ∷ []) 1 (Q 4)) ≡ false
  pub falling_list : sound small (tables_at (7 ∷ 9 ∷ 2 ∷ 9 ∷ []) 1 (Q 4)) ≡ false
  -- a number after the last pair, and a pair after a zero one
  pub half_a_pair : sound small (tables_at (7 ∷ 9 ∷ 8 ∷ []) 1 (Q 4)) ≡ false
  pub after_zero : sound small (tables_at (0 ∷ 0 ∷ 7 ∷ 9 ∷ []) 1 (Q 4)) ≡ false

-- tables that are not sound: the form's and the legs' part of it
pub record LegsUnsound : Type 0 where
  -- of the first form longer legs than one; of no form, and of one that is not known
  pub longer_in_plain : sound small (tables_in 1 long_q) ≡ false
  pub no_form : sound small (tables_in 0 (Q 4)) ≡ false
  pub third_form : sound small (tables_in 3 (Q 4)) ≡ false
  -- a leg of 0, one of 61, and one above what the time rises by
  pub leg_0 : sound small (tables_in 2 ((go 1 0 ∷ go_for 2 99 0 ∷ []) ∷ [])) ≡ false
  pub leg_61 : sound small (tables_in 2 ((go 1 0 ∷ go_for 2 99 61 ∷ []) ∷ [])) ≡ false
  pub leg_too_long : sound small (tables_in 2 ((go 1 0 ∷ go_for 2 59 60 ∷ []) ∷ [])) ≡ false

-- the claim: every flight of the table is as it says
abbrev pub FlightsHold : Type 0
FlightsHold = all_in flight_holds (slips ++ group_flights ++ carried_home ++ looks ++ leg_flights ++ site_flights) ≡ true
