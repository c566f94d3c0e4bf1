-- Flights of document 01 ("Flights to try") and of request 14 on the plan check and the dependencies, as one statement. Assumes nothing.
use Rattle.std.specs.Prelude.{◌≡◌, List, [], ◌∷◌, Bool, true, false, ℕ, length, Result, Ok, Err, ⊤}
use Rattle.below.specs.Below.{at}
use Rattle.tables.specs.Limits.{limits}
use Rattle.near.specs.Near.{meets_in, pairs_sound}
use Rattle.plan.specs.declared.check.PlanFault.{PlanFault}
use Rattle.plan.specs.declared.check.PlanFault.TheVariants.{NotRising, LegTooLong, SameLocation, Collision}
use Rattle.plan.specs.Stops.{start, owner, stop_number}
use Rattle.plan.specs.Visits.{Visits, same_location, visits_with}
use Rattle.plan.specs.Answers.{check_number, check_of}
use Rattle.plan.specs.Dependencies.{flag_of, column}

-- each drone's M, and the location, the time and the leg of each stop
pub record PlanFlight : Type 0 where
  pub counts : List ℕ
  pub locations : List ℕ
  pub times : List ℕ
  pub legs : List ℕ

-- Q, with the second drone's 5 at time t
abbrev pub plan_q : ℕ → PlanFlight
plan_q t = record { counts = 4 ∷ 3 ∷ []; locations = 1 ∷ 6 ∷ 5 ∷ 2 ∷ 3 ∷ 5 ∷ 4 ∷ []; times = 0 ∷ 1 ∷ 2 ∷ 3 ∷ 0 ∷ t ∷ 5 ∷ []; legs = 0 ∷ 1 ∷ 1 ∷ 1 ∷ 0 ∷ 1 ∷ 1 ∷ [] }

-- P: "routes 10@0, 20@1, 30@2, 40@3 and 11@0, 20@3, 30@4, 41@5"
abbrev pub plan_p : PlanFlight
plan_p = record { counts = 4 ∷ 4 ∷ []; locations = 10 ∷ 20 ∷ 30 ∷ 40 ∷ 11 ∷ 20 ∷ 30 ∷ 41 ∷ []; times = 0 ∷ 1 ∷ 2 ∷ 3 ∷ 0 ∷ 3 ∷ 4 ∷ 5 ∷ []; legs = 0 ∷ 1 ∷ 1 ∷ 1 ∷ 0 ∷ 1 ∷ 1 ∷ 1 ∷ [] }

-- "5@0, 6@1 with 3@0, 5@2, 4@3" and "1@0, 5@1, 2@2 with 3@0, 5@3"
abbrev pub from_first_stop : PlanFlight
from_first_stop = record { counts = 2 ∷ 3 ∷ []; locations = 5 ∷ 6 ∷ 3 ∷ 5 ∷ 4 ∷ []; times = 0 ∷ 1 ∷ 0 ∷ 2 ∷ 3 ∷ []; legs = 0 ∷ 1 ∷ 0 ∷ 1 ∷ 1 ∷ [] }

abbrev pub to_last_stop : PlanFlight
to_last_stop = record { counts = 3 ∷ 2 ∷ []; locations = 1 ∷ 5 ∷ 2 ∷ 3 ∷ 5 ∷ []; times = 0 ∷ 1 ∷ 2 ∷ 0 ∷ 3 ∷ []; legs = 0 ∷ 1 ∷ 1 ∷ 0 ∷ 1 ∷ [] }

-- two drones, 1@0, l@1, 2@2 with 3@0, m@1, 4@2
abbrev pub passing : (l m : ℕ) → PlanFlight
passing l m = record { counts = 3 ∷ 3 ∷ []; locations = 1 ∷ l ∷ 2 ∷ 3 ∷ m ∷ 4 ∷ []; times = 0 ∷ 1 ∷ 2 ∷ 0 ∷ 1 ∷ 2 ∷ []; legs = 0 ∷ 1 ∷ 1 ∷ 0 ∷ 1 ∷ 1 ∷ [] }

-- the same with l and m 7 and 9, and a third drone, 5@0, 8@4, 6@5
abbrev pub in_row : PlanFlight
in_row = record {
  counts = 3 ∷ 3 ∷ 3 ∷ [];
  locations = 1 ∷ 7 ∷ 2 ∷ 3 ∷ 9 ∷ 4 ∷ 5 ∷ 8 ∷ 6 ∷ [];
  times = 0 ∷ 1 ∷ 2 ∷ 0 ∷ 1 ∷ 2 ∷ 0 ∷ 4 ∷ 5 ∷ [];
  legs = 0 ∷ 1 ∷ 1 ∷ 0 ∷ 1 ∷ 1 ∷ 0 ∷ 1 ∷ 1 ∷ [];
}

-- one drone to and fro, 1@0, 7@1, 8@2, 7@3
abbrev pub to_and_fro : PlanFlight
to_and_fro = record { counts = 4 ∷ []; locations = 1 ∷ 7 ∷ 8 ∷ 7 ∷ []; times = 0 ∷ 1 ∷ 2 ∷ 3 ∷ []; legs = 0 ∷ 1 ∷ 1 ∷ 1 ∷ [] }

-- one drone, 1@0, then location l at time t with leg g
abbrev pub one_leg : (l t g : ℕ) → PlanFlight
one_leg l t g = record { counts = 2 ∷ []; locations = 1 ∷ l ∷ []; times = 0 ∷ t ∷ []; legs = 0 ∷ g ∷ [] }

module _ (meets : ℕ → ℕ → Bool) (f : PlanFlight) where
  abbrev own : ℕ → ℕ
  own = owner (length f.counts) f.counts

  abbrev num : ℕ → ℕ
  num = stop_number (length f.counts) f.counts

  abbrev stop_sum : ℕ
  stop_sum = start f.counts (length f.counts)

  abbrev flight_visits : Visits
  flight_visits = visits_with meets own num (at f.locations) (at f.times) stop_sum

  -- the plan check's answer, and the flag bytes of the dependencies in their order
  abbrev pub check_by : Result ⊤ PlanFault
  check_by = check_of flight_visits (at f.legs)

  abbrev pub flags_by : List ℕ
  flags_by = column flight_visits (flag_of own num stop_sum)

-- without a site text
abbrev pub flight_check : PlanFlight → Result ⊤ PlanFault
flight_check = check_by same_location

abbrev pub flight_flags : PlanFlight → List ℕ
flight_flags = flags_by same_location

-- with the pairs of a site text
abbrev pub site_check : List ℕ → PlanFlight → Result ⊤ PlanFault
site_check pairs = check_by (meets_in pairs)

abbrev pub site_flags : List ℕ → PlanFlight → List ℕ
site_flags pairs = flags_by (meets_in pairs)

pub record Starred : Type 0 where
  -- "Q with the second drone's 5 at time 3: 10, since the first leaves in timestep 3. At 4: taken"
  pub leaves_as_other_enters : flight_check (plan_q 3) ≡ Err (Collision (record { drone = 0; stop = 2 }) (record { drone = 1; stop = 1 }))
  pub number_is_10 : check_number (flight_check (plan_q 3)) ≡ 10
  pub taken : flight_check (plan_q 4) ≡ Ok tt
  pub one_dependency : flight_flags (plan_q 4) ≡ 0 ∷ []
  -- "two dependencies"
  pub two_dependencies : flight_flags plan_p ≡ 0 ∷ 0 ∷ []
  -- "turn gives 31": the dependency is fixed
  pub fixed_by_first_stop : flight_flags from_first_stop ≡ 2 ∷ []
  pub fixed_by_last_stop : flight_flags to_last_stop ≡ 2 ∷ []
  -- "Each time rises by at least LEG": by just that, and by one less
  pub rises_by_leg : flight_check (one_leg 2 60 60) ≡ Ok tt
  pub leg_too_long : flight_check (one_leg 2 59 60) ≡ Err (LegTooLong (record { drone = 0; stop = 1 }))
  pub number_is_12 : check_number (flight_check (one_leg 2 59 60)) ≡ 12
  -- "after 8 and before 9"
  pub after_8 : flight_check (one_leg 1 0 60) ≡ Err (NotRising (record { drone = 0; stop = 1 }))
  pub before_9 : flight_check (one_leg 1 59 60) ≡ Err (LegTooLong (record { drone = 0; stop = 1 }))
  pub then_9 : flight_check (one_leg 1 60 60) ≡ Err (SameLocation (record { drone = 0; stop = 1 }))

-- request 7: "two visits collide, or make a dependency, when their locations are equal or near"
pub record NearFlights : Type 0 where
  -- Q with 4 and 6 near: the second drone comes to 4 when the first has been at 6. Its stop there is its last, so that dependency is fixed
  pub near_dependency : site_flags (4 ∷ 6 ∷ []) (plan_q 4) ≡ 2 ∷ 0 ∷ []
  -- Q with 2 and 4 near: both stay for ever
  pub near_collision : site_check (2 ∷ 4 ∷ []) (plan_q 4) ≡ Err (Collision (record { drone = 0; stop = 3 }) (record { drone = 1; stop = 2 }))
  -- two drones at 7 and 8 at one time: 10 with the pair, taken without
  pub near_at_once : site_check (7 ∷ 8 ∷ []) (passing 7 8) ≡ Err (Collision (record { drone = 0; stop = 1 }) (record { drone = 1; stop = 1 }))
  pub number_is_10 : check_number (site_check (7 ∷ 8 ∷ []) (passing 7 8)) ≡ 10
  pub taken_without : site_check [] (passing 7 8) ≡ Ok tt
  -- 7, 8 and 9 near in a row: 7 and 9 are not, so they may be visited at one time; each makes a dependency with 8, and none with the other
  pub ends_of_row : site_check (7 ∷ 8 ∷ 8 ∷ 9 ∷ []) in_row ≡ Ok tt
  pub middle_of_row : site_flags (7 ∷ 8 ∷ 8 ∷ 9 ∷ []) in_row ≡ 0 ∷ 0 ∷ []
  -- Q with 5 and 6 near: "two dependencies"
  pub two_near : site_flags (5 ∷ 6 ∷ []) (plan_q 4) ≡ 0 ∷ 0 ∷ []
  -- "Only different drones are compared": one drone goes between near locations, alone and beside another: Q's first goes from 1 to 6 and on to 5
  pub one_drone_near : site_check (1 ∷ 6 ∷ 5 ∷ 6 ∷ []) (plan_q 4) ≡ Ok tt
  pub by_itself : site_check (7 ∷ 8 ∷ []) to_and_fro ≡ Ok tt
  pub none_by_itself : site_flags (7 ∷ 8 ∷ []) to_and_fro ≡ []
  -- "A plan read without a site text behaves as before"
  pub no_pairs_lem : site_flags [] (plan_q 4) ≡ flight_flags (plan_q 4)
  -- a list that a site text could give, and three that none could
  pub rising : pairs_sound limits (2 ∷ 5 ∷ 5 ∷ 6 ∷ []) ≡ true
  pub equal_pairs : pairs_sound limits (2 ∷ 5 ∷ 2 ∷ 5 ∷ []) ≡ false
  pub falling_pair : pairs_sound limits (5 ∷ 2 ∷ []) ≡ false
  pub falling_list : pairs_sound limits (5 ∷ 6 ∷ 2 ∷ 5 ∷ []) ≡ false
