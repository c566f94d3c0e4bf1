-- The plan check's answer, and this paper's number for each case (document 01, "Where each refusal is checked"; request 14). Assumes nothing.
use Rattle.std.specs.Prelude.{◌≡◌, Bool, true, false, ℕ, ◌<◌, ltb, eqb, Option, Some, None, Result, Ok, Err, ⊤}
use Rattle.plan.specs.declared.check.StopAt.{StopAt}
use Rattle.plan.specs.declared.check.StopFault.{StopFault}
use Rattle.plan.specs.declared.check.StopFault.TheVariants as fault
use Rattle.plan.specs.declared.check.Colliders.{Colliders}
use Rattle.plan.specs.declared.check.PlanFault.{PlanFault}
use Rattle.plan.specs.declared.check.PlanFault.TheVariants.{StartsLate, NotRising, LegTooLong, SameLocation, Collision}
use Rattle.plan.specs.Visits.{Visits}
use Rattle.plan.specs.Check.{fault_at, first_fault, collider, partner}

-- "7 stop 0 not at time 0; 8 time not above the one before; 9 same location as the one before", "10 collision"; "12, the time rises by less than the leg"; 0 where the plan passes
abbrev pub check_number : Result ⊤ PlanFault → ℕ
check_number (Ok _) = 0
check_number (Err (StartsLate s)) = 7
check_number (Err (NotRising s)) = 8
check_number (Err (LegTooLong s)) = 12
check_number (Err (SameLocation s)) = 9
check_number (Err (Collision s t)) = 10

-- the same of a fault of one stop by itself, 0 where there is none
abbrev pub stop_fault_number : Option StopFault → ℕ
stop_fault_number None = 0
stop_fault_number (Some fault.StartsLate) = 7
stop_fault_number (Some fault.NotRising) = 8
stop_fault_number (Some fault.LegTooLong) = 12
stop_fault_number (Some fault.SameLocation) = 9

-- the choice of an answer by a test
abbrev pub pick_check : Bool → Result ⊤ PlanFault → Result ⊤ PlanFault → Result ⊤ PlanFault
pick_check true a b = a
pick_check false a b = b

-- "A refusal from the plan check says which drone and stop is at fault": stop v by its drone and its number there
abbrev pub stop_at : (own num : ℕ → ℕ) → ℕ → StopAt
stop_at own num v = record { drone = own v; stop = num v }

-- the answer for a stop whose refusal has a number
unfoldable pub fault_case : ℕ → StopAt → Result ⊤ PlanFault
fault_case number s = pick_check (eqb number 7) (Err (StartsLate s)) (pick_check (eqb number 8) (Err (NotRising s)) (pick_check (eqb number 12) (Err (LegTooLong s)) (Err (SameLocation s))))

module _ (S : Visits) (leg : ℕ → ℕ) where
  open S use {own, num, n}

  -- "plan check, stop by stop": the first stop at fault; "plan check, after all stops": the pair that collides
  unfoldable pub check_of : Result ⊤ PlanFault
  check_of =
      let v = first_fault S leg in
      let w = collider S in
      pick_check (ltb v n) (fault_case (fault_at S leg v) (stop_at own num v))
      (pick_check (ltb w n) (Err (Collision (stop_at own num w) (stop_at own num (partner S w)))) (Ok tt))

  -- what the stops by themselves say: nothing, or the refusal of the first at fault
  abbrev pub FirstFaultSaid : Result ⊤ PlanFault → Type 0
  FirstFaultSaid (Ok _) = first_fault S leg ≡ n
  FirstFaultSaid (Err e) = (first_fault S leg < n) × (Err e ≡ fault_case (fault_at S leg (first_fault S leg)) (stop_at own num (first_fault S leg)))

module _ (S : Visits) where
  -- what the search for a collision says: there is none, or it is the first stop that collides with one of a higher drone and the first that it collides with
  abbrev pub FirstCollision : Option Colliders → Type 0
  FirstCollision None = collider S ≡ S.n
  FirstCollision (Some c) = (c.first < S.n) × (c.first ≡ collider S) × (c.second ≡ partner S c.first)
