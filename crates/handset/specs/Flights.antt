-- Flight Q by presses alone, until everybody has landed (document 01, "Flights to try"). Assumes nothing.
use Rattle.std.specs.Prelude.{◌≡◌, Bool, true, false, not, ◌&&◌, List, [], ◌∷◌, eqb}
use Rattle.below.specs.Below.{all_below}
use Rattle.tables.specs.Tables.{Tables, drones}
use Rattle.plan.specs.Field.{plan_of}
use Rattle.plan.specs.Status.{status_in}
use Rattle.call_log.specs.CallLog.{short}
use Rattle.call_log.specs.Calls.{marked}
use Rattle.call_log.specs.Flights.{small, tables_by, Q}
use Rattle.handset.specs.Press.{PressOutcome, granted, press_refused, press_step}
use Rattle.std.specs.Prelude.{ℕ, Option, Some, None}

-- a press and the reply that it must get
pub record ExpectedPress : Type 0 where
  pub report : Option ℕ
  pub reply : PressOutcome

abbrev pub expect : Option ℕ → PressOutcome → ExpectedPress
expect r p = record { report = r; reply = p }

abbrev pub same_outcome : PressOutcome → PressOutcome → Bool
same_outcome (granted a) (granted b) = eqb a b
same_outcome (granted a) (press_refused n) = false
same_outcome (press_refused m) (granted b) = false
same_outcome (press_refused m) (press_refused n) = eqb m n

-- every drone stands at its last stop
abbrev pub landed : Tables → Bool
landed t = all_below (drones t.plan) (λ d. not (short (plan_of t.plan) (status_in t) d))

-- each press gets its reply on the tables that the press before it left, and in the end everybody has landed
unfoldable pub presses_hold : Tables → List ExpectedPress → Bool
presses_hold t [] = landed t
presses_hold t (x ∷ xs) = same_outcome (press_step small t x.report).reply x.reply && presses_hold (press_step small t x.report).tables xs

-- drone 1 waits until drone 0 has left location 5; the last arrival grants nobody, since everybody has landed
abbrev pub presses_q : List ExpectedPress
presses_q =
    expect None (granted 1)
    -- nothing was reported: drone 0 is under way already
    ∷ expect None (granted 0)
    -- drone 1 is not under way, and there is no drone 7
    ∷ expect (Some 1) (press_refused 24)
    ∷ expect (Some 7) (press_refused 20)
    ∷ expect (Some 0) (granted 1)
    ∷ expect (Some 0) (granted 1)
    ∷ expect (Some 0) (granted 2)
    ∷ expect (Some 1) (granted 2)
    ∷ expect (Some 1) (granted 0)
    -- an arrival too many
    ∷ expect (Some 1) (press_refused 24)
    ∷ []

-- Q with drone 0 withdrawn before the first press: drone 1 waits for nobody. "25, the drone is withdrawn": the arrival of drone 0 is refused and grants nothing. In the end everybody
-- has landed but the withdrawn drone, which is not counted
abbrev pub presses_carried : List ExpectedPress
presses_carried =
    expect (Some 0) (press_refused 25)
    ∷ expect None (granted 2)
    ∷ expect (Some 0) (press_refused 25)
    ∷ expect (Some 1) (granted 2)
    ∷ expect (Some 1) (granted 0)
    ∷ []

-- the claim
abbrev pub FlightQHolds : Type 0
FlightQHolds = (presses_hold (tables_by (Q 4)) presses_q ≡ true) × (presses_hold (marked (tables_by (Q 4)) 0) presses_carried ≡ true)
