-- The starred flights of document 01 ("Flights to try"), each a plan text that is read: the number of the reading, and on the tables that it left the calls, with what each must be
-- answered by the calls and by the log of the text's own plan. Assumes nothing.
use Rattle.std.specs.Prelude.{◌≡◌, true, List, [], ◌∷◌, ℕ}
use Prim.Native.String.{String}
use Rattle.tables.specs.Limits.{Limits, limits}
use Rattle.tables.specs.Tables.{dependencies}
use Rattle.tables.specs.Zero.{filled}
use Rattle.text.specs.Examples.{bytes}
use Rattle.plan.specs.declared.check.StopAt.{StopAt}
use Rattle.call_log.specs.CallLog.{grant, arrive, turn, accepted, refused, must_wait}
use Rattle.call_log.specs.Flights.{Line, says, costs_now, follow}
use Rattle.reading.specs.Replies.{taken as plan_taken, refused_stops}
use Rattle.reading.specs.Reading.{ReadingAnswer, read_plan, without}
use Rattle.accepted.specs.TextPlan.{text_plan}
use Rattle.accepted.specs.Examples.{text_q, text_p}

-- limits that hold the flights, so that full tables can be computed with; the product's are raised from them, so the flights hold there as well
abbrev pub tight : Limits
tight = record { text = 200; drones = 2; stops = 8; dependencies = 2; name = limits.name; location = limits.location; time = limits.time; leg = limits.leg; form = limits.form }

-- the plan is taken with so many dependencies, and then the lines hold; or refusal 10 gives two drones, each with its stop
pub data Outcome : Type 0 where
  taken : ℕ → List Line → Outcome
  collides : (d s e k : ℕ) → Outcome

-- a plan text, and what comes of it
pub record TextFlight : Type 0 where
  pub text : String
  pub outcome : Outcome

abbrev pub flight_text : String → Outcome → TextFlight
flight_text s o = record { text = s; outcome = o }

-- the stop k of drone d
abbrev pub stop : ℕ → ℕ → StopAt
stop d k = record { drone = d; stop = k }

module _ (L : Limits) where
  -- the text is taken with so many dependencies, and the lines hold from the tables that the reading left; or it is refused by 10 with these two stops
  abbrev pub HasOutcome : String → ReadingAnswer → Outcome → Type 0
  HasOutcome s a (taken n ls) = (a.reply ≡ plan_taken) × (dependencies a.tables.plan ≡ n) × (follow L (text_plan L without (bytes s)) a.tables [] ls ≡ true)
  HasOutcome s a (collides d i e k) = a.reply ≡ refused_stops 10 (stop d i) (stop e k)

  -- each text is read into tables of full size that held something else before
  abbrev pub AllHave : List TextFlight → Type 0
  AllHave [] = Unit {0}
  AllHave (f ∷ fs) = HasOutcome f.text (read_plan L without (bytes f.text) (filled 7 L)) f.outcome × AllHave fs

-- ---- the table

-- Q "with the second drone's 5 at time 3"
abbrev pub early_q : String
early_q = "plan=1\nagents=2\nname=survey-quad-east-1\nstops=4\ngo=1@0\ngo=6@1\ngo=5@2\ngo=2@3\nname=survey-quad-east-2\nstops=3\ngo=3@0\ngo=5@3\ngo=4@5\nend=plan\n"

abbrev pub starred_texts : List TextFlight
starred_texts =
    -- "Q: cost 8 at first. 6 once dependency 0 is turned", with the output of "The program `field`". "At 4: taken"
    flight_text text_q (taken 1 (costs_now 8 ∷ says (grant 1) (must_wait 0) ∷ says (turn 0) accepted ∷ costs_now 6 ∷ says (grant 1) accepted ∷ says (grant 0) accepted ∷ says (arrive 1) accepted ∷ says (arrive 1) (refused 24) ∷ []))
    -- "Q with the second drone's 5 at time 3: 10, since the first leaves in timestep 3"
    ∷ flight_text early_q (collides 0 2 1 1)
    -- "P: .. two dependencies, cost 8. Turning either alone: 34"
    ∷ flight_text text_p (taken 2 (costs_now 8 ∷ says (turn 0) (refused 34) ∷ says (turn 1) (refused 34) ∷ []))
    -- "5@0, 6@1 with 3@0, 5@2, 4@3: turn gives 31. 1@0, 5@1, 2@2 with 3@0, 5@3: 31"
    ∷ flight_text "plan=1\nagents=2\nname=a\nstops=2\ngo=5@0\ngo=6@1\nname=b\nstops=3\ngo=3@0\ngo=5@2\ngo=4@3\nend=plan\n" (taken 1 (says (turn 0) (refused 31) ∷ []))
    ∷ flight_text "plan=1\nagents=2\nname=a\nstops=3\ngo=1@0\ngo=5@1\ngo=2@2\nname=b\nstops=2\ngo=3@0\ngo=5@3\nend=plan\n" (taken 1 (says (turn 0) (refused 31) ∷ []))
    -- "Q, drone 0 under way to stop 1: turn accepted. Under way to stop 2: 32"
    ∷ flight_text text_q (taken 1 (says (grant 0) accepted ∷ says (turn 0) accepted ∷ []))
    ∷ flight_text text_q (taken 1 (says (grant 0) accepted ∷ says (arrive 0) accepted ∷ says (grant 0) accepted ∷ says (turn 0) (refused 32) ∷ []))
    -- "One drone with one stop: cost 0, grant 21"
    ∷ flight_text "plan=1\nagents=1\nname=a\nstops=1\ngo=7@0\nend=plan\n" (taken 0 (costs_now 0 ∷ says (grant 0) (refused 21) ∷ []))
    ∷ []

-- the claim: "The starred flights, gathered in a table, are proved by one claim"
abbrev pub StarredFlights : Type 0
StarredFlights = AllHave tight starred_texts

-- .. and at the product's limits
abbrev pub StarredAtLimits : Type 0
StarredAtLimits = AllHave limits starred_texts
