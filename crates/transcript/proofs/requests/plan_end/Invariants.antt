-- A search: nothing below the position ends the plan.
use mathlib.Core.Path.{◌≡◌}
use Rattle.below.specs.Below.{first_below}
use Rattle.transcript.specs.Input.{ends_plan}
use Rattle.transcript.proofs.requests.plan_end.Given as goal

abbrev pub invariant-loop-at : goal.invariant-loop-at
invariant-loop-at l = first_below l.at (ends_plan l.text) ≡ l.at
