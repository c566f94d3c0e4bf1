-- The marks of the open dependencies. Assumes nothing.
use Rattle.std.specs.Prelude.{◌≡◌, List, ℕ, Result, Ok, Err}
use Rattle.below.specs.Below.{pick, count_below, fill_below}
use Rattle.tables.specs.Tables.{Tables}
use Rattle.plan.specs.Field.{plan_of}
use Rattle.plan.specs.Status.{status_in}
use Rattle.flat.specs.declared.replies.TurnRefusal.{TurnRefusal}
use Rattle.call_log.specs.BestOrder.{opens}

abbrev pub pass_number : Result (Unit {0}) TurnRefusal → ℕ
pass_number (Ok passes) = 1
pass_number (Err refusal) = 0

-- the first m entries are the marks, and r is how many are open
pub record OpenMarked (t : Tables) (m : ℕ) (before after : List ℕ) (r : ℕ) : Type 0 where
  pub marks_are : after ≡ fill_below m (λ w. pick (opens (plan_of t.plan) (status_in t) w) 1 0) before
  pub count_is : r ≡ count_below m (opens (plan_of t.plan) (status_in t))
