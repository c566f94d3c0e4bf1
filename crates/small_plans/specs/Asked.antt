-- Asking for a small plan by its number: the reply, and the lent buffer afterwards ("A plan asked for is written as text into a lent buffer, with the reply and the
-- bytes past the text as with the writer"; "Refused: 15, no such plan, then 42; both leave the buffer unchanged"). "For enum answers, a definition gives this paper's
-- number and values for each case, and the promises use that definition." Assumes nothing.
use Rattle.std.specs.Prelude.{◌≡◌, cond, List, ◌++◌, ℕ, ltb, length, Option, Some, None, Result, Ok, Err}
use Rattle.lines.specs.Keys.{stops_key}
use Rattle.lines.specs.Stops.{count_line, stop_lines}
use Rattle.text.specs.TextWritten.{write_answer, buffer_after}
use Rattle.small_plans.specs.declared.PlanRefusal.{PlanRefusal}
use Rattle.small_plans.specs.declared.PlanRefusal.TheVariants.{NoSuchPlan, Short}
use Rattle.small_plans.specs.Routes.{SmallRoute, route_length, small_legs}
use Rattle.small_plans.specs.Plans.{small_plan_text, small_plans, plan_at}

-- the length of the text, or a refusal by its number
pub data PlanOutcome : Type 0 where
  text_length : ℕ → PlanOutcome
  plan_refused : ℕ → PlanOutcome

abbrev pub plan_meant : Result ℕ PlanRefusal → PlanOutcome
plan_meant (Ok n) = text_length n
plan_meant (Err NoSuchPlan) = plan_refused 15
plan_meant (Err Short) = plan_refused 42

-- "with the reply .. as with the writer": "42 buffer shorter than the text"; "The writer returns the length"
abbrev pub as_written : Option ℕ → PlanOutcome
as_written (Some n) = text_length n
as_written None = plan_refused 42

-- 15, then 42
unfoldable pub plan_answer : ℕ → List ℕ → PlanOutcome
plan_answer k buffer = cond (ltb k (length small_plans)) (as_written (write_answer buffer (small_plan_text (plan_at k)))) (plan_refused 15)

-- "both leave the buffer unchanged"
unfoldable pub buffer_then : ℕ → List ℕ → List ℕ
buffer_then k buffer = cond (ltb k (length small_plans)) (buffer_after buffer (small_plan_text (plan_at k))) buffer

-- what the contract of `small_plan` says: plan k was asked for with the buffer `before`, the reply was r, and `after` was left
pub record PlanGiven (k : ℕ) (before after : List ℕ) (r : PlanOutcome) : Type 0 where
  pub answer_is : r ≡ plan_answer k before
  pub buffer_is : after ≡ buffer_then k before

-- ---- inside

-- the lines of a route after its name
abbrev pub stop_text : SmallRoute → List ℕ
stop_text x = count_line stops_key (route_length x) ++ stop_lines 1 x.locations x.times (small_legs x)
