-- What is claimed of the list of every small plan. Assumes nothing.
use Rattle.std.specs.Prelude.{◌≡◌, true, ℕ, ◌<◌, length}
use Rattle.tables.specs.Limits.{limits}
use Rattle.tables.specs.Tables.{Tables, full_size}
use Rattle.reading.specs.Reading.{without, read_plan}
use Rattle.reading.specs.Replies.{taken}
use Rattle.small_plans.specs.Routes.{Within}
use Rattle.small_plans.specs.Plans.{SmallPlan, small_plan_text, small_plans, plan_at, plan_before}

pub record SmallPlanClaims : Type 0 where
  pub many : length small_plans ≡ 378
  -- "Plans are ordered by the first drone's route, then the second's": strictly rising
  pub rising : (i j : ℕ) → i < j → j < length small_plans → plan_before (plan_at i) (plan_at j) ≡ true
  -- "Each comes once"
  pub once : (i j : ℕ) → i < length small_plans → j < length small_plans → plan_at i ≡ plan_at j → i ≡ j
  pub text_once : (i j : ℕ) → i < length small_plans → j < length small_plans → small_plan_text (plan_at i) ≡ small_plan_text (plan_at j) → i ≡ j
  -- "and none is missing": any two routes within the figures whose text is taken, into whatever tables
  pub none_missing : (p : SmallPlan) (t : Tables) → Within p.first → Within p.second → (read_plan limits without (small_plan_text p) t).reply ≡ taken → (k : ℕ) × (k < length small_plans) × (plan_at k ≡ p)
  -- none too many: each is within the figures and is taken, whatever the tables held before
  pub none_too_many : (k : ℕ) → k < length small_plans → Within (plan_at k).first × Within (plan_at k).second × ((t : Tables) → full_size limits t ≡ true → (read_plan limits without (small_plan_text (plan_at k)) t).reply ≡ taken)
