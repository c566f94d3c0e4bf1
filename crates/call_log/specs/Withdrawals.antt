-- What is claimed of withdrawals besides their exact replies, which demand 2 has (document 02, point 10). Assumes nothing.
use Rattle.std.specs.Prelude.{◌≡◌, ◌≢◌, ◌⊎◌, true, ◌&&◌, ◌||◌, List, ℕ}
use Rattle.tables.specs.Limits.{Limits}
use Rattle.tables.specs.Tables.{Tables}
use Rattle.plan.specs.Field.{FieldPlan, plan_of, Status, after_withdrawal}
use Rattle.plan.specs.Status.{status_in, dependency_now}
use Rattle.call_log.specs.CallLog.{Call, accepted, is_accepted, is_withdrawal}
use Rattle.call_log.specs.Calls.{grant_step, withdraw_step, step, tables_after}
use Rattle.call_log.specs.Claims.{IntoNext, Met, Waiting}

module _ (L : Limits) (t : Tables) where
  abbrev plan_now : FieldPlan
  plan_now = plan_of t.plan

  abbrev status_now : Status
  status_now = status_in t

  -- "the rest must go on": whoever waited for that drone alone may go
  abbrev pub WithdrawalFrees : Type 0
  WithdrawalFrees = (d e : ℕ) → (withdraw_step L t d).reply ≡ accepted → e ≢ d → Waiting plan_now status_now e → ((w : ℕ) → IntoNext plan_now status_now e w → Met plan_now status_now w ⊎ ((dependency_now plan_now status_now w).first ≡ d)) → (grant_step L (withdraw_step L t d).tables e).reply ≡ accepted

  -- "Withdrawing changes only a mark in the drone's record": places, who is under way and what is turned stay as they were recorded
  abbrev pub ChangesOnlyMark : Type 0
  ChangesOnlyMark = (d : ℕ) → (withdraw_step L t d).reply ≡ accepted → status_in (withdraw_step L t d).tables ≡ after_withdrawal status_now d

  -- ".., and nothing else sets it": after a call, accepted or refused, a drone is withdrawn exactly when it was before or the call is an accepted withdrawal of it
  abbrev pub MarkedExactly : Type 0
  MarkedExactly = (c : Call) (d : ℕ) → (status_in (step L t c).tables).withdrawn d ≡ (status_now.withdrawn d || is_accepted (step L t c).reply && is_withdrawal d c)

  -- so whoever is withdrawn stays so, whatever is called
  abbrev pub StaysWithdrawn : Type 0
  StaysWithdrawn = (calls : List Call) (d : ℕ) → status_now.withdrawn d ≡ true → (status_in (tables_after (step L) t calls)).withdrawn d ≡ true

-- of all tables
pub record WithdrawalClaims : Type 0 where
  pub withdrawal_frees : (L : Limits) (t : Tables) → WithdrawalFrees L t
  pub changes_only_mark : (L : Limits) (t : Tables) → ChangesOnlyMark L t
  pub marked_exactly : (L : Limits) (t : Tables) → MarkedExactly L t
  pub stays_withdrawn : (L : Limits) (t : Tables) → StaysWithdrawn L t
