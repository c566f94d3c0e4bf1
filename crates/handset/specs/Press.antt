-- A press of the handset by the steps of the calls: the arrival's step, then the grants' steps in order. Assumes nothing.
use Rattle.std.specs.Prelude.{◌≡◌, Bool, false, cond, ◌||◌, ℕ, zero, suc, ◌^◌, eqb, Option, Some, None, Result, Ok, Err}
use Rattle.below.specs.Below.{pick, sum_below}
use Rattle.tables.specs.Limits.{Limits}
use Rattle.tables.specs.Tables.{Tables, full_size}
use Rattle.sound.specs.Sound.{sound}
use Rattle.call_log.specs.CallLog.{Reply, accepted, refused, must_wait, is_accepted, reply_number}
use Rattle.call_log.specs.Calls.{Answer, grant_step, arrive_step}
use Rattle.flat.specs.Replies.{fault_number}
use Rattle.handset.specs.declared.replies.PressRefusal.{PressRefusal}
use Rattle.handset.specs.declared.replies.PressRefusal.TheVariants as press

-- ---- what is replied

-- "The handset's number grows to 64 bits", "in which bit 0 stands for drone 0 and so on, one bit for each newly granted drone", or a refusal by its number
pub data PressOutcome : Type 0 where
  granted : ℕ → PressOutcome
  press_refused : ℕ → PressOutcome

abbrev pub press_meant : Result ℕ PressRefusal → PressOutcome
press_meant (Ok bits) = granted bits
press_meant (Err (press.Tables fault)) = press_refused (fault_number fault)
press_meant (Err press.NoDrone) = press_refused 20
press_meant (Err press.Withdrawn) = press_refused 25
press_meant (Err press.NotUnderWay) = press_refused 24

-- 41 or 40, by which a grant says that the tables are not usable; 0 for any other reply
abbrev pub unusable : Reply → ℕ
unusable accepted = 0
unusable (refused n) = pick (eqb n 41) 41 (pick (eqb n 40) 40 0)
unusable (must_wait w) = 0

-- a grant's reply that every later drone gets as well: 41 and 40, and 20, since the drones are numbered without a gap
abbrev pub ends_asking : Reply → Bool
ends_asking accepted = false
ends_asking (refused n) = eqb n 41 || eqb n 40 || eqb n 20
ends_asking (must_wait w) = false

-- the reply by that number and the bits
abbrev pub reply_with : ℕ → ℕ → PressOutcome
reply_with unusable-by bits = cond (eqb unusable-by 41) (press_refused 41) (cond (eqb unusable-by 40) (press_refused 40) (granted bits))

-- a press's reply and the tables after it
pub record PressAnswer : Type 0 where
  pub reply : PressOutcome
  pub tables : Tables

-- what the contract of a press says: it replied r and left the tables t', as defined
pub record PressedAs (p : PressAnswer) (r : PressOutcome) (t' : Tables) : Type 0 where
  pub replied : r ≡ p.reply
  pub left : t' ≡ p.tables

module _ (L : Limits) where
  -- ---- "then grants every drone that may go"

  module _ (t : Tables) where
    -- the tables after grants of the drones below n, asked from drone 0 on
    unfoldable pub after_grants : ℕ → Tables
    after_grants zero = t
    after_grants (suc n) = (grant_step L (after_grants n) n).tables

    -- what drone d was replied
    abbrev pub reply_at : ℕ → Reply
    reply_at d = (grant_step L (after_grants d) d).reply

    -- the sum of the bits of the drones below n that were newly granted
    unfoldable pub bits_below : ℕ → ℕ
    bits_below n = sum_below n (λ d. pick (is_accepted (reply_at d)) (2 ^ d) 0)

    -- "Refused: 41 and 40 first"
    unfoldable pub grant_all_step : PressAnswer
    grant_all_step = record {
      reply = cond (full_size L t) (cond (sound L t) (granted (bits_below L.drones)) (press_refused 40)) (press_refused 41);
      tables = after_grants L.drones;
    }

  -- "An arrival that is refused grants nothing": the arrival's own number
  unfoldable pub after_arrival : Answer → PressAnswer
  after_arrival a = cond (is_accepted a.reply) (grant_all_step a.tables) (record { reply = press_refused (reply_number a.reply); tables = a.tables })

  -- "A press takes one arrival, if one was reported": the drone that arrived
  unfoldable pub press_step : Tables → Option ℕ → PressAnswer
  press_step t None = grant_all_step t
  press_step t (Some d) = after_arrival (arrive_step L t d)
