-- A turn looked at before it is made: the reply that the turn would get and, when it would be done, the cost after it less the cost now (document 02, point 2;
-- of a list, point 4). No table is in the answer: a preview changes none. Assumes nothing.
use Rattle.std.specs.Prelude.{◌≡◌, ◌↔◌, List, [], ◌∷◌, ℕ, ◌*◌, ◌≤◌, ℤ, pos, neg_ℤ, ◌≤ℤ◌}
use Rattle.std.proofs.Math.IntN.{sub_ℕ}
use Rattle.tables.specs.Limits.{Limits, limits, most_cost}
use Rattle.tables.specs.Tables.{Tables, form_of}
use Rattle.call_log.specs.CallLog.{Reply, accepted, refused, must_wait}
use Rattle.call_log.specs.Calls.{Answer, turn_step, turn_all_step, CostOutcome, costs, cost_refused, cost_reply}
use Rattle.call_log.specs.Claims.{greatest_cost}

-- the turn would be done and change the cost by so much; or it would be refused with this number
pub data PreviewOutcome : Type 0 where
  would_turn : ℤ → PreviewOutcome
  would_refuse : ℕ → PreviewOutcome

-- by the reply of the turn, the cost of the tables that it leaves, and the cost now; `sub_ℕ a b` is the integer a - b
abbrev pub preview_by : Reply → CostOutcome → CostOutcome → PreviewOutcome
preview_by accepted (costs cost_after) (costs cost_now) = would_turn (sub_ℕ cost_after cost_now)
preview_by accepted (costs cost_after) (cost_refused n) = would_refuse n
preview_by accepted (cost_refused n) cost_now = would_refuse n
preview_by (refused n) cost_after cost_now = would_refuse n
preview_by (must_wait w) cost_after cost_now = would_refuse 23

module _ (L : Limits) (t : Tables) where
  -- a copy of the tables t was turned with this answer
  abbrev pub preview_of : Answer → PreviewOutcome
  preview_of a = preview_by a.reply (cost_reply L a.tables) (cost_reply L t)

  -- "It equals doing the turn on a copy, and the tables are untouched"
  unfoldable pub preview : ℕ → PreviewOutcome
  preview w = preview_of (turn_step L t w)

  -- "The preview takes a list too"
  unfoldable pub preview_all : List ℕ → PreviewOutcome
  preview_all ws = preview_of (turn_all_step L t ws)

-- ---- what is claimed, of a preview p and the answer of the turn

-- "Refused: as for turn": with the same numbers, and never because a cost is not there
abbrev pub RefusedAs : PreviewOutcome → Answer → Type 0
RefusedAs p a = (n : ℕ) → (p ≡ would_refuse n) ↔ (a.reply ≡ refused n)

-- both costs are there, and z is the one after less the one now
pub record Change (x y : CostOutcome) (z : ℤ) : Type 0 where
  pub cost_after : ℕ
  pub cost_now : ℕ
  pub costs_after : x ≡ costs cost_after
  pub costs_now : y ≡ costs cost_now
  pub difference : z ≡ sub_ℕ cost_after cost_now

-- "When it would be done, it also gives the cost after it less the cost now"
abbrev pub DoneAs : Limits → Tables → PreviewOutcome → Answer → Type 0
DoneAs L t p a = (z : ℤ) → (p ≡ would_turn z) ↔ ((a.reply ≡ accepted) × Change (cost_reply L a.tables) (cost_reply L t) z)

-- any change of the cost is from -n to n
abbrev pub ChangeWithin : ℕ → PreviewOutcome → Type 0
ChangeWithin n p = (z : ℤ) → p ≡ would_turn z → (neg_ℤ (pos n) ≤ℤ z) × (z ≤ℤ pos n)

-- of all tables and dependencies, and of all lists
pub record PreviewClaims : Type 0 where
  pub preview_refused : (L : Limits) (t : Tables) (w : ℕ) → RefusedAs (preview L t w) (turn_step L t w)
  pub preview_done : (L : Limits) (t : Tables) (w : ℕ) → DoneAs L t (preview L t w) (turn_step L t w)
  -- no greater than the greatest cost of the plan's form, either way
  pub preview_bounded : (L : Limits) (t : Tables) (w : ℕ) → 2 * L.drones ≤ L.stops → ChangeWithin (greatest_cost L (form_of t.plan)) (preview L t w)
  -- "a signed number", "Cost is at most 7,618,560, and the preview as far either way"
  pub preview_limit : (t : Tables) (w : ℕ) → ChangeWithin most_cost (preview limits t w)
  pub preview_all_refused : (L : Limits) (t : Tables) (ws : List ℕ) → RefusedAs (preview_all L t ws) (turn_all_step L t ws)
  pub preview_all_done : (L : Limits) (t : Tables) (ws : List ℕ) → DoneAs L t (preview_all L t ws) (turn_all_step L t ws)
  pub preview_all_bounded : (L : Limits) (t : Tables) (ws : List ℕ) → 2 * L.drones ≤ L.stops → ChangeWithin (greatest_cost L (form_of t.plan)) (preview_all L t ws)
  pub preview_all_limit : (t : Tables) (ws : List ℕ) → ChangeWithin most_cost (preview_all limits t ws)
  -- the preview of one turn is that of the list of length one
  pub preview_is_group : (L : Limits) (t : Tables) (w : ℕ) → preview L t w ≡ preview_all L t (w ∷ [])
