-- "Best order, please" (request 11): the cheapest directions, of any tables. The definitions and the claims of log/specs/BestOrder.antt, and what they say of the lent list as the pilot finds it. Assumes nothing.
use Rattle.std.specs.Prelude.{◌≡◌, ◌⊎◌, ◌↔◌, true, false, List, [], ◌∷◌, ℕ, suc, ◌≤◌, ◌<◌, length, take}
use Rattle.below.specs.Below.{at, is_in}
use Rattle.tables.specs.Limits.{Limits}
use Rattle.tables.specs.Tables.{Tables, full_size}
use Rattle.plan.specs.Field.{plan_of}
use Rattle.plan.specs.Status.{status_in}
use Rattle.sound.specs.Sound.{sound}
use Rattle.choices.specs.Walk.{full_walk}
use Rattle.call_log.specs.CallLog.{accepted}
use Rattle.call_log.specs.Calls.{turn_all_step, costs, cost_reply}
use Rattle.call_log.specs.Claims.{Usable, Turnable}
use Rattle.call_log.specs.BestOrder.{most_budget, BestOutcome, best_is, too_many, best_refused, best_order, cycle_in, cost_in, open_in, Searches, OverExactly, FoundExactly, AppliesTo, StandsAs, PreviewsAs, NothingToChoose}

-- the number of a reply, 0 where it is accepted
abbrev pub best_number : BestOutcome → ℕ
best_number (best_is least size count) = 0
best_number (too_many count) = 37
best_number (best_refused n) = n

-- "The count is the number of part-made and finished choices entered, the empty one included": of the full walk
abbrev pub walk_count : Tables → ℕ
walk_count t = (full_walk (cycle_in t) (cost_in t) (open_in t)).count

-- which number, exactly: 41, which covers the lent list, then 40; "38, a budget out of range, after 40; 37, said exactly when the full walk would enter more than the budget, with the count equal to the budget"
pub record BestNumbers (L : Limits) (t : Tables) (l : List ℕ) (budget : ℕ) : Type 0 where
  pub exactly_41 : (best_number (best_order L t l budget).outcome ≡ 41) ↔ ((full_size L t ≡ false) ⊎ (length l < L.dependencies))
  pub exactly_40 : (best_number (best_order L t l budget).outcome ≡ 40) ↔ ((full_size L t ≡ true) × (L.dependencies ≤ length l) × (sound L t ≡ false))
  pub exactly_38 : (best_number (best_order L t l budget).outcome ≡ 38) ↔ (Usable L t × (L.dependencies ≤ length l) × ((budget < 1) ⊎ (most_budget < budget)))
  pub exactly_37 : (best_number (best_order L t l budget).outcome ≡ 37) ↔ (Searches L t l budget × (budget < walk_count t))
  pub count_37 : best_number (best_order L t l budget).outcome ≡ 37 → (best_order L t l budget).outcome ≡ too_many budget
  pub exactly_0 : (best_number (best_order L t l budget).outcome ≡ 0) ↔ (Searches L t l budget × (walk_count t ≤ budget))
  pub no_other : is_in (best_number (best_order L t l budget).outcome) (0 ∷ 37 ∷ 38 ∷ 40 ∷ 41 ∷ []) ≡ true

-- the lent list after an accepted search, as the pilot finds it
pub record ListGiven (L : Limits) (t : Tables) (least size : ℕ) (list : List ℕ) : Type 0 where
  -- "the rising list of dependencies to turn, with its length": each passes 30 to 32 and 35
  pub rising : (i : ℕ) → suc i < size → at list i < at list (suc i)
  pub open_ones : (i : ℕ) → i < size → Turnable (plan_of t.plan) (status_in t) (at list i)
  -- "entries past the length are zero"
  pub zeros : (i : ℕ) → size ≤ i → i < L.dependencies → at list i ≡ 0
  -- "the pilot applies the list, if it isn't empty, through the group turn": it is accepted, and the cost is then the one replied
  pub applied : 0 < size → ((turn_all_step L t (take size list)).reply ≡ accepted) × (cost_reply L (turn_all_step L t (take size list)).tables ≡ costs least)

pub record BestOrderClaims (L : Limits) (t : Tables) : Type 0 where
  -- "The reply is the least cost of all choices without a cycle, the earliest such choice, and the count"
  pub found_exactly : FoundExactly L t
  pub over_exactly : OverExactly L t
  -- the list of the earliest cheapest choice: turned as a group, empty, and previewed
  pub applies_to : AppliesTo L t
  pub stands_as : StandsAs L t
  pub previews_as : PreviewsAs L t
  pub nothing_to_choose : NothingToChoose L t
  pub list_given : (l : List ℕ) (budget least size count : ℕ) → (best_order L t l budget).outcome ≡ best_is least size count → ListGiven L t least size (best_order L t l budget).list
