-- The cheapest directions (document 02, point 11): the reply of the search, and the lent list after it. No table is in the answer: "The tables don't change". Assumes nothing.
use Rattle.std.specs.Prelude.{◌≡◌, Bool, not, cond, ◌&&◌, List, [], ◌∷◌, ℕ, ◌≤◌, ◌<◌, leb, length}
use Rattle.std.proofs.Math.IntN.{sub_ℕ}
use Rattle.below.specs.Below.{laid}
use Rattle.tables.specs.Limits.{Limits}
use Rattle.tables.specs.Tables.{Tables, full_size}
use Rattle.tables.specs.Zero.{zeroed}
use Rattle.precedence.specs.Graph.{Wait}
use Rattle.plan.specs.Field.{FieldPlan, Status, plan_of, in_force, wait_of, wait_unless, of_withdrawn, graph, place_of}
use Rattle.plan.specs.Status.{status_in}
use Rattle.sound.specs.Sound.{sound}
use Rattle.choices.specs.Walk.{full_walk}
use Rattle.choices.specs.Cheapest.{Cheapest}
use Rattle.choices.specs.Budget.{SearchReply, found, no_choice, over, reply_for}
use Rattle.choices.specs.Directions.{to_turn, open_count, choice_cyclic, choice_cost}
use Rattle.call_log.specs.CallLog.{is_accepted, first_that_holds, walked_rows, accepted}
use Rattle.call_log.specs.Calls.{turn_all_step, costs, cost_reply}
use Rattle.call_log.specs.Claims.{Usable}
use Rattle.call_log.specs.Preview.{would_turn, preview_all}

-- "The budget is 1 to 100,000"
abbrev pub most_budget : ℕ
most_budget = 100000

unfoldable pub budget_in : ℕ → Bool
budget_in budget = leb 1 budget && leb budget most_budget

module _ (F : FieldPlan) (s : Status) where
  -- "every dependency that passes 30 to 32 and 35": no row that a turn has of the dependency by itself holds
  unfoldable pub opens : ℕ → Bool
  opens w = is_accepted (first_that_holds (walked_rows F s (w ∷ []) []))

  -- "Turning the dependency makes the rule: j may enter s only after i has visited k+1": the graph's wait of a dependency against the order now in force
  abbrev pub turned_wait : ℕ → Wait
  turned_wait w = wait_unless (of_withdrawn F s w) (wait_of (in_force (not (s.turned w)) (F.dependency w)))

  -- how many a choice covers
  abbrev pub open_ones : ℕ
  open_ones = open_count (graph F s) turned_wait opens

  -- of a choice, part-made or finished: "the graph with the undecided ones left out has a cycle", and "its cost"
  abbrev pub has_cycle : List Bool → Bool
  has_cycle = choice_cyclic (graph F s) turned_wait opens

  abbrev pub cost_of : List Bool → ℕ
  cost_of = choice_cost (graph F s) turned_wait opens F.leg (place_of F s)

  -- "The choice is given as the rising list of dependencies to turn"
  abbrev pub turns_of : List Bool → List ℕ
  turns_of = to_turn F.count opens

-- the least cost, the list's length and the count; 37 "with the count equal to the budget"; or another refusal
pub data BestOutcome : Type 0 where
  best_is : (least size count : ℕ) → BestOutcome
  too_many : (count : ℕ) → BestOutcome
  best_refused : ℕ → BestOutcome

-- the outcome, and the lent list afterwards
pub record BestAnswer : Type 0 where
  pub outcome : BestOutcome
  pub list : List ℕ

-- "a refusal leaves the list unchanged"
abbrev pub best_unlisted : BestOutcome → List ℕ → BestAnswer
best_unlisted o l = record { outcome = o; list = l }

-- "in a lent list of the dependency table's full size ..; entries past the length are zero"
unfoldable pub turns_listed : Limits → List ℕ → List ℕ → List ℕ
turns_listed L l ws = laid (zeroed L.dependencies l) 0 ws

-- no choice would mean that the graph as it stands has a cycle: tables with one are not sound
abbrev pub best_by : Limits → FieldPlan → Status → List ℕ → SearchReply → BestAnswer
best_by L F s l (found least xs count) = record { outcome = best_is least (length (turns_of F s xs)) count; list = turns_listed L l (turns_of F s xs) }
best_by L F s l (over count) = best_unlisted (too_many count) l
best_by L F s l (no_choice count) = best_unlisted (best_refused 40) l

-- 41, which covers the lent list, then 40, "38, a budget out of range, after 40", then the search
unfoldable pub best_order : (L : Limits) (t : Tables) (list : List ℕ) (budget : ℕ) → BestAnswer
best_order L t l budget =
    cond (full_size L t && leb L.dependencies (length l))
    (cond (sound L t)
    (cond (budget_in budget)
    (best_by L (plan_of t.plan) (status_in t) l (reply_for (has_cycle (plan_of t.plan) (status_in t)) (cost_of (plan_of t.plan) (status_in t)) budget (open_ones (plan_of t.plan) (status_in t))))
    (best_unlisted (best_refused 38) l))
    (best_unlisted (best_refused 40) l))
    (best_unlisted (best_refused 41) l)

-- ---- what is claimed

-- of the plan and the status in tables
abbrev pub cycle_in : Tables → List Bool → Bool
cycle_in t = has_cycle (plan_of t.plan) (status_in t)

abbrev pub cost_in : Tables → List Bool → ℕ
cost_in t = cost_of (plan_of t.plan) (status_in t)

abbrev pub open_in : Tables → ℕ
open_in t = open_ones (plan_of t.plan) (status_in t)

abbrev pub list_in : Tables → List Bool → List ℕ
list_in t = turns_of (plan_of t.plan) (status_in t)

module _ (L : Limits) (t : Tables) where
  -- "the earliest such choice", its cost, and the count of the full walk
  pub record BestFound (l : List ℕ) (budget : ℕ) : Type 0 where
    pub choice : List Bool
    pub least : ℕ
    pub cheapest_is : Cheapest (cycle_in t) (cost_in t) (open_in t) least choice
    pub outcome_is : (best_order L t l budget).outcome ≡ best_is least (length (list_in t choice)) (full_walk (cycle_in t) (cost_in t) (open_in t)).count
    pub list_is : (best_order L t l budget).list ≡ turns_listed L l (list_in t choice)

  -- lent a list of full size and a budget in its range
  abbrev pub Searches : List ℕ → ℕ → Type 0
  Searches l budget = Usable L t × (L.dependencies ≤ length l) × (1 ≤ budget) × (budget ≤ most_budget)

  -- "37, said exactly when the full walk would enter more than the budget, with the count equal to the budget"
  abbrev pub OverExactly : Type 0
  OverExactly = (l : List ℕ) (budget : ℕ) → Searches l budget → budget < (full_walk (cycle_in t) (cost_in t) (open_in t)).count → best_order L t l budget ≡ best_unlisted (too_many budget) l

  -- otherwise "The reply is the least cost of all choices without a cycle, the earliest such choice, and the count"
  abbrev pub FoundExactly : Type 0
  FoundExactly = (l : List ℕ) (budget : ℕ) → Searches l budget → (full_walk (cycle_in t) (cost_in t) (open_in t)).count ≤ budget → BestFound l budget

  -- "the pilot applies the list, if it isn't empty, through the group turn": it is accepted, and the cost is then the one that was replied
  abbrev pub AppliesTo : Type 0
  AppliesTo = Usable L t → (least : ℕ) (xs : List Bool) → Cheapest (cycle_in t) (cost_in t) (open_in t) least xs → 0 < length (list_in t xs)
      → ((turn_all_step L t (list_in t xs)).reply ≡ accepted) × (cost_reply L (turn_all_step L t (list_in t xs)).tables ≡ costs least)

  -- an empty list is the order now in force: its cost is the cost now
  abbrev pub StandsAs : Type 0
  StandsAs = Usable L t → (least : ℕ) (xs : List Bool) → Cheapest (cycle_in t) (cost_in t) (open_in t) least xs → length (list_in t xs) ≡ 0 → cost_reply L t ≡ costs least

  -- and the preview of the list is the replied cost less the cost now
  abbrev pub PreviewsAs : Type 0
  PreviewsAs = Usable L t → (least : ℕ) (xs : List Bool) → Cheapest (cycle_in t) (cost_in t) (open_in t) least xs → 0 < length (list_in t xs) → (now : ℕ) → cost_reply L t ≡ costs now → preview_all L t (list_in t xs) ≡ would_turn (sub_ℕ least now)

  -- with nothing to choose: the cost now, the empty list, and the empty choice alone is counted
  abbrev pub NothingToChoose : Type 0
  NothingToChoose = (l : List ℕ) (budget : ℕ) → Searches l budget → open_in t ≡ 0 → (now : ℕ) → cost_reply L t ≡ costs now → best_order L t l budget ≡ record { outcome = best_is now 0 1; list = turns_listed L l [] }
