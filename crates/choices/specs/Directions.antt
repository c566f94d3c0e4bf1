-- The plan of a choice: "the graph with the undecided ones left out". Each wait stands as it is, is turned, or is left out; a wait until a stop 0 counts for
-- nothing, so a wait is left out by that. Assumes nothing.
use Rattle.std.specs.Prelude.{◌≡◌, Bool, true, false, cond, List, [], ◌∷◌, ◌++◌, ℕ, zero, suc, ◌<◌, length}
use Rattle.below.specs.Below.{count_below, picks}
use Rattle.precedence.specs.Graph.{Wait, Plan, FormedWait, Formed, cyclic, cost, NoEmptyLeg, Kept, Fewer}
use Rattle.choices.specs.Cheapest.{Growing}
use Rattle.choices.specs.Claims.{all_left, RightReply}

pub data Direction : Type 0 where
  as_it_is : Direction
  turned : Direction
  left_out : Direction

abbrev pub is_turned : Direction → Bool
is_turned as_it_is = false
is_turned turned = true
is_turned left_out = false

-- a wait that counts for nothing
abbrev pub empty_wait : Wait → Wait
empty_wait w = record { waiter = w.waiter; stop = w.stop; awaited = w.awaited; until = 0 }

-- a wait, and what it is turned, in a direction
abbrev pub in_direction : Direction → Wait → Wait → Wait
in_direction as_it_is a b = a
in_direction turned a b = b
in_direction left_out a b = empty_wait a

-- the plan with each wait in its direction; `other w` is wait w turned
abbrev pub directed : Plan → (ℕ → Wait) → (ℕ → Direction) → Plan
directed P other to = record { drones = P.drones; last = P.last; count = P.count; wait = λ w. in_direction (to w) (P.wait w) (other w) }

-- what a choice says of its i-th dependency: nothing past its end
unfoldable pub decided_at : List Bool → ℕ → Direction
decided_at [] i = left_out
decided_at (b ∷ xs) zero = cond b turned as_it_is
decided_at (b ∷ xs) (suc i) = decided_at xs i

-- "A choice covers every dependency that passes 30 to 32 and 35, in number order": those that pass `open-one`. The others stand as they are
unfoldable pub direction_of : (ℕ → Bool) → List Bool → ℕ → Direction
direction_of open-one xs w = cond (open-one w) (decided_at xs (count_below w open-one)) as_it_is

-- "the rising list of dependencies to turn", of m
unfoldable pub to_turn : (m : ℕ) → (ℕ → Bool) → List Bool → List ℕ
to_turn m open-one xs = picks m (λ w. is_turned (direction_of open-one xs w)) (λ w. w)

-- a direction as the code's number
abbrev pub direction_number : Direction → ℕ
direction_number as_it_is = 0
direction_number turned = 1
direction_number left_out = 2

module _ (P : Plan) (other : ℕ → Wait) (open-one : ℕ → Bool) where
  -- how many there are
  abbrev pub open_count : ℕ
  open_count = count_below P.count open-one

  abbrev pub choice_plan : List Bool → Plan
  choice_plan xs = directed P other (direction_of open-one xs)

  abbrev pub choice_cyclic : List Bool → Bool
  choice_cyclic xs = cyclic (choice_plan xs)

  -- `leg d s` rounds to the stop s of drone d, whose last visited stop is `p d`
  abbrev pub choice_cost : (leg : ℕ → ℕ → ℕ) (p : ℕ → ℕ) → List Bool → ℕ
  choice_cost leg p xs = cost (choice_plan xs) leg p

  -- the waits name stops that are there, and so does what an open one is turned
  pub record FormedBoth : Type 0 where
    pub formed : Formed P
    pub formed_other : (w : ℕ) → w < P.count → open-one w ≡ true → FormedWait P (other w)

  -- an open one is not entered: turned, it waits to enter an unvisited stop (it passes 32)
  abbrev pub TurnedUnentered : (ℕ → ℕ) → Type 0
  TurnedUnentered p = (w : ℕ) → w < P.count → open-one w ≡ true → p (other w).waiter < (other w).stop

  -- so what is visited goes with every choice's plan: its rounds can be counted
  abbrev pub ChoicesKept : Type 0
  ChoicesKept = (p : ℕ → ℕ) → Kept P p → TurnedUnentered p → (xs : List Bool) → Kept (choice_plan xs) p

  -- a part-made choice's plan has fewer waits than a longer one's
  abbrev pub PartMadeFewer : Type 0
  PartMadeFewer = (xs ys : List Bool) → Fewer (choice_plan (xs ++ ys)) (choice_plan xs)

  -- so the cycles and the cost grow with the choice
  abbrev pub ChoicesGrow : Type 0
  ChoicesGrow = FormedBoth → (leg : ℕ → ℕ → ℕ) (p : ℕ → ℕ) → NoEmptyLeg P leg p → Growing choice_cyclic (choice_cost leg p)

  -- the choice that leaves all is the graph as it stands
  abbrev pub LeavingAll : Type 0
  LeavingAll = Formed P → cyclic P ≡ false → choice_cyclic (all_left open_count) ≡ false

  -- request 11 on a plan whose graph has no cycle
  abbrev pub BestOfChoices : Type 0
  BestOfChoices = FormedBoth → cyclic P ≡ false → (leg : ℕ → ℕ → ℕ) (p : ℕ → ℕ) → NoEmptyLeg P leg p → (budget : ℕ) → RightReply choice_cyclic (choice_cost leg p) budget open_count

  -- the plan of a finished choice is the plan with just these turned
  abbrev pub TurnedPlan : Type 0
  TurnedPlan = (xs : List Bool) → length xs ≡ open_count → (w : ℕ) → w < P.count → (choice_plan xs).wait w ≡ in_direction (cond (is_turned (direction_of open-one xs w)) turned as_it_is) (P.wait w) (other w)
