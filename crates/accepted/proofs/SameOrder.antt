-- Plans that agree, with statuses that agree, have the same choices of directions: the same dependencies are open, and each choice has the same graph, so the search tells the same of both. Assumes nothing.
use mathlib.Core.Path.{◌≡◌, refl, sym, ap, ap₂, ◌∙◌, fun_ext}
use mathlib.Core.Bool.{Bool, true, false, not, cond, ◌&&◌, ◌||◌}
use mathlib.Core.List.{List}
use Prim.Native.Nat.{ℕ, suc, ◌≤◌, ◌<◌}
use native.Mathlib.Omega.{arith}
use lib.Dec.{leb, eqb}
use lib.ListN.{length}
use borrow.Author.Tests.{leb-false}
use Rattle.below.specs.Below.{count_below}
use Rattle.below.proofs.Count.{count_le}
use Rattle.below.proofs.Picks.{length-picks}
use Rattle.below.proofs.Tests.{same_test, or_left, or_right}
use Rattle.tables.specs.Limits.{Limits}
use Rattle.precedence.proofs.Agreement.{GraphsAgree, AwaitedIn, cyclic_agree, cost_agree}
use Rattle.plan.specs.Field.{Dependency, FieldPlan, in_force, wait_of, wait_unless, of_withdrawn, graph, place_of, AcceptedPlan, PlansAgree, Status}
use Rattle.plan.specs.Status.{entered, dependency_now}
use Rattle.choices.specs.Budget.{SearchReply, found, no_choice, over, reply_for}
use Rattle.choices.specs.Directions.{Direction, as_it_is, turned, left_out, in_direction, is_turned, direction_of, to_turn, choice_plan}
use Rattle.call_log.specs.Demand.{Agree}
use Rattle.call_log.specs.BestOrder.{opens, turned_wait, open_ones, has_cycle, cost_of, turns_of, best_is, turns_listed, best_by}
use Rattle.call_log.proofs.BestOrder.{opens_passes, passes_opens}
use Rattle.call_log.proofs.Checks.{Passes}
use Rattle.call_log.proofs.SameStatus.{counts_same, graph_in, aside_same, graphs_agree, fixed_same}

-- what the search tells of a plan and a status
abbrev pub searched : FieldPlan → Status → ℕ → SearchReply
searched F s budget = reply_for (has_cycle F s) (cost_of F s) budget (open_ones F s)

-- a list of turns is not longer than the plan has dependencies
pub turns_few : (F : FieldPlan) (s : Status) (xs : List Bool) → length (turns_of F s xs) ≤ F.count
unfolding to_turn
turns_few F s xs =
    let turns : ℕ → Bool = λ w. is_turned (direction_of (opens F s) xs w) in
    omega (arith, length-picks turns (λ w. w) F.count, count_le F.count turns)

-- ---- each choice awaits drones of the plan

module _ (F : FieldPlan) (accepted : AcceptedPlan F) (s : Status) where
  -- every dependency turned
  abbrev other_way_lem : Status
  other_way_lem = record { place = s.place; under_way = s.under_way; withdrawn = s.withdrawn; turned = λ w. not (s.turned w) }

  choice_in_lem : (xs : List Bool) → AwaitedIn (choice_plan (graph F s) (turned_wait F s) (opens F s) xs)
  choice_in_lem xs w l = go (direction_of (opens F s) xs w)
    where
      go : (d : Direction) → (in_direction d ((graph F s).wait w) (turned_wait F s w)).awaited < F.drones
      go as_it_is = graph_in F accepted s w l
      go turned = graph_in F accepted other_way_lem w l
      go left_out = graph_in F accepted s w l

module _ (F G : FieldPlan) (plans : PlansAgree F G) (accepted : AcceptedPlan F) (s s' : Status) (agree : Agree F s s') where
  -- ---- the same are open

  aside : (w : ℕ) → w < F.count → of_withdrawn F s w ≡ of_withdrawn G s' w
  aside = aside_same F G plans accepted s s' agree.marks

  now_same : (w : ℕ) → w < F.count → dependency_now F s w ≡ dependency_now G s' w
  now_same w l = ap₂ (λ (b : Bool) (x : Dependency). in_force b x) (agree.turns w l) (plans.dependencies_agree w l)

  first_flies : (b : Bool) (w : ℕ) → of_withdrawn F s w ≡ false → s.withdrawn (in_force b (F.dependency w)).first ≡ false
  first_flies true w o = or_right (s.withdrawn (F.dependency w).first) _ o
  first_flies false w o = or_left _ _ o

  -- progress is compared for those that are not withdrawn, and 35 is said before 32
  entered-same : (w : ℕ) → w < F.count → of_withdrawn F s w ≡ false → entered F s (dependency_now F s w).first (dependency_now F s w).first_stop ≡ entered G s' (dependency_now G s' w).first (dependency_now G s' w).first_stop
  entered-same w l o =
      let d : ℕ = (dependency_now F s w).first in
      let i : d < F.drones = graph_in F accepted s w l in
      let x : s'.withdrawn d ≡ false = sym (agree.marks d i) ∙ first_flies (s.turned w) w o in
      ap₂ (λ (p : ℕ) (u : Bool). leb (dependency_now F s w).first_stop p || u && eqb (dependency_now F s w).first_stop (suc p)) (agree.places d i x) (agree.under_ways d i x)
      ∙ ap (λ (e : Dependency). entered G s' e.first e.first_stop) (now_same w l)

  passes_on : (w : ℕ) → Passes F s w → Passes G s' w
  passes_on w (a, o, b, c) =
      let l : w < F.count = leb-false F.count w a in
      (ap (λ (n : ℕ). leb n w) (sym plans.counts_agree) ∙ a, sym (aside w l) ∙ o, sym (fixed_same F G plans accepted w l) ∙ b, sym (entered-same w l o) ∙ c)

  passes_back : (w : ℕ) → Passes G s' w → Passes F s w
  passes_back w (a, o, b, c) =
      let e : leb F.count w ≡ false = ap (λ (n : ℕ). leb n w) plans.counts_agree ∙ a in
      let l : w < F.count = leb-false F.count w e in
      let f : of_withdrawn F s w ≡ false = aside w l ∙ o in
      (e, f, fixed_same F G plans accepted w l ∙ b, entered-same w l f ∙ c)

  opens-same : opens F s ≡ opens G s'
  opens-same = fun_ext (λ w. same_test (opens F s w) (opens G s' w) (λ e. passes_opens G s' w (passes_on w (opens_passes F s w e))) (λ e. passes_opens F s w (passes_back w (opens_passes G s' w e))))

  -- ---- a choice's graph

  turned_same : (w : ℕ) → w < F.count → turned_wait F s w ≡ turned_wait G s' w
  turned_same w l = λ i. wait_unless (aside w l i) (wait_of (in_force (not (agree.turns w l i)) (plans.dependencies_agree w l i)))

  choices_agree : (xs : List Bool) → GraphsAgree (choice_plan (graph F s) (turned_wait F s) (opens F s) xs) (choice_plan (graph G s') (turned_wait G s') (opens G s') xs)
  choices_agree xs =
      let same = graphs_agree F G plans accepted s s' agree.marks agree.turns in
      record {
        drones_agree = plans.drones_agree;
        lasts_agree = plans.lasts_agree;
        counts_agree = plans.counts_agree;
        waits_agree = λ w l i. in_direction (direction_of (opens-same i) xs w) (same.waits_agree w l i) (turned_same w l i);
      }

  cycles_same : has_cycle F s ≡ has_cycle G s'
  cycles_same = fun_ext (λ xs. cyclic_agree _ _ (choices_agree xs) (choice_in_lem F accepted s xs))

  places : (d : ℕ) → d < F.drones → place_of F s d ≡ place_of G s' d
  places d l = counts_same F s s' agree d l ∙ ap (λ (n : ℕ). cond (s'.withdrawn d) n (s'.place d)) (plans.lasts_agree d l)

  costs-same : cost_of F s ≡ cost_of G s'
  costs-same = fun_ext (λ xs. cost_agree _ _ (choices_agree xs) (choice_in_lem F accepted s xs) F.leg G.leg (λ d k l o h. plans.legs_agree d k l h) (place_of F s) (place_of G s') places)

  -- ---- the search

  lists_same : (xs : List Bool) → turns_of F s xs ≡ turns_of G s' xs
  lists_same xs = λ i. to_turn (plans.counts_agree i) (opens-same i) xs

  pub best-same : (L : Limits) (l : List ℕ) (budget : ℕ) → best_by L F s l (searched F s budget) ≡ best_by L G s' l (searched G s' budget)
  best-same L l budget = go (searched F s budget) ∙ (λ i. best_by L G s' l (reply_for (cycles_same i) (costs-same i) budget (count_below (plans.counts_agree i) (opens-same i))))
    where
      go : (r : SearchReply) → best_by L F s l r ≡ best_by L G s' l r
      go (found least xs count) = λ i. record { outcome = best_is least (length (lists_same xs i)) count; list = turns_listed L l (lists_same xs i) }
      go (over count) = refl
      go (no_choice count) = refl
