-- The cheapest directions on usable tables: each open dependency turned is a wait into a stop that is not entered, so the search is right; and the list that it gives, turned as a
-- group, leaves the graph of the choice. Assumes nothing.
use mathlib.Core.Path.{◌≡◌, refl, sym, ap, ap₂, ◌∙◌, subst}
use mathlib.Core.Logic.{inl, inr}
use mathlib.Core.Bool.{Bool, true, false, not, cond}
use mathlib.Core.List.{List, [], ◌∷◌}
use Prim.Native.Nat.{ℕ, suc, ◌≤◌, ◌<◌}
use native.Mathlib.Omega.{arith}
use lib.Dec.{leb}
use lib.ListN.{length}
use borrow.Author.Tests.{le-leb}
use Rattle.below.specs.Below.{at, is_in, picks}
use Rattle.below.proofs.Count.{count_zero, count_none}
use Rattle.below.proofs.Picks.{length-picks}
use Rattle.below.proofs.Members.{in_head, in_at}
use Rattle.below.proofs.Tests.{by_cases, and_both, true_or_false, or_left, or_right}
use Rattle.tables.specs.Limits.{Limits}
use Rattle.tables.specs.Tables.{Tables}
use Rattle.precedence.specs.Graph.{Plan, FormedWait, Formed, cyclic, cost}
use Rattle.precedence.proofs.Agreement.{GraphsAgree, awaited_in, cyclic_agree, cost_agree}
use Rattle.plan.specs.Field.{FieldPlan, Status, plan_of, in_force, wait_of, wait_unless, of_withdrawn, after_turns, graph, place_of, fixed}
use Rattle.plan.specs.Status.{status_in, entered, dependency_now}
use Rattle.sound.specs.Sound.{sound}
use Rattle.sound.proofs.Clauses.{Sound, sound-says}
use Rattle.choices.specs.Walk.{full_walk}
use Rattle.choices.specs.Cheapest.{Cheapest}
use Rattle.choices.specs.Budget.{found, reply_for}
use Rattle.choices.specs.Claims.{all_left, RightReply}
use Rattle.choices.specs.Directions.{as_it_is, turned, in_direction, is_turned, direction_of, to_turn, choice_plan, FormedBoth, TurnedUnentered}
use Rattle.choices.proofs.Claims.{reply_over, nothing_open}
use Rattle.choices.proofs.Grows.{plan_formed, best_order_lem, leaving_all, turned_plan}
use Rattle.choices.proofs.Turns.{at_in, picked, picked_is, picked_rise, turned_open}
use Rattle.call_log.specs.CallLog.{when, first_that_holds, is_accepted, refused, accepted}
use Rattle.call_log.specs.Calls.{Answer, flipped_all, turn_all_step, costs, cost_reply}
use Rattle.call_log.specs.Claims.{Usable, Group, Turnable, AllTurnable}
use Rattle.call_log.specs.Preview.{preview_all}
use Rattle.call_log.specs.BestOrder.{budget_in, most_budget, opens, turned_wait, best_by, best_order, BestOutcome, best_is, BestAnswer, cycle_in, cost_in, open_in, list_in, turns_listed, BestFound, OverExactly, FoundExactly, AppliesTo, StandsAs, PreviewsAs, NothingToChoose}
use Rattle.call_log.proofs.Checks.{Passes, passes, turnable, one_turnable, place_counts}
use Rattle.call_log.proofs.Costs.{formed, flies}
use Rattle.call_log.proofs.Exactly.{turned-formed}
use Rattle.call_log.proofs.Groups.{group_iff}
use Rattle.call_log.proofs.SoundKept.{turns_usable}
use Rattle.call_log.proofs.SoundParts.{accepted_plan}
use Rattle.call_log.proofs.Steps.{cost_0, group_0, acceptance}
use Rattle.call_log.proofs.TurnSteps.{status_after}

empty_list : (ws : List ℕ) → length ws ≡ 0 → ws ≡ []
empty_list [] e = refl
empty_list (w ∷ ws) e = absurd (let z : suc (length ws) ≡ 0 = e in omega arith)

-- ---- what is open

module _ (F : FieldPlan) (s : Status) where
  pub opens_passes : (w : ℕ) → opens F s w ≡ true → Passes F s w
  unfolding opens
  opens_passes w e = go (leb F.count w) (of_withdrawn F s w) (fixed F w) (entered F s (dependency_now F s w).first (dependency_now F s w).first_stop) refl refl refl refl e
    where
      go : (a o b c : Bool) → leb F.count w ≡ a → of_withdrawn F s w ≡ o → fixed F w ≡ b → entered F s (dependency_now F s w).first (dependency_now F s w).first_stop ≡ c → is_accepted (first_that_holds (when a (refused 30) ∷ when o (refused 35) ∷ when b (refused 31) ∷ when c (refused 32) ∷ [])) ≡ true → Passes F s w
      go true o b c x v y z h = true_or_false h refl
      go false true b c x v y z h = true_or_false h refl
      go false false true c x v y z h = true_or_false h refl
      go false false false true x v y z h = true_or_false h refl
      go false false false false x v y z h = (x, v, y, z)

  pub passes_opens : (w : ℕ) → Passes F s w → opens F s w ≡ true
  unfolding opens
  passes_opens w (a, o, b, c) = rw (a, o, b, c) refl

  -- turned by itself
  turned_alone : (w : ℕ) → (graph F (after_turns s (w ∷ []))).wait w ≡ turned_wait F s w
  turned_alone w = ap (λ (b : Bool). wait_unless (of_withdrawn F s w) (wait_of (in_force (cond b (not (s.turned w)) (s.turned w)) (F.dependency w)))) (in_head w [])

  -- the wait that a turned dependency has is into a stop that is not entered
  unentered_in : (b : Bool) (w : ℕ) → Turnable F s w → place_of F s (wait_of (in_force b (F.dependency w))).waiter < (wait_of (in_force b (F.dependency w))).stop
  unentered_in true w m = subst (λ (n : ℕ). n < (F.dependency w).first_stop) (sym (place_counts F s (F.dependency w).first (or_left _ _ m.none_withdrawn))) m.first_before.0
  unentered_in false w m = subst (λ (n : ℕ). n < (F.dependency w).second_stop) (sym (place_counts F s (F.dependency w).second (or_right (s.withdrawn (F.dependency w).first) _ m.none_withdrawn))) m.second_before.0

module _ (L : Limits) (t : Tables) (u : Usable L t) where
  abbrev F : FieldPlan
  F = plan_of t.plan

  abbrev S : Status
  S = status_in t

  abbrev G : Plan
  G = graph F S

  known : Sound L t
  known = sound-says L t u.1

  pub open_turnable : (w : ℕ) → opens F S w ≡ true → Turnable F S w
  open_turnable w e = turnable F S known.waits_kept_lem (opens_passes F S w e)

  pub open_both : FormedBoth G (turned_wait F S) (opens F S)
  open_both = record {
    formed = formed L t known;
    formed_other = λ w l e.
        let f : FormedWait (graph F (after_turns S (w ∷ []))) (turned_wait F S w) = subst (FormedWait (graph F (after_turns S (w ∷ [])))) (turned_alone F S w) (turned-formed F S (accepted_plan L t.plan known.accepted known.dependencies_own) known.fixed_unturned_lem (w ∷ []) ((one_turnable F S w).1 (open_turnable w e)) w l) in
        record { waiter_in = f.waiter_in; stop_pos = f.stop_pos; stop_in = f.stop_in; awaited_in = f.awaited_in; until_in = f.until_in };
  }

  pub open_unentered : TurnedUnentered G (turned_wait F S) (opens F S) (place_of F S)
  open_unentered w l e = unentered_in F S (not (S.turned w)) w (open_turnable w e)

  pub right_reply : (budget : ℕ) → RightReply (cycle_in t) (cost_in t) budget (open_in t)
  right_reply budget = best_order_lem G (turned_wait F S) (opens F S) open_both known.no_cycle F.leg (place_of F S) (flies L t known) budget

  -- ---- the list turned as a group

  module _ (least : ℕ) (xs : List Bool) (best : Cheapest (cycle_in t) (cost_in t) (open_in t) least xs) where
    abbrev ws : List ℕ
    ws = list_in t xs

    abbrev turns : ℕ → Bool
    turns w = is_turned (direction_of (opens F S) xs w)

    list_open : (w : ℕ) → is_in w ws ≡ true → opens F S w ≡ true
    unfolding to_turn
    list_open w e = turned_open (opens F S) xs w (picked F.count turns w e).1

    all_turnable : AllTurnable F S ws
    all_turnable w e = open_turnable w (list_open w e)

    group : 0 < length ws → Group ws
    unfolding to_turn
    group h = record { not_empty = h; rising = picked_rise F.count turns }

    in_list : (w : ℕ) → w < F.count → is_in w ws ≡ turns w
    unfolding to_turn
    in_list w l = by_cases (turns w)
        (λ e. picked_is F.count turns w l e ∙ sym e)
        (λ e. by_cases (is_in w (picks F.count turns (λ v. v))) (λ i. true_or_false (picked F.count turns w i).1 e) (λ i. i ∙ sym e))

    -- the graph of the choice is the graph with these turned
    same_wait : (b : Bool) (w : ℕ) → in_direction (cond b turned as_it_is) (G.wait w) (turned_wait F S w) ≡ wait_unless (of_withdrawn F S w) (wait_of (in_force (cond b (not (S.turned w)) (S.turned w)) (F.dependency w)))
    same_wait true w = refl
    same_wait false w = refl

    agree : GraphsAgree (choice_plan G (turned_wait F S) (opens F S) xs) (graph F (after_turns S ws))
    agree = record {
      drones_agree = refl;
      lasts_agree = λ d l. refl;
      counts_agree = refl;
      waits_agree = λ w l. turned_plan G (turned_wait F S) (opens F S) xs best.is_choice.whole w l ∙ same_wait (turns w) w ∙ ap (λ (b : Bool). wait_unless (of_withdrawn F S w) (wait_of (in_force (cond b (not (S.turned w)) (S.turned w)) (F.dependency w)))) (sym (in_list w l));
    }

    choice-formed : Formed (choice_plan G (turned_wait F S) (opens F S) xs)
    choice-formed = plan_formed G (turned_wait F S) (opens F S) open_both xs

    pub list_acyclic : cyclic (graph F (after_turns S ws)) ≡ false
    list_acyclic = sym (cyclic_agree (choice_plan G (turned_wait F S) (opens F S) xs) (graph F (after_turns S ws)) agree (awaited_in _ choice-formed)) ∙ best.is_choice.sound

    pub list_cost : cost (graph F (after_turns S ws)) F.leg (place_of F S) ≡ least
    list_cost = sym (cost_agree (choice_plan G (turned_wait F S) (opens F S) xs) (graph F (after_turns S ws)) agree (awaited_in _ choice-formed) F.leg F.leg (λ d s l o h. refl) (place_of F S) (place_of F S) (λ d l. refl)) ∙ best.costs

    module _ (some : 0 < length ws) where
      passed : (j : ℕ) → j < length ws → Passes F S (at ws j)
      passed j l = passes F S (all_turnable (at ws j) (at_in ws j l))

      pub list_turned : turn_all_step L t ws ≡ acceptance (flipped_all t ws)
      list_turned = group_0 L t u.0 u.1 ws ((group_iff ws).1 (group some)) passed list_acyclic

      pub list_costs : cost_reply L (flipped_all t ws) ≡ costs least
      list_costs =
          let after : Usable L (flipped_all t ws) = turns_usable L t u.0 u.1 ws (group some) all_turnable list_acyclic in
          cost_0 L (flipped_all t ws) after.0 after.1
          ∙ ap (λ (z : Status). costs (cost (graph F z) F.leg (place_of F z))) (status_after L t u.0 u.1 ws ((group_iff ws).1 (group some)) passed)
          ∙ ap costs list_cost

    no_turns : length ws ≡ 0 → (w : ℕ) → is_in w ws ≡ false
    no_turns z w = by_cases (is_in w ws) (λ e. let (i, l, h) = in_at ws w e in absurd (omega arith)) (λ e. e)

    pub list_stands : length ws ≡ 0 → cost_reply L t ≡ costs least
    list_stands z =
        cost_0 L t u.0 u.1
        ∙ ap costs (cost_agree G (graph F (after_turns S ws)) (record { drones_agree = refl; lasts_agree = λ d l. refl; counts_agree = refl; waits_agree = λ w l. ap (λ (b : Bool). wait_unless (of_withdrawn F S w) (wait_of (in_force (cond b (not (S.turned w)) (S.turned w)) (F.dependency w)))) (sym (no_turns z w)) }) (awaited_in G (formed L t known)) F.leg F.leg (λ d s l o h. refl) (place_of F S) (place_of F S) (λ d l. refl) ∙ list_cost)

  -- ---- the call

  module _ (l : List ℕ) (budget : ℕ) (room : L.dependencies ≤ length l) (low : 1 ≤ budget) (high : budget ≤ most_budget) where
    budget_in_lem : budget_in budget ≡ true
    unfolding budget_in
    budget_in_lem = and_both _ _ (le-leb 1 budget low) (le-leb budget most_budget high)

    pub best_searches : best_order L t l budget ≡ best_by L F S l (reply_for (cycle_in t) (cost_in t) budget (open_in t))
    unfolding best_order
    best_searches = rw (u.0, le-leb L.dependencies (length l) room, u.1, budget_in_lem) refl

module _ (L : Limits) (t : Tables) where
  pub over_exactly : OverExactly L t
  over_exactly l budget (u, room, low, high) h = best_searches L t u l budget room low high ∙ ap (best_by L (plan_of t.plan) (status_in t) l) (reply_over (cycle_in t) (cost_in t) budget (open_in t) h)

  pub found_exactly : FoundExactly L t
  found_exactly l budget (u, room, low, high) h = go (right_reply L t u budget)
    where
      go : RightReply (cycle_in t) (cost_in t) budget (open_in t) → BestFound L t l budget
      go (inl (a, b)) = absurd (omega arith)
      go (inr (a, (least, xs, e, best))) =
          let q : best_order L t l budget ≡ best_by L (plan_of t.plan) (status_in t) l (found least xs (full_walk (cycle_in t) (cost_in t) (open_in t)).count) = best_searches L t u l budget room low high ∙ ap (best_by L (plan_of t.plan) (status_in t) l) e in
          record { choice = xs; least = least; cheapest_is = best; outcome_is = ap (λ (z : BestAnswer). z.outcome) q; list_is = ap (λ (z : BestAnswer). z.list) q }

  pub applies_to : AppliesTo L t
  applies_to u least xs best some = (ap (λ (z : Answer). z.reply) (list_turned L t u least xs best some), ap (λ (z : Answer). cost_reply L z.tables) (list_turned L t u least xs best some) ∙ list_costs L t u least xs best some)

  pub stands_as : StandsAs L t
  stands_as u least xs best z = list_stands L t u least xs best z

  pub previews_as : PreviewsAs L t
  unfolding preview_all
  previews_as u least xs best some now e = let (a, b) = applies_to u least xs best some in rw (a, b, e) refl

  -- ---- nothing is open, so nothing is turned

  none-listed : open_in t ≡ 0 → (xs : List Bool) → length (list_in t xs) ≡ 0
  unfolding to_turn
  none-listed z xs = length-picks turns (λ w. w) (plan_of t.plan).count ∙ count_zero (plan_of t.plan).count turns (λ w l. by_cases (turns w) (λ e. true_or_false (turned_open is_open_lem xs w e) (count_none (plan_of t.plan).count is_open_lem z w l)) (λ e. e))
    where
      is_open_lem : ℕ → Bool
      is_open_lem = opens (plan_of t.plan) (status_in t)

      turns : ℕ → Bool
      turns w = is_turned (direction_of (opens (plan_of t.plan) (status_in t)) xs w)

  module _ (u : Usable L t) (z : open_in t ≡ 0) where
    none-cyclic : cycle_in t [] ≡ false
    none-cyclic = subst (λ (k : ℕ). cycle_in t (all_left k) ≡ false) z (leaving_all (G L t u) (turned_wait (F L t u) (S L t u)) (opens (F L t u) (S L t u)) (open_both L t u).formed (known L t u).no_cycle)

    none-counted : (full_walk (cycle_in t) (cost_in t) (open_in t)).count ≡ 1
    none-counted = subst (λ (k : ℕ). (full_walk (cycle_in t) (cost_in t) k).count ≡ 1) (sym z) (nothing_open (cycle_in t) (cost_in t) none-cyclic).0

  pub nothing_to_choose : NothingToChoose L t
  nothing_to_choose l budget (u, room, low, high) z now e = go (found_exactly l budget (u, room, low, high) (omega (arith, none-counted u z)))
    where
      go : BestFound L t l budget → best_order L t l budget ≡ record { outcome = best_is now 0 1; list = turns_listed L l [] }
      go B =
          let none : length (list_in t B.choice) ≡ 0 = none-listed z B.choice in
          let stands : costs B.least ≡ costs now = sym (stands_as u B.least B.choice B.cheapest_is none) ∙ e in
          let same : B.least ≡ now = cc in
          ap₂ (λ (o : BestOutcome) (r : List ℕ). record { outcome = o; list = r })
          (B.outcome_is ∙ rw (same, none, none-counted u z) refl)
          (B.list_is ∙ ap (turns_listed L l) (empty_list (list_in t B.choice) none))
