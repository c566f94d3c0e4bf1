-- Plans that agree, with statuses that agree on their drones and dependencies, get the same replies and pass the same clauses of "sound": neither looks at anything else. Assumes nothing.
use mathlib.Core.Path.{◌≡◌, refl, sym, ap, ap₂, ◌∙◌}
use mathlib.Core.Bool.{Bool, true, false, not, cond, ◌&&◌, ◌||◌}
use mathlib.Core.List.{List, [], ◌∷◌}
use Prim.Native.Nat.{ℕ, zero, suc, ◌<◌}
use native.Mathlib.Omega.{arith}
use lib.Dec.{eqb, leb}
use borrow.Author.Tests.{leb-false}
use Rattle.below.specs.Below.{is_in}
use Rattle.below.proofs.Every.{all_below-same}
use Rattle.precedence.specs.Graph.{cyclic, NoEmptyLeg}
use Rattle.precedence.proofs.Agreement.{GraphsAgree, AwaitedIn, SameLegs, lowest_agree, cyclic_agree}
use Rattle.plan.specs.Field.{Dependency, FieldPlan, in_force, wait_of, wait_unless, flip_all, of_withdrawn, graph, place_of, fixed, AcceptedPlan, PlansAgree, Status, after_turns}
use Rattle.plan.specs.Status.{entered, unmet, dependency_now, fixed_unturned, within_stops, waits_kept}
use Rattle.call_log.specs.CallLog.{Call, grant, arrive, withdraw, turn, turn_all, Reply, refused, Check, when, first_that_holds, is_group, walked_rows, reply_in}
use Rattle.call_log.specs.Demand.{Agree}
use Rattle.call_log.proofs.Checks.{one_reply}

pub plans_self : (F : FieldPlan) → PlansAgree F F
plans_self F = record { drones_agree = refl; lasts_agree = λ d l. refl; locations_agree = λ d s l h. refl; times_agree = λ d s l h. refl; legs_agree = λ d s l h. refl; meets_agree = λ a b. refl; counts_agree = refl; dependencies_agree = λ w l. refl }

-- two statuses are the same on every drone, the withdrawn ones included, and every dependency of the plan
pub record Same (F : FieldPlan) (s s' : Status) : Type 0 where
  pub marks : (d : ℕ) → d < F.drones → s.withdrawn d ≡ s'.withdrawn d
  pub places : (d : ℕ) → d < F.drones → s.place d ≡ s'.place d
  pub under_ways : (d : ℕ) → d < F.drones → s.under_way d ≡ s'.under_way d
  pub turns : (w : ℕ) → w < F.count → s.turned w ≡ s'.turned w

pub same_self : (F : FieldPlan) (s : Status) → Same F s s
same_self F s = record { marks = λ d l. refl; places = λ d l. refl; under_ways = λ d l. refl; turns = λ w l. refl }

pub same_agree : (F : FieldPlan) (s s' : Status) → Same F s s' → Agree F s s'
same_agree F s s' a = record { marks = a.marks; places = λ d l x. a.places d l; under_ways = λ d l x. a.under_ways d l; turns = a.turns }

-- where drones count as standing, statuses that agree say the same
pub counts_same : (F : FieldPlan) (s s' : Status) → Agree F s s' → (d : ℕ) → d < F.drones → place_of F s d ≡ place_of F s' d
counts_same F s s' a d l = ap (λ (b : Bool). cond b (F.last d) (s.place d)) (a.marks d l) ∙ go (s'.withdrawn d) refl
  where
    go : (b : Bool) → s'.withdrawn d ≡ b → cond b (F.last d) (s.place d) ≡ cond b (F.last d) (s'.place d)
    go true e = refl
    go false e = a.places d l e

-- plans that agree have the same legs, whatever the order in force
pub legs_same : (F G : FieldPlan) → PlansAgree F G → (s : Status) → SameLegs (graph F s) F.leg G.leg
legs_same F G plans s d k l o h = plans.legs_agree d k l h

-- an accepted plan has no empty leg
pub no_empty_leg : (F : FieldPlan) → AcceptedPlan F → (s : Status) (p : ℕ → ℕ) → NoEmptyLeg (graph F s) F.leg p
no_empty_leg F accepted s p d zero l o h = absurd (omega arith)
no_empty_leg F accepted s p d (suc k) l o h = accepted.flies d k l h

-- both drones of a dependency are the plan's
module _ (F : FieldPlan) (accepted : AcceptedPlan F) where
  first_in : (w : ℕ) → w < F.count → (b : Bool) → (in_force b (F.dependency w)).first < F.drones
  first_in w l true = (accepted.each w l).second_in
  first_in w l false = (accepted.each w l).first_in

  second_in : (w : ℕ) → w < F.count → (b : Bool) → (in_force b (F.dependency w)).second < F.drones
  second_in w l true = (accepted.each w l).first_in
  second_in w l false = (accepted.each w l).second_in

  pub graph_in : (s : Status) → AwaitedIn (graph F s)
  graph_in s w l = first_in w l (s.turned w)

-- ---- plans that agree

module _ (F G : FieldPlan) (plans : PlansAgree F G) (accepted : AcceptedPlan F) (s s' : Status) (marks : (d : ℕ) → d < F.drones → s.withdrawn d ≡ s'.withdrawn d) where
  pub aside_same : (w : ℕ) → w < F.count → of_withdrawn F s w ≡ of_withdrawn G s' w
  aside_same w l =
      ap₂ (λ (a b : Bool). a || b) (marks (F.dependency w).first (first_in F accepted w l false)) (marks (F.dependency w).second (second_in F accepted w l false))
      ∙ ap (λ (x : Dependency). s'.withdrawn x.first || s'.withdrawn x.second) (plans.dependencies_agree w l)

  -- their graphs agree in one order in force, the same drones withdrawn
  pub graphs_agree : ((w : ℕ) → w < F.count → s.turned w ≡ s'.turned w) → GraphsAgree (graph F s) (graph G s')
  graphs_agree same = record {
    drones_agree = plans.drones_agree;
    lasts_agree = plans.lasts_agree;
    counts_agree = plans.counts_agree;
    waits_agree = λ w l.
        ap (λ (o : Bool). wait_unless o (wait_of (in_force (s.turned w) (F.dependency w)))) (aside_same w l)
        ∙ ap₂ (λ (b : Bool) (x : Dependency). wait_unless (of_withdrawn G s' w) (wait_of (in_force b x))) (same w l) (plans.dependencies_agree w l);
  }

module _ (F G : FieldPlan) (plans : PlansAgree F G) (accepted : AcceptedPlan F) where
  pub fixed_same : (w : ℕ) → w < F.count → fixed F w ≡ fixed G w
  fixed_same w l =
      ap (λ (n : ℕ). eqb (F.dependency w).first_stop 0 || eqb (F.dependency w).second_stop n) (plans.lasts_agree (F.dependency w).second (second_in F accepted w l false))
      ∙ ap (λ (x : Dependency). eqb x.first_stop 0 || eqb x.second_stop (G.last x.second)) (plans.dependencies_agree w l)

-- ---- .. and statuses that agree

module _ (F G : FieldPlan) (plans : PlansAgree F G) (accepted : AcceptedPlan F) (s s' : Status) (agree : Same F s s') where
  now_same : (w : ℕ) → w < F.count → dependency_now F s w ≡ dependency_now G s' w
  now_same w l = ap₂ (λ (b : Bool) (x : Dependency). in_force b x) (agree.turns w l) (plans.dependencies_agree w l)

  entered-same : (d k : ℕ) → d < F.drones → entered F s d k ≡ entered G s' d k
  entered-same d k l = ap₂ (λ (p : ℕ) (u : Bool). leb k p || u && eqb k (suc p)) (agree.places d l) (agree.under_ways d l)

  entered_first : (w : ℕ) → w < F.count → entered F s (dependency_now F s w).first (dependency_now F s w).first_stop ≡ entered G s' (dependency_now G s' w).first (dependency_now G s' w).first_stop
  entered_first w l = entered-same (dependency_now F s w).first (dependency_now F s w).first_stop (first_in F accepted w l (s.turned w)) ∙ ap (λ (x : Dependency). entered G s' x.first x.first_stop) (now_same w l)

  entered_second : (w : ℕ) → w < F.count → entered F s (dependency_now F s w).second (dependency_now F s w).second_stop ≡ entered G s' (dependency_now G s' w).second (dependency_now G s' w).second_stop
  entered_second w l = entered-same (dependency_now F s w).second (dependency_now F s w).second_stop (second_in F accepted w l (s.turned w)) ∙ ap (λ (x : Dependency). entered G s' x.second x.second_stop) (now_same w l)

  unmet-same : (d : ℕ) → d < F.drones → unmet F s d ≡ unmet G s' d
  unmet-same d l = lowest_agree (graph F s) (graph G s') (graphs_agree F G plans accepted s s' agree.marks agree.turns) (graph_in F accepted s) s.place s'.place agree.places d l

  flip_all-same : (ws : List ℕ) (v : ℕ) → v < F.count → flip_all s.turned ws v ≡ flip_all s'.turned ws v
  flip_all-same ws v l = ap (λ (b : Bool). cond (is_in v ws) (not b) b) (agree.turns v l)

  grant-same : (d : ℕ) → (b : Bool) → leb F.drones d ≡ b → reply_in F s (grant d) ≡ reply_in G s' (grant d)
  unfolding reply_in
  grant-same d true e = rw (← plans.drones_agree, e) refl
  grant-same d false e = let l = leb-false F.drones d e in rw (agree.marks d l, agree.places d l, agree.under_ways d l, unmet-same d l, plans.lasts_agree d l, plans.drones_agree, plans.counts_agree) refl

  arrive_same : (d : ℕ) → (b : Bool) → leb F.drones d ≡ b → reply_in F s (arrive d) ≡ reply_in G s' (arrive d)
  unfolding reply_in
  arrive_same d true e = rw (← plans.drones_agree, e) refl
  arrive_same d false e = let l = leb-false F.drones d e in rw (agree.marks d l, agree.under_ways d l, plans.drones_agree) refl

  withdraw-same : (d : ℕ) → (b : Bool) → leb F.drones d ≡ b → reply_in F s (withdraw d) ≡ reply_in G s' (withdraw d)
  unfolding reply_in
  withdraw-same d true e = rw (← plans.drones_agree, e) refl
  withdraw-same d false e = rw (agree.marks d (leb-false F.drones d e), plans.drones_agree) refl

  walk_same : (ws : List ℕ) (after after' : List Check) → first_that_holds after ≡ first_that_holds after' → first_that_holds (walked_rows F s ws after) ≡ first_that_holds (walked_rows G s' ws after')
  walk_same [] after after' h = h
  walk_same (w ∷ ws) after after' h = go (leb F.count w) refl (walk_same ws after after' h)
    where
      go : (b : Bool) → leb F.count w ≡ b → first_that_holds (walked_rows F s ws after) ≡ first_that_holds (walked_rows G s' ws after') → first_that_holds (walked_rows F s (w ∷ ws) after) ≡ first_that_holds (walked_rows G s' (w ∷ ws) after')
      go true e k = rw (← plans.counts_agree, e) refl
      go false e k =
          let l : w < F.count = leb-false F.count w e in
          ap₂ (λ (n : ℕ) (o : Bool). elim (leb n w) [ true ↦ refused 30 | false ↦ elim o [ true ↦ refused 35 | false ↦ elim (fixed F w) [ true ↦ refused 31 | false ↦ elim (entered F s (dependency_now F s w).first (dependency_now F s w).first_stop) [ true ↦ refused 32 | false ↦ first_that_holds (walked_rows F s ws after) ] ] ] ]) plans.counts_agree (aside_same F G plans accepted s s' agree.marks w l)
          ∙ ap (λ (b : Bool). elim (leb G.count w) [ true ↦ refused 30 | false ↦ elim (of_withdrawn G s' w) [ true ↦ refused 35 | false ↦ elim b [ true ↦ refused 31 | false ↦ elim (entered F s (dependency_now F s w).first (dependency_now F s w).first_stop) [ true ↦ refused 32 | false ↦ first_that_holds (walked_rows F s ws after) ] ] ] ]) (fixed_same F G plans accepted w l)
          ∙ ap₂ (λ (b : Bool) (r : Reply). elim (leb G.count w) [ true ↦ refused 30 | false ↦ elim (of_withdrawn G s' w) [ true ↦ refused 35 | false ↦ elim (fixed G w) [ true ↦ refused 31 | false ↦ elim b [ true ↦ refused 32 | false ↦ r ] ] ] ]) (entered_first w l) k

  group_same : (ws : List ℕ) → reply_in F s (turn_all ws) ≡ reply_in G s' (turn_all ws)
  unfolding reply_in
  group_same ws = ap (λ (r : Reply). elim (not (is_group ws)) [ true ↦ refused 36 | false ↦ r ])
      (walk_same ws _ _ (ap (λ (b : Bool). first_that_holds (when b (refused 34) ∷ []))
      (cyclic_agree (graph F (after_turns s ws)) (graph G (after_turns s' ws)) (graphs_agree F G plans accepted (after_turns s ws) (after_turns s' ws) agree.marks (flip_all-same ws)) (graph_in F accepted (after_turns s ws)))))

  pub reply_agrees : (c : Call) → reply_in F s c ≡ reply_in G s' c
  reply_agrees (grant d) = grant-same d (leb F.drones d) refl
  reply_agrees (arrive d) = arrive_same d (leb F.drones d) refl
  reply_agrees (withdraw d) = withdraw-same d (leb F.drones d) refl
  reply_agrees (turn w) = one_reply F s w ∙ group_same (w ∷ []) ∙ sym (one_reply G s' w)
  reply_agrees (turn_all ws) = group_same ws

  -- ---- the clauses of "sound"

  pub unturned_agrees : fixed_unturned F s ≡ fixed_unturned G s'
  unfolding fixed_unturned
  unturned_agrees = all_below-same F.count G.count _ _ plans.counts_agree (λ w l. ap₂ (λ (a b : Bool). not (a && b)) (agree.turns w l) (fixed_same F G plans accepted w l))

  pub within-agrees : within_stops F s ≡ within_stops G s'
  unfolding within_stops
  within-agrees = all_below-same F.drones G.drones _ _ plans.drones_agree (λ d l i. leb (agree.places d l i) (plans.lasts_agree d l i) && not (agree.under_ways d l i && leb (plans.lasts_agree d l i) (agree.places d l i)))

  pub waits_agree : waits_kept F s ≡ waits_kept G s'
  unfolding waits_kept
  waits_agree = all_below-same F.count G.count _ _ plans.counts_agree (λ w l.
      ap₂ (λ (e : Bool) (p : ℕ). not e || leb (cond (of_withdrawn F s w) 0 (suc (dependency_now F s w).first_stop)) p) (entered_second w l) (agree.places (dependency_now F s w).first (first_in F accepted w l (s.turned w)))
      ∙ ap₂ (λ (o : Bool) (x : Dependency). not (entered G s' (dependency_now G s' w).second (dependency_now G s' w).second_stop) || leb (cond o 0 (suc x.first_stop)) (s'.place x.first)) (aside_same F G plans accepted s s' agree.marks w l) (now_same w l))

-- ---- one plan

module _ (F : FieldPlan) (accepted : AcceptedPlan F) (s s' : Status) (agree : Same F s s') where
  pub reply_same : (c : Call) → reply_in F s c ≡ reply_in F s' c
  reply_same = reply_agrees F F (plans_self F) accepted s s' agree

  pub cyclic-same : cyclic (graph F s) ≡ cyclic (graph F s')
  cyclic-same = cyclic_agree (graph F s) (graph F s') (graphs_agree F F (plans_self F) accepted s s' agree.marks agree.turns) (graph_in F accepted s)

  pub unturned_same : fixed_unturned F s ≡ fixed_unturned F s'
  unturned_same = unturned_agrees F F (plans_self F) accepted s s' agree

  pub within_same : within_stops F s ≡ within_stops F s'
  within_same = within-agrees F F (plans_self F) accepted s s' agree

  pub waits_same : waits_kept F s ≡ waits_kept F s'
  waits_same = waits_agree F F (plans_self F) accepted s s' agree
