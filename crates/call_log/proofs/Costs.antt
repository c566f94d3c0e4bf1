-- The cost: a sum of longest chains, each with no more legs than there are, none longer than the longest of the plan's form, to the unvisited stops, of which there are at
-- most all stops but the first ones. Assumes nothing.
use mathlib.Core.Path.{◌≡◌, refl, ap, subst, sym, ◌∙◌}
use mathlib.Core.Bool.{Bool, true, false, cond}
use Prim.Native.Nat.{ℕ, zero, suc, ◌+◌, ◌-◌, ◌*◌, ◌≤◌, ◌<◌}
use native.Mathlib.Nat.{mul_comm, mul_assoc, mul-add, add-mul, mul-le-mul_left, le_trans}
use native.Mathlib.Omega.{arith}
use borrow.Author.Tests.{leb-true, le-leb}
use Rattle.below.specs.Below.{at, sum_below}
use Rattle.below.proofs.Sum.{sum_mono}
use Rattle.below.proofs.Every.{all_below-at}
use Rattle.tables.specs.Limits.{Limits, limits}
use Rattle.tables.specs.Legs.{longest_leg}
use Rattle.tables.specs.Tables.{PlanLists, Tables, drones, form_of, full_size}
use Rattle.precedence.specs.Graph.{Plan, Formed, Cycle, Kept, Longest, unvisited, legs_left, remaining, cost, NoEmptyLeg, Table, reached}
use Rattle.precedence.proofs.Visits.{acyclic_iff}
use Rattle.precedence.proofs.Legs.{cost-bound, legs_bound, longest_chain, remaining-none, reached-table}
use Rattle.plan.specs.Stops.{start}
use Rattle.plan.specs.Claims.{HaveStops}
use Rattle.plan.proofs.Turns.{graph-formed}
use Rattle.plan.specs.Field.{FieldPlan, plan_of, of_withdrawn, graph, place_of, Status}
use Rattle.plan.specs.Status.{status_in, dependency_now, waits_kept}
use Rattle.sound.specs.Sound.{sound}
use Rattle.call_log.specs.Calls.{CostOutcome, costs, cost_refused, cost_reply}
use Rattle.call_log.specs.Claims.{CostMeans, greatest_cost, CostBounded, CostLimit, PlainCostLimit}
use Rattle.sound.proofs.Clauses.{Sound, sound-says}
use Rattle.call_log.proofs.SoundParts.{drones_in, stops_in_lem, have_stops, legs_short, longest_leg_lem, longest_plain, accepted_plan}
use Rattle.call_log.proofs.Exactly.{unfixed_says}
use Rattle.call_log.proofs.Checks.{others_now, place_counts}
use Rattle.call_log.proofs.SameStatus.{no_empty_leg}

-- ---- the bound

-- n numbers that are not 0, each less one
sum_less_one : (n : ℕ) (f : ℕ → ℕ) → ((i : ℕ) → i < n → 1 ≤ f i) → sum_below n (λ i. f i - 1) + n ≡ sum_below n f
unfolding sum_below
sum_less_one zero f h = refl
sum_less_one (suc n) f h = omega (arith, sum_less_one n f (λ i l. h i (omega arith)), h n (omega arith))

-- the unvisited stops and the first ones are no more than all
unvisited_stops : (p : PlanLists) (s : Status) (place : ℕ → ℕ) → HaveStops p → unvisited (graph (plan_of p) s) place + drones p ≤ start p.stop_counts (drones p)
unfolding unvisited start
unvisited_stops p s place have = omega (arith, sum_mono (drones p) (λ d. at p.stop_counts d - 1 - place d) (λ d. at p.stop_counts d - 1) (λ d l. omega arith), sum_less_one (drones p) (at p.stop_counts) have)

-- a drone in place of a stop makes the product no less, as long as there are as many stops besides
more-drones : (d k m : ℕ) → d ≤ m → d * (m + k) ≤ (d + k) * m
more-drones d k m h = let less : k * d ≤ k * m = mul-le-mul_left k h in omega (arith, mul-add d m k, add-mul d k m, mul_comm d k)

-- d drones and n stops at most, of them D drones
drones-bound : (D u d n : ℕ) → D ≤ d → 2 * d ≤ n → u + D ≤ n → D * u ≤ d * (n - d)
drones-bound D u d n a b c =
    let most : D * u ≤ D * ((n - d) + (d - D)) = mul-le-mul_left D (omega arith) in
    let same : D + (d - D) ≡ d = omega arith in
    le_trans most (subst (λ (x : ℕ). D * ((n - d) + (d - D)) ≤ x * (n - d)) same (more-drones D (d - D) (n - d) (omega arith)))

module _ (L : Limits) (t : Tables) where
  abbrev F : FieldPlan
  F = plan_of t.plan

  abbrev S : Status
  S = status_in t

  abbrev G : Plan
  G = graph F S

  -- the cost of a reply
  abbrev cost_in : CostOutcome → ℕ
  cost_in (costs n) = n
  cost_in (cost_refused n) = 0

  sound-bound : Sound L t → 2 * L.drones ≤ L.stops → cost G F.leg (place_of F S) ≤ greatest_cost L (form_of t.plan)
  sound-bound s h =
      let g : ℕ = longest_leg L (form_of t.plan) in
      let u : ℕ = unvisited G (place_of F S) in
      let stops : u + drones t.plan ≤ start t.plan.stop_counts (drones t.plan) = unvisited_stops t.plan S (place_of F S) (have_stops L t.plan s.accepted) in
      let swapped : drones t.plan * (g * u) ≡ g * (drones t.plan * u) = sym (mul_assoc (drones t.plan) g u) ∙ ap (λ (x : ℕ). x * u) (mul_comm (drones t.plan) g) ∙ mul_assoc g (drones t.plan) u in
      let each : legs_left G F.leg (place_of F S) ≤ g * u = legs_bound G F.leg g (place_of F S) (legs_short L t.plan s.accepted) in
      let all : drones t.plan * (g * u) ≤ greatest_cost L (form_of t.plan) = rw swapped (mul-le-mul_left g (drones-bound (drones t.plan) u L.drones L.stops (drones_in L t.plan s.accepted) h (omega (arith, stops_in_lem L t.plan s.accepted)))) in
      le_trans (cost-bound G F.leg (place_of F S)) (le_trans (mul-le-mul_left (drones t.plan) each) all)

  pub reply_bound : (n : ℕ) → 2 * L.drones ≤ L.stops → cost_reply L t ≡ costs n → n ≤ greatest_cost L (form_of t.plan)
  unfolding cost_reply
  reply_bound n h e = go (full_size L t) (sound L t) refl e
    where
      go : (a b : Bool) → sound L t ≡ b → cond a (cond b (costs (cost G F.leg (place_of F S))) (cost_refused 40)) (cost_refused 41) ≡ costs n → n ≤ greatest_cost L (form_of t.plan)
      go true true s e = omega (arith, ap cost_in e, sound-bound (sound-says L t s) h)
      go true false s e = omega (arith, ap cost_in e)
      go false b s e = omega (arith, ap cost_in e)

  -- ---- chains

  pub kept : waits_kept F S ≡ true → Kept G (place_of F S)
  unfolding waits_kept
  kept k w l h = go (of_withdrawn F S w) refl
    where
      go : (out : Bool) → of_withdrawn F S w ≡ out → cond out 0 (suc (dependency_now F S w).first_stop) ≤ place_of F S (G.wait w).awaited
      go true o = omega arith
      go false o =
          let (a, b) = others_now F S w o in
          let entered-stop : (G.wait w).stop ≤ S.place (G.wait w).waiter = subst (λ (n : ℕ). (G.wait w).stop ≤ n) (place_counts F S (G.wait w).waiter b) h in
          let met : (G.wait w).until ≤ S.place (G.wait w).awaited = leb-true _ _ (rw (le-leb (G.wait w).stop (S.place (G.wait w).waiter) entered-stop) at (all_below-at F.count _ k w l)) in
          subst (λ (n : ℕ). suc (dependency_now F S w).first_stop ≤ n) (sym (place_counts F S (G.wait w).awaited a)) (subst (λ (out : Bool). cond out 0 (suc (dependency_now F S w).first_stop) ≤ S.place (G.wait w).awaited) o met)

  module _ (s : Sound L t) where
    pub formed : Formed G
    formed = graph-formed F (accepted_plan L t.plan s.accepted s.dependencies_own) S (unfixed_says F S s.fixed_unturned_lem)

    pub acyclic : Cycle G → ⊥
    acyclic = (acyclic_iff G formed).0 s.no_cycle

    pub flies : NoEmptyLeg G F.leg (place_of F S)
    flies = no_empty_leg F (accepted_plan L t.plan s.accepted s.dependencies_own) S (place_of F S)

    in_table : Table G F.leg (place_of F S) (reached G F.leg (place_of F S))
    in_table = reached-table G F.leg formed acyclic (place_of F S) flies

    longest : (d : ℕ) → d < F.drones → place_of F S d < F.last d → Longest G F.leg (place_of F S) d (remaining G F.leg (place_of F S) d)
    longest = longest_chain G F.leg formed acyclic (place_of F S) flies

    none_left_lem : (d : ℕ) → d < F.drones → F.last d ≤ place_of F S d → remaining G F.leg (place_of F S) d ≡ 0
    none_left_lem = remaining-none G F.leg formed acyclic (place_of F S) flies

  pub cost_means : CostMeans L t
  unfolding cost_reply cost
  cost_means = record {
    is_reached = λ (f, s). in_table (sound-says L t s);
    is_sum = λ (f, s). rw (f, s) refl;
    is_longest = λ (f, s). longest (sound-says L t s);
    is_none = λ (f, s). none_left_lem (sound-says L t s);
    none_withdrawn = λ (f, s) d l x. none_left_lem (sound-says L t s) d l (let there : place_of F S d ≡ F.last d = ap (λ (b : Bool). cond b (F.last d) (S.place d)) x in omega (arith, there));
  }

pub cost_bounded : CostBounded
cost_bounded L t n h e = reply_bound L t n h e

pub cost_limit : CostLimit
cost_limit t n e = omega (arith, cost_bounded limits t n (omega arith) e, longest_leg_lem limits (form_of t.plan) (omega arith))

pub plain_cost_limit : PlainCostLimit
plain_cost_limit t n q e = omega (arith, rw (longest_plain limits (form_of t.plan) q) at (cost_bounded limits t n (omega arith) e))
