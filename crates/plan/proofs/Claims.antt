-- The claims of the crate, proved. Assumes nothing.
use mathlib.Core.Path.{◌≡◌, sym, ◌∙◌, subst}
use mathlib.Core.Logic.{◌≢◌, inl, inr, ◌↔◌}
use mathlib.Core.Bool.{true}
use Prim.Native.Nat.{ℕ, ◌≤◌, ◌<◌}
use native.Mathlib.Omega.{arith}
use lib.Dec.{ltb}
use borrow.Author.Tests.{ltb-true, ltb-false, eqb-true, eq-eqb}
use Rattle.below.proofs.Tests.{by_cases}
use Rattle.tables.specs.Tables.{PlanLists}
use Rattle.plan.specs.Check.{partner}
use Rattle.plan.specs.Field.{Dependency, FieldPlan, before, GoneBefore, Meeting, AcceptedPlan}
use Rattle.plan.specs.Claims.{stop_total, visits_in, HaveStops, NoCollision, collider_in, Reported, AcceptedClaims, Between, OneDependency, GraphClaims}
use Rattle.plan.proofs.Conditions.{apart_search, collider_first, collider-least}
use Rattle.plan.proofs.Turns.{turn_rules, group_rules, planned_graph}
use Rattle.plan.proofs.Withdrawals.{withdrawal_rules}
use Rattle.plan.proofs.Accepted.{pair_order, stops_numbered, taken_exactly, accepted, accepted-flies, right_flag}
use Rattle.plan.proofs.Exact.{before_asym, holds_planned}

-- ---- the collision that is reported

module _ (p : PlanLists) where
  reported_exactly : NoCollision p ↔ (collider_in p ≡ stop_total p)
  reported_exactly = (λ a. eqb-true _ _ (sym (apart_search (visits_in p)) ∙ a), λ e. apart_search (visits_in p) ∙ eq-eqb _ _ e)

  reported : HaveStops p → collider_in p < stop_total p → Reported p (collider_in p) (partner (visits_in p) (collider_in p))
  reported have l =
      let (m, e) = collider_first (visits_in p) l in
      record {
        first_in = l;
        second_in = m;
        collision = e;
        lowest = λ x y a b c. elim (collider-least (visits_in p) x y a b c) [
          | inl q ↦ inl q
          | inr q ↦ inr (pair_order (stops_numbered p have) (collider_in p) (partner (visits_in p) (collider_in p)) x y l m a b q)
        ];
      }

pub accepted_claims : AcceptedClaims
accepted_claims = record {
  taken_exactly = taken_exactly;
  accepted_exactly = λ p have. (λ (e, a, holds, fly). accepted p have holds e a fly, λ A. let (e, a) = (taken_exactly p have).1 A.checked in (e, a, holds_planned p have A, accepted-flies p have A));
  reported_exactly = reported_exactly;
  reported = reported;
  right_flags = right_flag;
}

-- ---- the graph

module _ (F : FieldPlan) (accepted : AcceptedPlan F) where
  open F use {drones, last, location, meets, count, dependency}

  -- no two entries of the table are equal
  entry_once : (v w : ℕ) → v < count → w < count → dependency v ≡ dependency w → v ≡ w
  entry_once v w l k e = by_cases (ltb v w)
      (λ h. absurd (twice v w k e (ltb-true _ _ h)))
      (λ h. by_cases (ltb w v) (λ g. absurd (twice w v l (sym e) (ltb-true _ _ g))) (λ g. omega (arith, ltb-false v w h, ltb-false w v g)))
    where
      twice : (v w : ℕ) → w < count → dependency v ≡ dependency w → v < w → ⊥
      twice v w k e h = let o : before (dependency w) (dependency w) ≡ true = subst (λ (x : Dependency). before x (dependency w) ≡ true) e (accepted.ordered v w h k) in before_asym (dependency w) (dependency w) o o

  -- the one that is there first is gone before the other comes, so the other way round there is no dependency
  first_goes : (d s e k : ℕ) → d < drones → s ≤ last d → e < drones → k ≤ last e → d ≢ e → meets (location d s) (location e k) ≡ true → GoneBefore F d s e k → OneDependency F d s e k
  first_goes d s e k x m y o ne q g =
      let early : F.time d s < F.time e k = omega (arith, accepted.checked.rises d s x g.goes_on, g.in_time) in
      let (w, l, same) = accepted.every (record { first = d; first_stop = s; second = e; second_stop = k }) (record { first_in = x; first_stop_in = m; second_in = y; second_stop_in = o; different = ne; one_location = q; there_first = omega arith }) in
      record {
        index = w;
        index_in = l;
        is_theirs = inl same;
        no_other = λ v h b. elim b [
          | inl z ↦ entry_once v w h l (z ∙ sym same)
          | inr z ↦ absurd (omega (arith, early, (subst (Meeting F) z (accepted.each v h)).there_first))
        ];
      }

  one_dependency : (d s e k : ℕ) → d < drones → s ≤ last d → e < drones → k ≤ last e → d ≢ e → meets (location d s) (location e k) ≡ true → OneDependency F d s e k
  one_dependency d s e k x m y o ne q = elim (accepted.checked.no_collision d s e k x m y o ne q) [
    | inl g ↦ first_goes d s e k x m y o ne q g
    | inr g ↦ other_way (first_goes e k d s y o x m (λ z. ne (sym z)) (accepted.checked.symmetric _ _ q) g)
  ]
    where
      turn : {x : Dependency} → Between F d s e k x → Between F e k d s x
      turn b = elim b [ inl z ↦ inr z | inr z ↦ inl z ]

      back : {x : Dependency} → Between F e k d s x → Between F d s e k x
      back b = elim b [ inl z ↦ inr z | inr z ↦ inl z ]

      other_way : OneDependency F e k d s → OneDependency F d s e k
      other_way r = record { index = r.index; index_in = r.index_in; is_theirs = back r.is_theirs; no_other = λ w l b. r.no_other w l (turn b) }

pub graph_claims : GraphClaims
graph_claims = record { one_dependency = one_dependency; turn_rules = turn_rules; group_rules = group_rules; withdrawal_rules = withdrawal_rules; planned_graph = planned_graph }
