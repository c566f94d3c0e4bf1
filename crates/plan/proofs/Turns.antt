-- The graph of an accepted plan, with some dependencies turned. Of two drones at one location the first is gone before the second comes, so planned times
-- rise along every edge and the planned graph has no cycle. Assumes nothing.
use mathlib.Core.Path.{◌≡◌, refl, ap, ap₂, ◌∙◌, fun_ext}
use mathlib.Core.Logic.{◌≢◌, inl, inr}
use mathlib.Core.Bool.{Bool, true, false, not}
use mathlib.Core.List.{List, [], ◌∷◌}
use Prim.Native.Nat.{ℕ, ◌<◌}
use native.Mathlib.Omega.{arith}
use lib.Dec.{eqb}
use borrow.Author.Tests.{eqb-true, eqb-false, ne_eqb}
use Rattle.below.specs.Below.{is_in}
use Rattle.below.proofs.Members.{in_head}
use Rattle.below.proofs.Tests.{by_cases, true_or_false, or_left, or_right}
use Rattle.precedence.specs.Graph.{Plan, Wait, FormedWait, Formed, cyclic, Cycle, Rising}
use Rattle.precedence.proofs.Visits.{rising_acyclic, acyclic_iff}
use Rattle.plan.specs.Field.{Dependency, FieldPlan, Status, as_planned, in_force, wait_of, wait_unless, flip_all, of_withdrawn, graph, fixed, GoneBefore, Checked, Meeting, AcceptedPlan}
use Rattle.plan.specs.Claims.{TurnRules, GroupRules, Unfixed, PlannedGraph}

-- ---- what a turn of a list changes

-- what holds either way of each dependency of the list and of every other as it was holds of all
pub flip_all_elim {ℓ} : (C : ℕ → Bool → Type ℓ) (t : ℕ → Bool) (ws : List ℕ) → ((w : ℕ) → is_in w ws ≡ true → (b : Bool) → C w b) → ((v : ℕ) → C v (t v)) → (v : ℕ) → C v (flip_all t ws v)
flip_all_elim C t ws h g v = by_cases (is_in v ws) (λ e. rw e (h v e (not (t v)))) (λ e. rw e (g v))

not-not : (b : Bool) → not (not b) ≡ b
not-not true = refl
not-not false = refl

flip_all_twice : (t : ℕ → Bool) (ws : List ℕ) (v : ℕ) → flip_all (flip_all t ws) ws v ≡ t v
flip_all_twice t ws v = by_cases (is_in v ws) (λ e. rw e (not-not (t v))) (λ e. rw e refl)

pub group_rules : (F : FieldPlan) (s : Status) (ws : List ℕ) → GroupRules F s ws
group_rules F s ws = record {
  turned_rules = λ w i o e. ap₂ (λ (x b : Bool). wait_unless x (wait_of (in_force b (F.dependency w)))) o (named w i ∙ ap not e);
  other_rules = λ v i. ap (λ (b : Bool). wait_unless (of_withdrawn F s v) (wait_of (in_force b (F.dependency v)))) (other v i);
  turned_twice = ap (λ (turned : ℕ → Bool). graph F (record { place = s.place; under_way = s.under_way; withdrawn = s.withdrawn; turned = turned })) (fun_ext (flip_all_twice s.turned ws));
}
  where
    named : (w : ℕ) → is_in w ws ≡ true → flip_all s.turned ws w ≡ not (s.turned w)
    named w i = rw i refl

    other : (v : ℕ) → is_in v ws ≡ false → flip_all s.turned ws v ≡ s.turned v
    other v i = rw i refl

-- one turn is the list of length one
pub turn_rules : (F : FieldPlan) (s : Status) (w : ℕ) → TurnRules F s w
unfolding is_in
turn_rules F s w =
    let g = group_rules F s (w ∷ []) in
    record {
      planned_rule = λ o e. ap₂ (λ (x b : Bool). wait_unless x (wait_of (in_force b (F.dependency w)))) o e;
      turned_rule = g.turned_rules w (in_head w []);
      other_rules = λ v n. g.other_rules v (ne_eqb v w n);
      turned_twice = g.turned_twice;
    }

-- ---- plans that pass the check

module _ (F : FieldPlan) (checked : Checked F) where
  -- of two drones at one location the one that is there first goes on before the other comes
  pub gone-before : (x : Dependency) → Meeting F x → GoneBefore F x.first x.first_stop x.second x.second_stop
  gone-before x m = elim (checked.no_collision x.first x.first_stop x.second x.second_stop m.first_in m.first_stop_in m.second_in m.second_stop_in m.different m.one_location) [
    | inl g ↦ g
    | inr g ↦ absurd (omega (arith, checked.rises x.second x.second_stop m.second_in g.goes_on, g.in_time, m.there_first))
  ]

-- a wait that is left out names the same stops
pub unless_formed : (P : Plan) (out : Bool) (w : Wait) → FormedWait P w → FormedWait P (wait_unless out w)
unless_formed P false w f = f
unless_formed P true w f = record { waiter_in = f.waiter_in; stop_pos = f.stop_pos; stop_in = f.stop_in; awaited_in = f.awaited_in; until_in = omega arith }

-- ---- accepted plans

module _ (F : FieldPlan) (accepted : AcceptedPlan F) where
  open F use {drones, last, location, time, count, dependency}

  -- the second comes from another stop
  pub second_comes : (x : Dependency) → Meeting F x → 0 < x.second_stop
  second_comes x m = by_cases (eqb x.second_stop 0)
      (λ e. let z : time x.second x.second_stop ≡ 0 = rw (eqb-true x.second_stop 0 e) (accepted.checked.starts x.second m.second_in) in absurd (omega (arith, (gone-before F accepted.checked x m).in_time)))
      (λ e. let n : x.second_stop ≢ 0 = eqb-false x.second_stop 0 e in omega arith)

  formed_either : (w : ℕ) → w < count → (b : Bool) → (b ≡ true → fixed F w ≡ false) → (s : Status) → FormedWait (graph F s) (wait_of (in_force b (dependency w)))
  formed_either w l false u s =
      let m : Meeting F (dependency w) = accepted.each w l in
      record { waiter_in = m.second_in; stop_pos = second_comes (dependency w) m; stop_in = m.second_stop_in; awaited_in = m.first_in; until_in = (gone-before F accepted.checked (dependency w) m).goes_on }
  formed_either w l true u s =
      let m : Meeting F (dependency w) = accepted.each w l in
      let f : fixed F w ≡ false = u refl in
      let z : (dependency w).first_stop ≢ 0 = eqb-false _ _ (or_left _ _ f) in
      let n : (dependency w).second_stop ≢ last (dependency w).second = eqb-false _ _ (or_right (eqb (dependency w).first_stop 0) _ f) in
      record { waiter_in = m.first_in; stop_pos = omega arith; stop_in = m.first_stop_in; awaited_in = m.second_in; until_in = omega (arith, m.second_stop_in) }

  pub graph-formed : (s : Status) → Unfixed F s → Formed (graph F s)
  graph-formed s u w l = unless_formed (graph F s) (of_withdrawn F s w) _ (formed_either w l (s.turned w) (u w l) s)

  pub none_unfixed : Unfixed F as_planned
  none_unfixed w l e = true_or_false e refl

  -- planned times rise along every edge
  pub planned_rising : Rising (graph F as_planned) time
  planned_rising = record { own_rises = accepted.checked.rises; wait_rises = λ w l. (gone-before F accepted.checked (dependency w) (accepted.each w l)).in_time }

  pub planned_no_cycle : Cycle (graph F as_planned) → ⊥
  planned_no_cycle = rising_acyclic (graph F as_planned) planned_rising

  pub planned-acyclic : cyclic (graph F as_planned) ≡ false
  planned-acyclic = (acyclic_iff (graph F as_planned) (graph-formed as_planned none_unfixed)).1 planned_no_cycle

  pub planned_graph : PlannedGraph F
  planned_graph = record { formed = graph-formed; no_cycle = planned_no_cycle; acyclic = planned-acyclic }
