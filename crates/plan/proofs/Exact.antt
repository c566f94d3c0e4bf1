-- The table of an accepted plan holds exactly the planned columns: its pairs of stops rise, each of them is listed, and every listed pair has an entry, so there
-- are as many, and each stands at its rank. Assumes nothing.
use mathlib.Core.Path.{◌≡◌, sym, ◌∙◌, subst}
use mathlib.Core.Logic.{inl, inr}
use mathlib.Core.Bool.{Bool, true, ◌&&◌, ◌||◌}
use Prim.Native.Nat.{ℕ, suc, ◌+◌, ◌≤◌, ◌<◌}
use native.Mathlib.Omega.{arith}
use lib.Dec.{ltb, eqb}
use borrow.Author.Tests.{ltb-true, ltb-false, eqb-true, eq-eqb}
use Rattle.below.specs.Below.{first_below, at, rank, pair_before}
use Rattle.below.proofs.Tests.{by_cases, and_left, and_right}
use Rattle.below.proofs.Search.{first_below_first, first_low}
use Rattle.below.proofs.Pairs.{before-not, rank_find, rank_rises, rising_fit, Climbs, climbs_few, climbs_all}
use Rattle.tables.specs.Tables.{PlanLists}
use Rattle.plan.specs.Visits.{Visits}
use Rattle.plan.specs.Dependencies.{follows, dependency_total, column}
use Rattle.plan.specs.Field.{Dependency, FieldPlan, before, Meeting, AcceptedPlan, plan_of}
use Rattle.plan.specs.Claims.{Numbered, pair, leg_in, visits_in, HaveStops, HoldsPlanned}
use Rattle.plan.proofs.Accepted.{plan, meeting_if, meeting_follows, pair_place, pair_order, stops_numbered}

-- ---- no two dependencies come before each other

key_asym : (a b : ℕ) (r s : Bool) → ltb a b || eqb a b && r ≡ true → ltb b a || eqb b a && s ≡ true → (r ≡ true) × (s ≡ true)
key_asym a b r s x y = by_cases (ltb a b)
    (λ l. by_cases (ltb b a)
    (λ k. absurd (omega (arith, ltb-true a b l, ltb-true b a k)))
    (λ k. let e : (eqb b a && s) ≡ true = rw k at y in absurd (omega (arith, ltb-true a b l, eqb-true b a (and_left _ _ e)))))
    (λ l. let e : (eqb a b && r) ≡ true = rw l at x in
    let q : a ≡ b = eqb-true a b (and_left _ _ e) in
    by_cases (ltb b a)
    (λ k. absurd (omega (arith, ltb-true b a k)))
    (λ k. let f : (eqb b a && s) ≡ true = rw k at y in (and_right (eqb a b) _ e, and_right (eqb b a) _ f)))

pub before_asym : (x y : Dependency) → before x y ≡ true → before y x ≡ true → ⊥
before_asym x y a b =
    let (c, d) = key_asym x.first y.first _ _ a b in
    let (e, f) = key_asym x.first_stop y.first_stop _ _ c d in
    let (g, h) = key_asym x.second y.second _ _ e f in
    omega (arith, ltb-true x.second_stop y.second_stop g, ltb-true y.second_stop x.second_stop h)

order_pair : {own num off last : ℕ → ℕ} {drones n : ℕ} (N : Numbered own num off last drones n) (v w x y : ℕ) → v < n → w < n → x < n → y < n → before (pair own num v w) (pair own num x y) ≡ true → pair_before v w x y ≡ true
order_pair {own} {num} N v w x y a b c d o = by_cases (pair_before v w x y) (λ e. e) (λ e. absurd (elim (before-not v w x y e) [
  | inl t ↦ before_asym (pair own num v w) (pair own num x y) o (pair_order N x y v w c d a b t)
  | inr (t, u) ↦ let same : before (pair own num x y) (pair own num x y) ≡ true = rw (t, u) at o in before_asym (pair own num x y) (pair own num x y) same same
]))

-- ---- the table of an accepted plan

module _ (S : Visits) (leg off last : ℕ → ℕ) (drones count : ℕ) (dependency : ℕ → Dependency) (N : Numbered S.own S.num off last drones S.n) where
  open S use {own, num, n}

  -- the plan of these stops and dependencies
  abbrev F : FieldPlan
  F = plan S leg off last drones count dependency N

  abbrev R : ℕ → ℕ → Bool
  R = follows S

  module _ (A : AcceptedPlan F) where
    -- the two stops of dependency k
    xs : ℕ → ℕ
    xs k = off (dependency k).first + (dependency k).first_stop

    ys : ℕ → ℕ
    ys k = off (dependency k).second + (dependency k).second_stop

    entry : (k : ℕ) → k < count → (xs k < n) × (ys k < n) × (R (xs k) (ys k) ≡ true) × (pair own num (xs k) (ys k) ≡ dependency k)
    unfolding xs ys
    entry k l =
        let m : Meeting F (dependency k) = A.each k l in (
          N.place_in (dependency k).first (dependency k).first_stop m.first_in m.first_stop_in,
          N.place_in (dependency k).second (dependency k).second_stop m.second_in m.second_stop_in,
          meeting_follows S leg _ _ _ _ _ N A.checked (dependency k) m,
          pair_place S leg _ _ _ count dependency N (dependency k) m,
        )

    -- the pairs rise
    rises : (i k : ℕ) → i < k → k < count → pair_before (xs i) (ys i) (xs k) (ys k) ≡ true
    rises i k l m =
        let (a, b, r, p) = entry i (omega arith) in
        let (c, d, s, q) = entry k m in
        order_pair N (xs i) (ys i) (xs k) (ys k) a b c d (subst (λ (x : Dependency). before x (pair own num (xs k) (ys k)) ≡ true) (sym p) (subst (λ (y : Dependency). before (dependency i) y ≡ true) (sym q) (A.ordered i k l m)))

    climbs : Climbs R n count xs ys
    climbs = record {
      first_in = λ k l. (entry k l).0;
      second_in = λ k l. (entry k l).1;
      passes = λ k l. (entry k l).2;
      rises = λ k l. rises k (suc k) (omega arith) l;
    }

    rank_at : ℕ → ℕ
    rank_at k = rank R n (xs k) (ys k)

    ranks_rise : (i k : ℕ) → i < k → k < count → rank_at i < rank_at k
    unfolding rank_at
    ranks_rise i k l m =
        let (a, b, r, p) = entry i (omega arith) in
        let (c, d, s, q) = entry k m in
        rank_rises R n (xs i) (ys i) (xs k) (ys k) b (omega arith) r (rises i k l m)

    -- the entry of the listed pair k
    place : ℕ → ℕ
    place k = first_below count (λ i. eqb (rank_at i) k)

    place_is : (k : ℕ) → k < dependency_total S → (place k < count) × (rank_at (place k) ≡ k)
    unfolding place rank_at xs ys
    place_is k l =
        let (v, w, a, b, e, r) = rank_find R n k l in
        let (i, m, q) = A.every (pair own num v w) (meeting_if S leg _ _ _ count dependency N v w a b e) in
        let at-v : xs i ≡ v = rw q (N.number_is v a) in
        let at-w : ys i ≡ w = rw q (N.number_is w b) in
        let h : rank_at i ≡ k = rw (at-v, at-w) r in
        let low : place k ≤ i = first_low (λ i. eqb (rank_at i) k) i count (eq-eqb (rank_at i) k h) in
        let in_table : place k < count = omega arith in
        (in_table, eqb-true _ _ ((first_below_first count (λ i. eqb (rank_at i) k)).found in_table))

    places_rise : (k : ℕ) → suc k < dependency_total S → place k < place (suc k)
    places_rise k l =
        let (a, p) = place_is k (omega arith) in
        let (b, q) = place_is (suc k) l in
        by_cases (ltb (place k) (place (suc k))) (λ e. ltb-true _ _ e) (λ e. by_cases (ltb (place (suc k)) (place k))
        (λ h. absurd (omega (arith, ranks_rise (place (suc k)) (place k) (ltb-true _ _ h) a)))
        (λ h. let same : place k ≡ place (suc k) = omega (arith, ltb-false (place k) (place (suc k)) e, ltb-false (place (suc k)) (place k) h) in absurd (let z : rank_at (place k) ≡ suc k = rw same q in omega arith)))

    pub total_is : count ≡ dependency_total S
    total_is = omega (arith, climbs_few R n climbs, rising_fit (dependency_total S) place places_rise count (λ k l. (place_is k l).0))

    -- the four columns of the table are the plan's
    pub columns_are : (k : ℕ) → k < count → ((dependency k).first ≡ at (column S (λ v w. own v)) k) × ((dependency k).first_stop ≡ at (column S (λ v w. num v)) k) × ((dependency k).second ≡ at (column S (λ v w. own w)) k) × ((dependency k).second_stop ≡ at (column S (λ v w. num w)) k)
    columns_are k l =
        let (_, _, _, q) = entry k l in
        (is (λ v w. own v) (λ i. (q i).first), is (λ v w. num v) (λ i. (q i).first_stop), is (λ v w. own w) (λ i. (q i).second), is (λ v w. num w) (λ i. (q i).second_stop))
      where
        is : (f : ℕ → ℕ → ℕ) {x : ℕ} → f (xs k) (ys k) ≡ x → x ≡ at (column S f) k
        is f e = sym e ∙ sym (climbs_all R n climbs total_is f k l)

-- ---- the plan in the tables

pub holds_planned : (p : PlanLists) → HaveStops p → AcceptedPlan (plan_of p) → HoldsPlanned p
holds_planned p have A = record {
  total = total_is (visits_in p) (leg_in p) _ _ _ _ _ (stops_numbered p have) A;
  first_drones_lem = λ k l. (columns_are (visits_in p) (leg_in p) _ _ _ _ _ (stops_numbered p have) A k l).0;
  first_stops_lem = λ k l. (columns_are (visits_in p) (leg_in p) _ _ _ _ _ (stops_numbered p have) A k l).1;
  second_drones_lem = λ k l. (columns_are (visits_in p) (leg_in p) _ _ _ _ _ (stops_numbered p have) A k l).2;
  second_stops_lem = λ k l. (columns_are (visits_in p) (leg_in p) _ _ _ _ _ (stops_numbered p have) A k l).3;
}
