-- Stops that are marked as raised, and looked at in any order: no raised stop is lost. Assumes nothing.
use mathlib.Core.Path.{◌≡◌, refl, sym, ap, ◌∙◌, subst}
use mathlib.Core.Logic.{◌≢◌, ◌⊎◌, inl, inr}
use mathlib.Core.List.{List, []}
use mathlib.Core.Bool.{Bool, false}
use Prim.Native.Nat.{ℕ, ◌+◌, ◌-◌, ◌≤◌, ◌<◌}
use native.Mathlib.Omega.{arith}
use lib.Dec.{ltb, eqb}
use lib.ListN.{length, set, length-set, replicate, get_or-replicate}
use lib.Seq.{get_or-set_same, get_or-set_other}
use borrow.Author.Tests.{eqb-true, eqb-false, ltb-true, ltb-false}
use Rattle.std.specs.Prelude.{Option, Some, None, min}
use Rattle.below.specs.Below.{at}
use Rattle.below.proofs.Tests.{by_cases}
use Rattle.tables.specs.Limits.{Limits}
use Rattle.cycles.specs.Walk.{Course, course_with, RoundTable}
use Rattle.raising.specs.Lifting.{log_room, InLog, LogsOn, Raisable, none_left, FromStop, Offered, Lifting, PartRaised}
use Rattle.raising.specs.Marked.{NoneBefore, MarkTables, NotedOne, NotedAll, NextMarked, MarksReached, LookedAt}
use Rattle.raising.proofs.LiftLaws.{lift_ended, lift_noted, lift_chosen}
use Rattle.raising.proofs.GoLaws.{offered_logs, short-into}

module _ (L : Limits) (own : ℕ → ℕ) (n : ℕ) (ls : List ℕ) (h : ℕ) where
  module _ {j : ℕ} {marks low marks₁ was₁ low₁ marks₂ was₂ low₂ : List ℕ} {w : ℕ} (A : NotedAll L own n ls h j marks low marks₁ was₁ low₁) (N : NotedOne L own w marks₁ low₁ marks₂ was₂ low₂) (le : h ≤ j) (ew : w ≡ at ls j) (i : w < L.stops) (io : own w < L.drones) where
    here : at marks₂ w ≡ 1
    here = ap (λ (l : List ℕ). at l w) N.marks_is ∙ get_or-set_same marks₁ w 1 0 (omega (arith, A.tables.marks_size))

    there : (v : ℕ) → v ≢ w → at marks₂ v ≡ at marks₁ v
    there v ne = ap (λ (l : List ℕ). at l v) N.marks_is ∙ get_or-set_other marks₁ w v 1 0 ne

    stays : (v : ℕ) → 0 < at marks₁ v → 0 < at marks₂ v
    stays v z = by_cases (eqb v w) (λ e. let q : v ≡ w = eqb-true v w e in rw q (omega (arith, here))) (λ e. omega (arith, there v (eqb-false v w e)))

    wider : {v : ℕ} → InLog ls h j v → InLog ls h (j + 1) v
    wider (i, a, c, e) = (i, a, omega arith, e)

    last : InLog ls h (j + 1) w
    last = (j, le, omega arith, sym ew)

    low-here : at low₂ (own w) ≡ N.first
    low-here = ap (λ (l : List ℕ). at l (own w)) N.low_is ∙ get_or-set_same low₁ (own w) N.first 0 (omega (arith, A.tables.low_size))

    low-there : (d : ℕ) → d ≢ own w → at low₂ d ≡ at low₁ d
    low-there d ne = ap (λ (l : List ℕ). at l d) N.low_is ∙ get_or-set_other low₁ (own w) d N.first 0 ne

    before : NoneBefore own n marks₁ low₁ → NoneBefore own n marks₂ low₂
    before B v l z = by_cases (eqb v w)
        (λ e. let q : v ≡ w = eqb-true v w e in omega (arith, ap (λ (x : ℕ). at low₂ (own x)) q, low-here, N.at_most.1))
        (λ e. let ne : v ≢ w = eqb-false v w e in
        let b : at low₁ (own v) ≤ v = B v l (omega (arith, there v ne)) in
        by_cases (eqb (own v) (own w))
        (λ f. let q : own v ≡ own w = eqb-true (own v) (own w) f in omega (arith, ap (at low₂) q, ap (at low₁) q, low-here, N.at_most.0))
        (λ f. omega (arith, low-there (own v) (eqb-false (own v) (own w) f))))

    lows : (d : ℕ) → (at low₂ d ≡ at low d) ⊎ InLog ls h (j + 1) (at low₂ d)
    lows d = by_cases (eqb d (own w))
        (λ e. let q : d ≡ own w = eqb-true d (own w) e in is (ap (at low₂) q ∙ low-here) q N.is_one)
        (λ e. other (low-there d (eqb-false d (own w) e)) (A.low_only d))
      where
        other : at low₂ d ≡ at low₁ d → (at low₁ d ≡ at low d) ⊎ InLog ls h j (at low₁ d) → (at low₂ d ≡ at low d) ⊎ InLog ls h (j + 1) (at low₂ d)
        other s (inl e) = inl (s ∙ e)
        other s (inr e) = inr (subst (InLog ls h (j + 1)) (sym s) (wider e))

        is : at low₂ d ≡ N.first → d ≡ own w → (N.first ≡ at low₁ (own w)) ⊎ (N.first ≡ w) → (at low₂ d ≡ at low d) ⊎ InLog ls h (j + 1) (at low₂ d)
        is s q (inl e) = other (s ∙ e ∙ ap (at low₁) (sym q)) (A.low_only d)
        is s q (inr e) = inr (subst (InLog ls h (j + 1)) (sym (s ∙ e)) last)

    pub noted_more : NotedAll L own n ls h (j + 1) marks low marks₂ was₂ low₂
    noted_more = record {
      tables = N.tables;
      marked = λ i a c. by_cases (eqb i j)
          (λ e. let q : i ≡ j = eqb-true i j e in subst (λ (x : ℕ). 0 < at marks₂ x) (ew ∙ ap (at ls) (sym q)) (omega (arith, here)))
          (λ e. let ne : i ≢ j = eqb-false i j e in stays (at ls i) (A.marked i a (omega (arith, ne))));
      still = λ v z. stays v (A.still v z);
      only = λ v z. by_cases (eqb v w)
          (λ e. inr (subst (InLog ls h (j + 1)) (sym (eqb-true v w e)) last))
          (λ e. more v (A.only v (omega (arith, there v (eqb-false v w e)))));
      none_before = λ B. before (A.none_before B);
      low_length = ap length N.low_is ∙ length-set low₁ (own w) N.first ∙ A.low_length;
      low_only = lows;
    }
      where
        more : (v : ℕ) → (0 < at marks v) ⊎ InLog ls h j v → (0 < at marks v) ⊎ InLog ls h (j + 1) v
        more v (inl e) = inl e
        more v (inr e) = inr (wider e)

pub lesser_one : (x y : ℕ) {r : ℕ} → r ≡ min x y → (r ≤ x) × (r ≤ y) × ((r ≡ x) ⊎ (r ≡ y))
lesser_one x y e = (omega arith, omega arith, by_cases (ltb x y) (λ q. inl (omega (arith, ltb-true x y q))) (λ q. inr (omega (arith, ltb-false x y q))))

pub noted_one : (L : Limits) (own : ℕ → ℕ) {w d first : ℕ} (old : ℕ) {marks was low : List ℕ} → d ≡ own w → (first ≤ at low d) × (first ≤ w) × ((first ≡ at low d) ⊎ (first ≡ w)) → MarkTables L marks was low → NotedOne L own w marks low (set marks w 1) (set was w old) (set low d first)
noted_one L own {w} {d} {first} old {marks} {was} {low} e (a, c, o) T = record {
  tables = record { marks_size = length-set marks w 1 ∙ T.marks_size; was_size = length-set was w old ∙ T.was_size; low_size = length-set low d first ∙ T.low_size };
  marks_is = refl;
  first = first;
  low_is = ap (λ (x : ℕ). set low x first) e;
  at_most = (omega (arith, ap (at low) e), c);
  is_one = subst (λ (x : ℕ). (first ≡ at low x) ⊎ (first ≡ w)) e o;
}

-- ---- the first marked stop

abbrev pub NoneFrom : List ℕ → ℕ → ℕ → Type 0
NoneFrom marks from v = (w : ℕ) → from ≤ w → w < v → at marks w ≡ 0

module _ (marks : List ℕ) {from v : ℕ} (A : NoneFrom marks from v) where
  pub next_more : at marks v ≡ 0 → NoneFrom marks from (v + 1)
  next_more e w a c = by_cases (eqb w v) (λ q. ap (at marks) (eqb-true w v q) ∙ e) (λ q. let ne : w ≢ v = eqb-false w v q in A w a (omega (arith, ne)))

  no_earlier : (w : ℕ) → from ≤ w → 0 < at marks w → v ≤ w
  no_earlier w a z = by_cases (ltb w v) (λ q. absurd (omega (arith, A w a (ltb-true w v q)))) (λ q. ltb-false w v q)

  pub next-found : {none past : ℕ} → at marks v ≢ 0 → NextMarked marks none from past v
  next-found z = record { is_marked = inr (omega (arith, z)); is_first = λ w a c y. no_earlier w a y }

  pub next-none : {none past : ℕ} → past ≤ v → NextMarked marks none from past none
  next-none le = record { is_marked = inl refl; is_first = λ w a c y. absurd (omega (arith, no_earlier w a y)) }

-- ---- whose turn it is

pub at_first_lem : (k x d : ℕ) → d < k → at (replicate k x) d ≡ x
at_first_lem k x d l = get_or-replicate k d x 0 l

pub none_some {ℓ} : {A : Type 0} {B : Type ℓ} {x : A} → None ≡ Some x → B
none_some q = absurd (let z : ◌≡◌ {A = ℕ} 0 1 = cc in omega arith)

pub turn-skips : (low : List ℕ) {n d u : ℕ} {o : Option ℕ} → (o ≡ None → (e : ℕ) → e < d → n ≤ at low e) → u ≡ at low d → n ≤ u → o ≡ None → (e : ℕ) → e < d + 1 → n ≤ at low e
turn-skips low {n} {d} A eu le f e l = by_cases (eqb e d) (λ q. omega (arith, ap (at low) (eqb-true e d q))) (λ q. let ne : e ≢ d = eqb-false e d q in A f e (omega (arith, ne)))

pub turn_takes : (low : List ℕ) {drones n d r : ℕ} {o : Option ℕ} → ((e : ℕ) → o ≡ Some e → (e < drones) × (at low e < n)) → d < drones → at low d < n → (r ≡ d) ⊎ (o ≡ Some r) → (e : ℕ) → Some r ≡ Some e → (e < drones) × (at low e < n)
turn_takes low {r = r} A l i (inl s) e q = let same : r ≡ e = cc in (omega arith, omega (arith, ap (at low) s, ap (at low) same))
turn_takes low A l i (inr s) e q = A e (s ∙ q)

module _ {L : Limits} {owners starts lasts : List ℕ} {drones n : ℕ} {fs is : List ℕ} {waits : ℕ} {legs cur : List ℕ} (R : Raisable L owners starts lasts drones n fs is waits legs cur) where
  abbrev C : Course
  C = course_with owners starts lasts drones n fs is waits

  -- ---- the start: the stop that the new wait is into, if it is raised

  -- its stops are there
  pub offer_room : 1 ≤ waits → {a b : ℕ} → a ≡ at fs (waits - 1) → b ≡ at is (waits - 1) → (a < L.stops) × (b < L.stops) × (b < length owners) × (at owners b < L.drones) × (b < length legs)
  offer_room some {a} {b} ea eb =
      let from_in : at fs (waits - 1) < n = R.tables.placed.from_in (waits - 1) (omega arith) in
      let into_in : b < n = omega (arith, R.tables.placed.into_in (waits - 1) (omega arith)) in
      (omega (arith, R.tables.few_stops), omega (arith, R.tables.few_stops), omega (arith, R.tables.has_owners), omega (arith, R.tables.few_drones, R.tables.placed.shape.own_in b into_in), omega (arith, R.has_legs))

  pub begun_logs : {a b top : ℕ} {t ls lo : List ℕ} {full : Bool} {r : ℕ} {t' ls' lo' : List ℕ} → 1 ≤ waits → b ≡ at is (waits - 1) → Offered log_room (at owners) (at legs) (at cur) a b top t ls lo full r t' ls' lo' → LogsOn L top t ls lo r t' ls' lo'
  begun_logs {b = b} some e F = offered_logs L F (omega (arith, R.tables.few_stops, R.tables.placed.into_in (waits - 1) (omega arith))) (subst (λ (z : ℕ). at legs z ≤ L.leg) (sym e) (short-into R (waits - 1) (omega arith)))

  module _ {b top r : ℕ} {t ls zeros nones marks was low : List ℕ} (S : Lifting C (at legs) (at cur) [] b top top r none_left none_left t ls) (zero-marks : (v : ℕ) → at zeros v ≡ 0) (none-low : (d : ℕ) → d < drones → n ≤ at nones d) (N : NotedAll L (at owners) n ls top r zeros nones marks was low) where
    pub marked_begun : Lifting C (at legs) (at cur) marks b top r r none_left none_left t ls
    marked_begun = lift_noted C R.tables.placed (at legs) (at cur) R.stands S marks (λ v z. absurd (omega arith)) N.marked

    pub reached_begun : MarksReached C b marks low
    reached_begun = record {
      marked = λ v z. new v (N.only v z);
      first = λ d i l. firsts d i l (N.low_only d);
      none_before = N.none_before (λ v l z. absurd (omega (arith, zero-marks v)));
    }
      where
        new : (v : ℕ) → (0 < at zeros v) ⊎ InLog ls top r v → (v < n) × FromStop C b v
        new v (inl z) = absurd (omega (arith, zero-marks v))
        new v (inr (j, a, c, e)) = subst (λ (x : ℕ). (x < n) × FromStop C b x) e (S.reached j a c)

        firsts : (d : ℕ) → d < drones → at low d < n → (at low d ≡ at nones d) ⊎ InLog ls top r (at low d) → FromStop C b (at low d)
        firsts d i l (inl e) = absurd (omega (arith, none-low d i))
        firsts d i l (inr e) = (new (at low d) (inr e)).1

  -- ---- a stop is looked at

  module _ {d u end : ℕ} {t ls lo : List ℕ} (marks low : List ℕ) (in-marks : u < length marks) (in-low : d < length low) (in-stops : u < n) (in-drones : d < drones) (eu : u ≡ at low d) {r : ℕ} {t' ls' lo' : List ℕ} (P : PartRaised C (at legs) (at cur) L u (λ v. v ≡ u) (λ k. at fs k ≡ u) none_left none_left end t ls lo false r t' ls' lo') (b base : ℕ) (M : MarksReached C b marks low) (S : Lifting C (at legs) (at cur) marks b base end end none_left none_left t ls) where
    taken-mark : (v : ℕ) → 0 < at (set marks u 0) v → (v ≢ u) × (0 < at marks v)
    taken-mark v z = by_cases (eqb v u)
        (λ e. absurd (let q : v ≡ u = eqb-true v u e in omega (arith, ap (at (set marks u 0)) q, get_or-set_same marks u 0 0 in-marks)))
        (λ e. let ne : v ≢ u = eqb-false v u e in (ne, omega (arith, get_or-set_other marks u v 0 0 ne)))

    left-mark : (v : ℕ) → 0 < at marks v → (v ≡ u) ⊎ (0 < at (set marks u 0) v)
    left-mark v z = by_cases (eqb v u)
        (λ e. inl (eqb-true v u e))
        (λ e. inr (omega (arith, get_or-set_other marks u v 0 0 (eqb-false v u e))))

    part : Lifting C (at legs) (at cur) (set marks u 0) b base end r none_left none_left t' ls'
    part = P.lifts refl (set marks u 0) b base end (subst (FromStop C b) (sym eu) (M.first d in-drones (omega arith))) (lift_chosen C R.tables.placed (at legs) (at cur) R.stands S (set marks u 0) u left-mark)

    logged : {v : ℕ} → InLog ls' end r v → (v < n) × FromStop C b v
    logged (j, a, c, e) = subst (λ (x : ℕ). (x < n) × FromStop C b x) e (part.reached j (omega (arith, S.from_base)) c)

    pub looked_in : (j : ℕ) → end ≤ j → j < r → at ls' j < n
    looked_in j a c = (part.reached j (omega (arith, S.from_base)) c).0

    module _ {marks' was' low₁ low' : List ℕ} (N : NotedAll L (at owners) n ls' end r (set marks u 0) low marks' was' low₁) {x : ℕ} (from past : ℕ) (ef : from ≡ at low₁ d) (ep : past ≡ at starts d + at lasts d + 1) (X : NextMarked marks' L.stops from past x) (el : low' ≡ set low₁ d x) where
      fresh : (v : ℕ) → (0 < at (set marks u 0) v) ⊎ InLog ls' end r v → (v < n) × FromStop C b v
      fresh v (inl z) = M.marked v (taken-mark v z).1
      fresh v (inr e) = logged e

      low-next : at low' d ≡ x
      low-next = ap (λ (l : List ℕ). at l d) el ∙ get_or-set_same low₁ d x 0 (omega (arith, in-low, N.low_length))

      low_others : (e : ℕ) → e ≢ d → at low' e ≡ at low₁ e
      low_others e ne = ap (λ (l : List ℕ). at l e) el ∙ get_or-set_other low₁ d e x 0 ne

      looked_reached : MarksReached C b marks' low'
      looked_reached = record {
        marked = λ v z. fresh v (N.only v z);
        first = λ e i l. by_cases (eqb e d)
            (λ q. let s : e ≡ d = eqb-true e d q in let f : at low' e ≡ x = ap (at low') s ∙ low-next in subst (FromStop C b) (sym f) (found (omega arith) X.is_marked))
            (λ q. let f : at low' e ≡ at low₁ e = low_others e (eqb-false e d q) in subst (FromStop C b) (sym f) (firsts e i (omega arith) (N.low_only e)));
        none_before = λ v l z. by_cases (eqb (at owners v) d)
            (λ q. let s : at owners v ≡ d = eqb-true (at owners v) d q in omega (arith, ap (at low') s, low-next, X.is_first v (omega (arith, befores v l z, ap (at low₁) s)) (omega (arith, ap (at starts) s, ap (at lasts) s, R.tables.placed.shape.number_in_lem v l)) z))
            (λ q. omega (arith, low_others (at owners v) (eqb-false (at owners v) d q), befores v l z));
      }
        where
          found : x < n → (x ≡ L.stops) ⊎ (0 < at marks' x) → FromStop C b x
          found l (inl e) = absurd (omega (arith, R.tables.few_stops))
          found l (inr z) = (fresh x (N.only x z)).1

          firsts : (e : ℕ) → e < drones → at low₁ e < n → (at low₁ e ≡ at low e) ⊎ InLog ls' end r (at low₁ e) → FromStop C b (at low₁ e)
          firsts e i l (inl q) = subst (FromStop C b) (sym q) (M.first e i (omega arith))
          firsts e i l (inr q) = (logged q).1

          befores : NoneBefore (at owners) n marks' low₁
          befores = N.none_before (λ v l z. M.none_before v l (taken-mark v z).1)

      pub looked_at : LookedAt L C (at legs) (at cur) b base end t ls lo false r t' ls' lo' marks' was' low'
      looked_at = record {
        logs = P.logs;
        tables = λ e. record { marks_size = N.tables.marks_size; was_size = N.tables.was_size; low_size = ap length el ∙ length-set low₁ d x ∙ N.tables.low_size };
        lifts = λ e. lift_noted C R.tables.placed (at legs) (at cur) R.stands part marks' N.still N.marked;
        reached = λ e. looked_reached;
      }

  -- ---- the end: no drone has a marked stop

  pub marks_ended : {b base end : ℕ} {t ls marks low : List ℕ} → Lifting C (at legs) (at cur) marks b base end end none_left none_left t ls → MarksReached C b marks low → ((e : ℕ) → e < drones → n ≤ at low e) → RoundTable C (at legs) (at cur) (at t)
  marks_ended S M none = lift_ended C R.tables.placed (at legs) (at cur) R.stands S (omega arith) (λ v z. absurd (let (l, reach) = M.marked v z in omega (arith, M.none_before v l z, none (at owners v) (R.tables.placed.shape.own_in v l))))
