-- Which waits are met while a stop's waits are gone through, how many are not, and the greatest of what the met ones await. Assumes nothing.
use mathlib.Core.Path.{◌≡◌, refl, sym, ap, ◌∙◌}
use mathlib.Core.Logic.{◌≢◌}
use mathlib.Core.List.{List}
use mathlib.Core.Bool.{Bool, true, false, not, ◌&&◌}
use Prim.Native.Nat.{ℕ, ◌+◌, ◌≤◌, ◌<◌, max}
use native.Mathlib.Omega.{arith}
use lib.Dec.{leb, eqb}
use lib.ListN.{set, length-set}
use lib.Seq.{get_or-set_same, get_or-set_other}
use borrow.Author.Tests.{leb-true, leb-false, le-leb, lt-leb, eqb-true, eqb-false, eq-eqb, ne_eqb, not-false}
use Rattle.below.specs.Below.{at, pick, max_below}
use Rattle.below.proofs.Tests.{by_cases, and_right, and_both, same_test}
use Rattle.below.proofs.Count.{count_none, count_zero, count_past}
use Rattle.below.proofs.Greatest.{max_ext, max_least}
use Rattle.tables.specs.Limits.{Limits}
use Rattle.cycles.specs.Walk.{Course, met_at, met_from, unmet_into, latest_met, Needs}
use Rattle.below.proofs.Same.{count_ext}
use Rattle.below.proofs.Changes.{count_drop, max_raise}

module _ (C : Course) where
  open C use {own, off, last, drones, stops, from, into, waits}

  pub met_is : (cur : ℕ → ℕ) (k : ℕ) → from k ≤ cur (own (from k)) → met_at own from cur k ≡ true
  unfolding met_at
  met_is cur k h = le-leb (from k) (cur (own (from k))) h

  pub is_met : (cur : ℕ → ℕ) (k : ℕ) → met_at own from cur k ≡ true → from k ≤ cur (own (from k))
  unfolding met_at
  is_met cur k e = leb-true _ _ e

  -- drone d has moved to stop v: of the waits for v none is met yet
  pub met_moved : (cur cur' : ℕ → ℕ) (d v : ℕ) → own v ≡ d → v ≡ cur d + 1 → cur' d ≡ v → ((c : ℕ) → c ≢ d → cur' c ≡ cur c) → (k : ℕ) → k < waits → met_at own from cur k ≡ met_from C cur' v waits k
  unfolding met_at met_from
  met_moved cur cur' d v ev before here other k l = by_cases (eqb (from k) v)
      (λ e. let q : from k ≡ v = eqb-true _ _ e in
      let no : leb v (cur d) ≡ false = lt-leb v (cur d) (omega arith) in
      let none : leb waits k ≡ false = lt-leb waits k l in
      rw (e, none) (rw (q, ev) no))
      (λ e. let ne : from k ≢ v = eqb-false _ _ e in
      rw e (by_cases (eqb (own (from k)) d)
      (λ s. let z : own (from k) ≡ d = eqb-true _ _ s in
      rw z (same_test _ _
      (λ t. le-leb (from k) (cur' d) (omega (arith, leb-true (from k) (cur d) t)))
      (λ t. le-leb (from k) (cur d) (omega (arith, leb-true (from k) (cur' d) t)))))
      (λ s. rw (other (own (from k)) (eqb-false _ _ s)) refl)))

  -- .. and when all of them are gone through, all that await a visited stop are met
  pub met_end : (cur : ℕ → ℕ) (v : ℕ) → v ≤ cur (own v) → (k : ℕ) → met_from C cur v 0 k ≡ met_at own from cur k
  unfolding met_at met_from
  met_end cur v h k = by_cases (eqb (from k) v)
      (λ e. let q : from k ≡ v = eqb-true _ _ e in
      let yes : leb v (cur (own v)) ≡ true = le-leb v (cur (own v)) h in
      let all : leb 0 k ≡ true = le-leb 0 k (omega arith) in
      rw (e, all) (rw q (sym yes)))
      (λ e. rw e refl)

  -- between y and x there is no wait for v
  pub met_skip : (cur : ℕ → ℕ) (v x y : ℕ) → y ≤ x → ((k : ℕ) → y ≤ k → k < x → eqb (from k) v ≡ false) → (k : ℕ) → met_from C cur v x k ≡ met_from C cur v y k
  unfolding met_from
  met_skip cur v x y h none k = by_cases (eqb (from k) v)
      (λ e. rw e (by_cases (leb y k)
      (λ a. by_cases (leb x k)
      (λ b. b ∙ sym a)
      (λ b. let z : ◌≡◌ {A = Bool} true false = sym e ∙ none k (leb-true _ _ a) (leb-false _ _ b) in b ∙ sym z ∙ sym a))
      (λ a. let z : leb x k ≡ false = lt-leb x k (omega (arith, leb-false y k a)) in z ∙ sym a)))
      (λ e. rw e refl)

  module _ (cur : ℕ → ℕ) (v j : ℕ) where
    pub met-before : from j ≡ v → met_from C cur v (j + 1) j ≡ false
    unfolding met_from
    met-before e = rw (eq-eqb (from j) v e) (lt-leb (j + 1) j (omega arith))

    pub met_now : from j ≡ v → met_from C cur v j j ≡ true
    unfolding met_from
    met_now e = rw (eq-eqb (from j) v e) (le-leb j j (omega arith))

    pub met_others : (k : ℕ) → k ≢ j → met_from C cur v (j + 1) k ≡ met_from C cur v j k
    unfolding met_from
    met_others k ne = by_cases (eqb (from k) v)
        (λ e. rw e (same_test _ _
        (λ t. le-leb j k (omega (arith, leb-true (j + 1) k t)))
        (λ t. le-leb (j + 1) k (omega (arith, leb-true j k t)))))
        (λ e. rw e refl)

  -- ---- how many are not met

  pub needs-same : {L : Limits} (met met' : ℕ → Bool) {need : List ℕ} → ((k : ℕ) → k < waits → met k ≡ met' k) → Needs L C met need → Needs L C met' need
  unfolding unmet_into
  needs-same met met' same N = record { size = N.size; counted = λ v l. N.counted v l ∙ count_ext waits _ _ (λ k h. ap (λ (b : Bool). eqb (into k) v && not b) (same k h)) }

  module _ {L : Limits} {met : ℕ → Bool} {need : List ℕ} (N : Needs L C met need) where
    -- nothing keeps anybody from stop v
    pub needs-none : (v : ℕ) → v < stops → at need v ≡ 0 → (k : ℕ) → k < waits → into k ≡ v → met k ≡ true
    unfolding unmet_into
    needs-none v l z k h e =
        let q : (eqb (into k) v && not (met k)) ≡ false = count_none waits (λ k. eqb (into k) v && not (met k)) (sym (N.counted v l) ∙ z) k h in
        not-false _ (rw (eq-eqb (into k) v e) at q)

    pub needs-zero : (v : ℕ) → v < stops → ((k : ℕ) → k < waits → into k ≡ v → met k ≡ true) → at need v ≡ 0
    unfolding unmet_into
    needs-zero v l h = N.counted v l ∙ count_zero waits _ (λ k i. by_cases (eqb (into k) v) (λ e. rw (e, h k i (eqb-true _ _ e)) refl) (λ e. rw e refl))

    pub needs_some : (j : ℕ) → j < waits → into j < stops → met j ≡ false → 1 ≤ at need (into j)
    unfolding unmet_into
    needs_some j l i e = omega (arith, N.counted (into j) i, count_past j waits (λ k. eqb (into k) (into j) && not (met k)) l (and_both _ _ (eq-eqb (into j) (into j) refl) (ap not e)))

  -- wait j is met
  module _ (met met' : ℕ → Bool) (j : ℕ) (l : j < waits) (was : met j ≡ false) (now : met' j ≡ true) (others : (k : ℕ) → k < waits → k ≢ j → met k ≡ met' k) where
    pub met_keeps : (k : ℕ) → k < waits → met k ≡ true → met' k ≡ true
    met_keeps k h e = by_cases (eqb k j) (λ s. rw (eqb-true k j s) now) (λ s. sym (others k h (eqb-false k j s)) ∙ e)

    unmet_falls : unmet_into into waits met (into j) ≡ unmet_into into waits met' (into j) + 1
    unfolding unmet_into
    unmet_falls = count_drop waits _ _ j l
        (and_both _ _ (eq-eqb (into j) (into j) refl) (ap not was))
        (rw (eq-eqb (into j) (into j) refl, now) refl)
        (λ k h ne. ap (λ (b : Bool). eqb (into k) (into j) && not b) (others k h ne))

    unmet_stays : (v : ℕ) → v ≢ into j → unmet_into into waits met v ≡ unmet_into into waits met' v
    unfolding unmet_into
    unmet_stays v ne = count_ext waits _ _ (λ k h. by_cases (eqb k j)
        (λ s. let z : k ≡ j = eqb-true k j s in let no : eqb (into j) v ≡ false = ne_eqb (into j) v (λ q. ne (sym q)) in rw (z, no) refl)
        (λ s. ap (λ (b : Bool). eqb (into k) v && not b) (others k h (eqb-false k j s))))

    pub needs_meet : {L : Limits} {need : List ℕ} → Needs L C met need → (w x : ℕ) → w ≡ into j → w < stops → stops ≤ L.stops → x + 1 ≡ at need w → Needs L C met' (set need w x)
    needs_meet {need = need} N w x e i few ex = record {
      size = length-set need w x ∙ N.size;
      counted = λ v h. by_cases (eqb v w)
          (λ s. rw (eqb-true v w s) (get_or-set_same need w x 0 (omega (arith, N.size)) ∙ omega (arith, N.counted w i, rw (← e) at unmet_falls)))
          (λ s. let ne : v ≢ w = eqb-false v w s in get_or-set_other need w v x 0 ne ∙ N.counted v h ∙ unmet_stays v (λ q. ne (q ∙ sym e)));
    }

    -- .. and what its stop is visited by goes into the greatest
    pub latest_raised : (T : ℕ → ℕ) → latest_met C met' T (into j) ≡ max (latest_met C met T (into j)) (T (from j))
    unfolding latest_met
    latest_raised T = max_raise waits _ _ j (T (from j)) l
        (rw (eq-eqb (into j) (into j) refl, was, now) (omega arith))
        (λ k h ne. ap (λ (b : Bool). pick (eqb (into k) (into j) && b) (T (from k)) 0) (others k h ne))

    pub latest_stays : (T : ℕ → ℕ) (v : ℕ) → v ≢ into j → latest_met C met T v ≡ latest_met C met' T v
    unfolding latest_met
    latest_stays T v ne = max_ext waits _ _ (λ k h. by_cases (eqb k j)
        (λ s. let z : k ≡ j = eqb-true k j s in let no : eqb (into j) v ≡ false = ne_eqb (into j) v (λ q. ne (sym q)) in rw (z, no) refl)
        (λ s. ap (λ (b : Bool). pick (eqb (into k) v && b) (T (from k)) 0) (others k h (eqb-false k j s))))

  -- ---- the greatest of what they await

  pub latest-same : (met met' : ℕ → Bool) (T : ℕ → ℕ) (v : ℕ) → ((k : ℕ) → k < waits → met k ≡ met' k) → latest_met C met T v ≡ latest_met C met' T v
  unfolding latest_met
  latest-same met met' T v same = max_ext waits _ _ (λ k h. ap (λ (b : Bool). pick (eqb (into k) v && b) (T (from k)) 0) (same k h))

  pub latest_all : (met : ℕ → Bool) (T : ℕ → ℕ) (v : ℕ) → ((k : ℕ) → k < waits → into k ≡ v → met k ≡ true) → latest_met C met T v ≡ max_below waits (λ k. pick (eqb (into k) v) (T (from k)) 0)
  unfolding latest_met
  latest_all met T v all = max_ext waits _ _ (λ k h. by_cases (eqb (into k) v) (λ e. rw (e, all k h (eqb-true _ _ e)) refl) (λ e. rw e refl))

  pub latest-zero : (met : ℕ → Bool) (T : ℕ → ℕ) (v : ℕ) → ((k : ℕ) → k < waits → met k ≡ true → T (from k) ≡ 0) → latest_met C met T v ≡ 0
  unfolding latest_met
  latest-zero met T v none = omega (arith, max_least waits (λ k. pick (eqb (into k) v && met k) (T (from k)) 0) 0 each)
    where
      each : (k : ℕ) → k < waits → pick (eqb (into k) v && met k) (T (from k)) 0 ≤ 0
      each k h = by_cases (eqb (into k) v && met k)
          (λ e. rw e (omega (arith, none k h (and_right (eqb (into k) v) _ e))))
          (λ e. rw e (omega arith))
