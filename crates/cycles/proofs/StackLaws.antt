-- A stack that holds each drone that passes a test once: what is on top, what a push and a pop make of it, and that it has room. Assumes nothing.
use mathlib.Core.Path.{◌≡◌, refl, sym, ap, ◌∙◌, subst}
use mathlib.Core.Logic.{◌≢◌}
use mathlib.Core.List.{List}
use mathlib.Core.Bool.{Bool, true, false, not, ◌&&◌, and-false, and-true}
use Prim.Native.Nat.{ℕ, ◌+◌, ◌-◌, ◌≤◌, ◌<◌}
use native.Mathlib.Omega.{arith}
use lib.Dec.{ltb, eqb}
use lib.ListN.{length, set, length-set}
use lib.Seq.{get_or-set_same, get_or-set_other}
use borrow.Author.Tests.{ltb-true, ltb-false, eqb-true, eqb-false, eq-eqb, ne_eqb}
use Rattle.below.specs.Below.{at, pick, update, count_below}
use Rattle.below.proofs.Tests.{by_cases, true_or_false}
use Rattle.below.proofs.Count.{count_start, count_yes, count_no, count_past}
use Rattle.below.proofs.Greatest.{pigeonhole}
use Rattle.below.proofs.Index.{put_same, put_other}
use Rattle.tables.specs.Limits.{Limits}
use Rattle.cycles.specs.Walk.{Stacked}
use Rattle.below.proofs.Same.{count_ext}

pub pick_le : (b : Bool) → pick b 1 0 ≤ 1
pick_le true = omega arith
pick_le false = omega arith

pick_some : (b : Bool) → 0 < pick b 1 0 → b ≡ true
pick_some true h = refl
pick_some false h = absurd (omega arith)

pick-none : (b : Bool) → pick b 1 0 ≡ 0 → b ≡ false
pick-none true h = absurd (omega arith)
pick-none false h = refl

module _ {L : Limits} (drones : ℕ) where
  pub stacked-none : (stack : List ℕ) → length stack ≡ L.drones → (can : ℕ → Bool) → ((d : ℕ) → d < drones → can d ≡ false) → Stacked L drones can stack 0
  stacked-none stack e can none = record { size = e; within = λ i l. absurd (omega arith); once = λ d l. rw (none d l) (count_start (λ i. eqb (at stack i) d)) }

  pub stacked-same : (can can' : ℕ → Bool) {stack : List ℕ} {top : ℕ} → ((d : ℕ) → d < drones → can d ≡ can' d) → Stacked L drones can stack top → Stacked L drones can' stack top
  stacked-same can can' same S = record { size = S.size; within = S.within; once = λ d l. S.once d l ∙ ap (λ (b : Bool). pick b 1 0) (same d l) }

  module _ {can : ℕ → Bool} {stack : List ℕ} {top : ℕ} (S : Stacked L drones can stack top) where
    pub stacked_empty : top ≤ 0 → (d : ℕ) → d < drones → can d ≡ false
    stacked_empty h d l = let z : top ≡ 0 = omega arith in pick-none (can d) (sym (S.once d l) ∙ rw z (count_start (λ i. eqb (at stack i) d)))

    -- what is on the stack passes the test
    pub stacked-at : (i : ℕ) → i < top → can (at stack i) ≡ true
    stacked-at i l = pick_some (can (at stack i)) (omega (arith, S.once (at stack i) (S.within i l), count_past i top (λ j. eqb (at stack j) (at stack i)) l (eq-eqb (at stack i) (at stack i) refl)))

    -- no drone is on the stack twice
    stacked-apart : (i j : ℕ) → i < j → j < top → at stack i ≢ at stack j
    stacked-apart i j l k e = omega (
      arith,
      S.once (at stack i) (S.within i (omega arith)),
      pick_le (can (at stack i)),
      count_past i j (λ x. eqb (at stack x) (at stack i)) l (eq-eqb (at stack i) (at stack i) refl),
      count_past j top (λ x. eqb (at stack x) (at stack i)) k (eq-eqb (at stack j) (at stack i) (sym e)),
    )

    -- a drone that does not pass is not on it
    stacked_off : (c : ℕ) → c < drones → can c ≡ false → (i : ℕ) → i < top → at stack i ≢ c
    stacked_off c l e i k q = true_or_false (subst (λ (z : ℕ). can z ≡ true) q (stacked-at i k)) e

    -- while some drone is not on it, there are fewer on it than drones
    pub stacked-room : (c : ℕ) → c < drones → can c ≡ false → top < drones
    stacked-room c l e = by_cases (ltb top drones)
        (λ t. ltb-true _ _ t)
        (λ t. let h : drones ≤ top = ltb-false top drones t in
        let (i, j, a, b, q) = pigeonhole drones (update (at stack) drones c) (inside h) in
        absurd (apart h i j a b q))
      where
        inside : drones ≤ top → (i : ℕ) → i ≤ drones → update (at stack) drones c i < drones
        inside h i k = by_cases (eqb i drones)
            (λ s. let z : i ≡ drones = eqb-true i drones s in rw (z, put_same (at stack) drones c) l)
            (λ s. let z : i ≢ drones = eqb-false i drones s in rw (put_other (at stack) drones c i z) (S.within i (omega arith)))

        apart : drones ≤ top → (i j : ℕ) → i < j → j ≤ drones → update (at stack) drones c i ≡ update (at stack) drones c j → ⊥
        apart h i j a b q = by_cases (eqb j drones)
            (λ s. let z : j ≡ drones = eqb-true j drones s in
            stacked_off c l e i (omega arith) (sym (put_other (at stack) drones c i (λ w. omega arith)) ∙ q ∙ ap (update (at stack) drones c) z ∙ put_same (at stack) drones c))
            (λ s. let z : j ≢ drones = eqb-false j drones s in
            stacked-apart i j a (omega arith) (sym (put_other (at stack) drones c i (λ w. omega arith)) ∙ q ∙ put_other (at stack) drones c j z))

    -- drone c, which is now to be on it, is put on top
    pub stacked_push : (can' : ℕ → Bool) (c : ℕ) → drones ≤ L.drones → c < drones → can c ≡ false → can' c ≡ true → ((d : ℕ) → d < drones → d ≢ c → can d ≡ can' d) → Stacked L drones can' (set stack top c) (top + 1)
    stacked_push can' c few l e e' same = record {
      size = length-set stack top c ∙ S.size;
      within = λ i k. by_cases (eqb i top)
          (λ s. rw (eqb-true i top s, here) l)
          (λ s. let ne : i ≢ top = eqb-false i top s in rw (get_or-set_other stack top i c 0 ne) (S.within i (omega arith)));
      once = λ d k. by_cases (eqb d c)
          (λ s. let z : d ≡ c = eqb-true d c s in
          rw (z, e') (count_yes top (λ i. eqb (at (set stack top c) i) c) (eq-eqb _ _ here) ∙ omega (arith, below c, S.once c l, ap (λ (b : Bool). pick b 1 0) e)))
          (λ s. let ne : d ≢ c = eqb-false d c s in
          count_no top (λ i. eqb (at (set stack top c) i) d) (ne_eqb _ _ (λ q. ne (sym q ∙ here))) ∙ below d ∙ S.once d k ∙ ap (λ (b : Bool). pick b 1 0) (same d k ne));
    }
      where
        room : top < length stack
        room = omega (arith, S.size, stacked-room c l e)

        here : at (set stack top c) top ≡ c
        here = get_or-set_same stack top c 0 room

        below : (d : ℕ) → count_below top (λ i. eqb (at (set stack top c) i) d) ≡ count_below top (λ i. eqb (at stack i) d)
        below d = count_ext top _ _ (λ i k. ap (λ (x : ℕ). eqb x d) (get_or-set_other stack top i c 0 (λ w. omega arith)))

    -- the drone on top, which is now not to be on it, is taken off
    pub stacked_pop : (can' : ℕ → Bool) → 0 < top → can' (at stack (top - 1)) ≡ false → ((d : ℕ) → d < drones → d ≢ at stack (top - 1) → can d ≡ can' d) → Stacked L drones can' stack (top - 1)
    stacked_pop can' h e same = record {
      size = S.size;
      within = λ i l. S.within i (omega arith);
      once = λ d l. by_cases (eqb (at stack (top - 1)) d)
          (λ s. let z : at stack (top - 1) ≡ d = eqb-true _ _ s in
          let off : pick (can' d) 1 0 ≡ 0 = rw (← z, e) refl in
          omega (arith, off, S.once d l, pick_le (can d), one_less d, count_yes (top - 1) (λ i. eqb (at stack i) d) s))
          (λ s. let ne : at stack (top - 1) ≢ d = eqb-false _ _ s in
          sym (count_no (top - 1) (λ i. eqb (at stack i) d) s) ∙ one_less d ∙ S.once d l ∙ ap (λ (b : Bool). pick b 1 0) (same d l (λ q. ne (sym q))));
    }
      where
        one_less : (d : ℕ) → count_below (top - 1 + 1) (λ i. eqb (at stack i) d) ≡ count_below top (λ i. eqb (at stack i) d)
        one_less d = ap (λ (x : ℕ). count_below x (λ i. eqb (at stack i) d)) (let z : top - 1 + 1 ≡ top = omega arith in z)

  pub stacked_few : {can : ℕ → Bool} {stack : List ℕ} {top : ℕ} → Stacked L drones can stack top → 0 < top → top ≤ drones
  stacked_few {can} {stack} {top} S h = omega (arith, stacked-room (stacked_pop S (λ d. can d && not (eqb d (at stack (top - 1)))) h off others) (at stack (top - 1)) (S.within (top - 1) (omega arith)) off)
    where
      off : (can (at stack (top - 1)) && not (eqb (at stack (top - 1)) (at stack (top - 1)))) ≡ false
      off = rw (eq-eqb (at stack (top - 1)) (at stack (top - 1)) refl, and-false) refl

      others : (d : ℕ) → d < drones → d ≢ at stack (top - 1) → can d ≡ (can d && not (eqb d (at stack (top - 1))))
      others d l ne = rw (ne_eqb d (at stack (top - 1)) ne) (sym (and-true (can d)))
