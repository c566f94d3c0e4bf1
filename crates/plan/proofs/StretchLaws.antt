-- Stretches: the stops of one drone at a location, and the walk that passes over a whole one. Assumes nothing.
use mathlib.Core.Path.{◌≡◌, refl, sym, ap, ◌∙◌, subst}
use mathlib.Core.Logic.{◌≢◌}
use mathlib.Core.List.{List}
use mathlib.Core.Bool.{Bool, true, false, not, ◌&&◌}
use Prim.Native.Nat.{ℕ, ◌+◌, ◌≤◌, ◌<◌}
use native.Mathlib.Omega.{arith}
use lib.Dec.{ltb, eqb}
use lib.ListN.{length, set, length-set}
use lib.Seq.{ext_get_or, get_or-set_same, get_or-set_other}
use borrow.Author.Tests.{ltb-true, ltb-false, eqb-true, eqb-false, lt-ltb, eq-eqb, ne_eqb}
use Rattle.below.specs.Below.{at, fill_below, First}
use Rattle.below.proofs.Tests.{by_cases, true_or_false, and_left, and_right, same_test}
use Rattle.below.proofs.Search.{first_below_first, first_below_ext, first_all, first_is}
use Rattle.below.proofs.Fill.{length_fill, get_d_fill, get_d_unfilled, fill_at}
use Rattle.below.proofs.Gaps.{over_gap}
use Rattle.plan.specs.Sharing.{first_at, next_at, Groups, skip_at, Stretches, after_stop, StopsLinked}
use Rattle.plan.proofs.SharingLaws.{walk_past, walk_on, nexts-same, groups_filled}

module _ (own loc : ℕ → ℕ) where
  -- what a search for the end of the stretch of v looks for
  abbrev Ends : ℕ → ℕ → Bool
  Ends v u = ltb v u && (eqb (loc u) (loc v) && not (eqb (own u) (own v)))

  ends : (v u : ℕ) → v < u → loc u ≡ loc v → own u ≢ own v → Ends v u ≡ true
  ends v u l s ne = rw (lt-ltb v u l, eq-eqb (loc u) (loc v) s, ne_eqb (own u) (own v) ne) refl

  -- such a stop is later, there, and of another drone
  record Ending (v u : ℕ) : Type 0 where
    later : v < u
    there : loc u ≡ loc v
    other : own u ≢ own v

  ending : (v u : ℕ) → Ends v u ≡ true → Ending v u
  ending v u h = record {
    later = ltb-true v u (and_left (ltb v u) _ h);
    there = eqb-true (loc u) (loc v) (and_left _ _ (and_right (ltb v u) _ h));
    other = λ e. true_or_false (and_right (eqb (loc u) (loc v)) _ (and_right (ltb v u) _ h)) (rw (eq-eqb (own u) (own v) e) refl);
  }

module _ (own loc : ℕ → ℕ) (n : ℕ) where
  module _ (v u : ℕ) (e : u ≡ next_at loc n v) where
    next-found : First n (λ u. ltb v u && eqb (loc u) (loc v)) u
    unfolding next_at
    next-found = subst (λ (z : ℕ). First n (λ u. ltb v u && eqb (loc u) (loc v)) z) (sym e) (first_below_first n (λ u. ltb v u && eqb (loc u) (loc v)))

    next-later : v < n → v < u
    next-later l = by_cases (ltb u n)
        (λ k. ltb-true v u (and_left _ _ (next-found.found (ltb-true u n k))))
        (λ k. omega (arith, ltb-false u n k))

    -- before the next stop there the stretch does not end
    not-before : (x : ℕ) → x < u → Ends own loc v x ≡ false
    not-before x l = by_cases (Ends own loc v x)
        (λ h. let E : Ending own loc v x = ending own loc v x h in true_or_false (rw (lt-ltb v x E.later, eq-eqb (loc x) (loc v) E.there) refl) (next-found.skipped x l))
        (λ h. h)

    -- no next stop there, or one of another drone
    pub skip_next : ltb u n && eqb (own u) (own v) ≡ false → u ≡ skip_at own loc n v
    unfolding skip_at
    skip_next h = by_cases (ltb u n)
        (λ k. let l : u < n = ltb-true u n k in
        sym (first_is (Ends own loc v) n u l
        (ends own loc v u (ltb-true v u (and_left _ _ (next-found.found l))) (eqb-true (loc u) (loc v) (and_right (ltb v u) _ (next-found.found l))) (eqb-false (own u) (own v) (rw k at h)))
        not-before))
        (λ k. let q : u ≡ n = omega (arith, ltb-false u n k, next-found.within) in q ∙ sym (first_all (Ends own loc v) n (λ x l. not-before x (omega arith))))

    -- a next stop of the same drone has the same end
    pub skip_on : ltb u n && eqb (own u) (own v) ≡ true → skip_at own loc n u ≡ skip_at own loc n v
    unfolding skip_at
    skip_on h =
        let l : u < n = ltb-true u n (and_left _ _ h) in
        let o : own u ≡ own v = eqb-true (own u) (own v) (and_right (ltb u n) _ h) in
        let b : v < u = ltb-true v u (and_left _ _ (next-found.found l)) in
        let s : loc u ≡ loc v = eqb-true (loc u) (loc v) (and_right (ltb v u) _ (next-found.found l)) in
        first_below_ext n (Ends own loc u) (Ends own loc v) (λ x k. same_test (Ends own loc u x) (Ends own loc v x)
        (λ t. let E : Ending own loc u x = ending own loc u x t in ends own loc v x (omega (arith, E.later, b)) (E.there ∙ s) (λ z. E.other (z ∙ sym o)))
        (λ t. let E : Ending own loc v x = ending own loc v x t in
        ends own loc u x (by_cases (ltb u x) (λ f. ltb-true u x f) (λ f. by_cases (eqb x u)
        (λ z. absurd (E.other (ap own (eqb-true x u z) ∙ o)))
        (λ z. let d : x ≢ u = eqb-false x u z in true_or_false t (not-before x (omega (arith, ltb-false u x f, d))))))
        (E.there ∙ sym s) (λ z. E.other (z ∙ o))))

  -- the stops from w on have the ends of their stretches
  pub record Skipping (skip₀ skip : List ℕ) (w : ℕ) : Type 0 where
    pub size : length skip ≡ length skip₀
    pub done : (v : ℕ) → w ≤ v → v < n → at skip v ≡ skip_at own loc n v
    pub rest : (v : ℕ) → n ≤ v → at skip v ≡ at skip₀ v

  module _ (skip₀ skip : List ℕ) (w : ℕ) (K : Skipping skip₀ skip w) (r : n ≤ length skip₀) where
    skipping_more : (k x : ℕ) → w ≡ k + 1 → k < n → x ≡ skip_at own loc n k → Skipping skip₀ (set skip k x) k
    skipping_more k x e l ex = record {
      size = length-set skip k x ∙ K.size;
      done = λ v a b. by_cases (eqb v k)
          (λ q. let s : v ≡ k = eqb-true v k q in rw s (get_or-set_same skip k x 0 (omega (arith, K.size)) ∙ ex))
          (λ q. let ne : v ≢ k = eqb-false v k q in get_or-set_other skip k v x 0 ne ∙ K.done v (omega arith) b);
      rest = λ v a. get_or-set_other skip k v x 0 (omega arith) ∙ K.rest v a;
    }

    -- stop k, whose next stop there is u: of the same drone, or not
    module _ (k u : ℕ) (e : w ≡ k + 1) (l : k < n) (q : u ≡ next_at loc n k) where
      pub skipping_on : ltb u n && eqb (own u) (own k) ≡ true → Skipping skip₀ (set skip k (at skip u)) k
      skipping_on h = skipping_more k (at skip u) e l (K.done u (omega (arith, next-later k u q l)) (ltb-true u n (and_left _ _ h)) ∙ skip_on k u q h)

      pub skipping_next : (x : ℕ) → x ≡ u → ltb u n && eqb (own u) (own k) ≡ false → Skipping skip₀ (set skip k x) k
      skipping_next x i h = skipping_more k x e l (i ∙ skip_next k u q h)

    pub skipping_end : w ≤ 0 → skip ≡ fill_below n (skip_at own loc n) skip₀
    skipping_end z = ext_get_or 0 skip _ (K.size ∙ sym (length_fill (skip_at own loc n) skip₀ n)) (λ v h. by_cases (ltb v n)
        (λ k. K.done v (omega arith) (ltb-true v n k) ∙ sym (get_d_fill (skip_at own loc n) skip₀ n v (ltb-true v n k) r))
        (λ k. K.rest v (ltb-false v n k) ∙ sym (get_d_unfilled (skip_at own loc n) skip₀ n v (ltb-false v n k))))

-- ---- the walk of the stops at one location, on from stop w to x: past the whole stretch of w or to the next stop there
module _ (own loc : ℕ → ℕ) (n : ℕ) (first next skip : List ℕ) (G : Groups loc n first next) (Z : Stretches own loc n skip) where
  module _ (w x : ℕ) (l : w < n) where
    skip_found : x ≡ at skip w → First n (Ends own loc w) x
    unfolding skip_at
    skip_found e = subst (λ (z : ℕ). First n (Ends own loc w) z) (sym (e ∙ Z.skips w l)) (first_below_first n (Ends own loc w))

    skip_past : x ≡ at skip w → w < x
    skip_past e = by_cases (ltb x n)
        (λ k. (ending own loc w x ((skip_found e).found (ltb-true x n k))).later)
        (λ k. omega (arith, ltb-false x n k))

    pub after-past : (past : Bool) → x ≡ after_stop next skip w past → w < x
    unfolding after_stop
    after-past true e = skip_past e
    after-past false e = walk_past loc n first next G w x l e

    -- what stays over the stops elsewhere, and over those of the drone of w if they are passed over, holds at x if it holds after w
    pub walk_after : (C : ℕ → Type 0) (g : ℕ) (past : Bool) → loc w ≡ g → ((u : ℕ) → u < n → loc u ≢ g → C u → C (u + 1)) → (past ≡ true → (u : ℕ) → own u ≡ own w → C u → C (u + 1)) → C (w + 1) → x ≡ after_stop next skip w past
        → (x ≤ n) × C x × (x < n → loc x ≡ g)
    unfolding after_stop
    walk_after C g true there h o c e = (
      (skip_found e).within,
      over_gap C (w + 1) x (omega (arith, skip_past e)) (λ u a b. by_cases (eqb (loc u) g)
          (λ s. by_cases (eqb (own u) (own w))
          (λ q. o refl u (eqb-true (own u) (own w) q))
          (λ q. true_or_false (ends own loc w u (omega arith) (eqb-true (loc u) g s ∙ sym there) (eqb-false (own u) (own w) q)) ((skip_found e).skipped u b)))
          (λ s. h u (omega (arith, b, (skip_found e).within)) (eqb-false (loc u) g s))) c,
      λ k. (ending own loc w x ((skip_found e).found k)).there ∙ there,
    )
    walk_after C g false there h o c e = walk_on loc n first next G C g w x l there h c e

-- ---- the lists as they were filled: `fills` is what is known of `skip`, whatever the locations that `next` goes by
pub gathered-filled : (own loc : ℕ → ℕ) (n : ℕ) (first₀ first next₀ next skip₀ skip : List ℕ) → n ≤ length first₀ → n ≤ length next₀ → n ≤ length skip₀
    → first ≡ fill_below n (first_at loc) first₀ → next ≡ fill_below n (next_at (at first) n) next₀
    → ((by : ℕ → ℕ) → ((v : ℕ) → v < n → at next v ≡ next_at by n v) → skip ≡ fill_below n (skip_at own by n) skip₀) → StopsLinked own loc n first next skip
gathered-filled own loc n first₀ first next₀ next skip₀ skip r s t e f fills =
    let q : next ≡ fill_below n (next_at loc n) next₀ = nexts-same loc n first₀ first r e next₀ next f in
    record {
      groups = groups_filled loc n first₀ first r e next₀ next s q;
      stretches = record { skips = fill_at (skip_at own loc n) skip₀ n skip (fills loc (fill_at (next_at loc n) next₀ n next q s)) t };
    }
