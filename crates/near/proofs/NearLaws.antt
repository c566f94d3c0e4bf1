-- When two locations meet, and the search of a pair by halving. Assumes nothing.
use mathlib.Core.Path.{◌≡◌, refl, sym, ◌∙◌}
use mathlib.Core.Logic.{◌≢◌, ◌⊎◌, inl, inr}
use mathlib.Core.List.{List, [], ◌∷◌}
use mathlib.Core.Bool.{Bool, true, false, false≢true, ◌&&◌, ◌||◌}
use Prim.Native.Nat.{ℕ, zero, suc, ◌+◌, ◌*◌, ◌-◌, ◌≤◌, ◌<◌}
use native.Mathlib.Omega.{arith}
use lib.Dec.{ltb, leb, eqb}
use borrow.Author.Tests.{ltb-true, ltb-false, leb-true, eqb-true, eqb-false, lt-ltb, le-ltb, le-leb, eq-eqb, ne_eqb}
use Rattle.below.specs.Below.{at, first_below, pair_before}
use Rattle.below.proofs.Tests.{by_cases, and_left, and_right, same_test}
use Rattle.below.proofs.Search.{first_below_first, first_below_ext}
use Rattle.below.proofs.Every.{all_below-at}
use Rattle.below.proofs.Gaps.{over_gap}
use Rattle.tables.specs.Limits.{Limits, most_pairs}
use Rattle.near.specs.Claims.{NearClaims}
use Rattle.near.specs.Near.{lower, upper, pair_count, listed_in, is_listed, near, meets_in, pair_sound, pairs_sound, SoundPairs, Paired, key_at}

or_true : (a b : Bool) → a || b ≡ true → (a ≡ true) ⊎ (b ≡ true)
or_true true b e = inl refl
or_true false b e = inr e

or_swap : (a b : Bool) → a || b ≡ b || a
or_swap true true = refl
or_swap true false = refl
or_swap false true = refl
or_swap false false = refl

or_ends : (b : Bool) → b || true ≡ true
or_ends true = refl
or_ends false = refl

or_none : (b : Bool) → b || false ≡ b
or_none true = refl
or_none false = refl

-- ---- a listed pair by its index

lower-after : (x y : ℕ) (pairs : List ℕ) (i : ℕ) → lower (x ∷ (y ∷ pairs)) (suc i) ≡ lower pairs i
lower-after x y pairs i = let e : 2 * suc i ≡ suc (suc (2 * i)) = omega arith in rw e refl

upper-after : (x y : ℕ) (pairs : List ℕ) (i : ℕ) → upper (x ∷ (y ∷ pairs)) (suc i) ≡ upper pairs i
upper-after x y pairs i = let e : 2 * suc i + 1 ≡ suc (suc (2 * i + 1)) = omega arith in rw e refl

-- pair i is one of the first n: no upper number up to it is zero
pub record Stands (n : ℕ) (pairs : List ℕ) (i : ℕ) : Type 0 where
  pub within : i < n
  pub ended : (j : ℕ) → j ≤ i → eqb (upper pairs j) 0 ≡ false

stands_first : (n x y : ℕ) (pairs : List ℕ) → eqb y 0 ≡ false → Stands (suc n) (x ∷ (y ∷ pairs)) 0
stands_first n x y pairs h = record { within = omega arith; ended = λ j l. let z : j ≡ 0 = omega arith in rw z h }

stands_after_lem : (n x y : ℕ) (pairs : List ℕ) (i : ℕ) → eqb y 0 ≡ false → Stands n pairs i → Stands (suc n) (x ∷ (y ∷ pairs)) (suc i)
stands_after_lem n x y pairs i h s = record { within = omega (arith, s.within); ended = each }
  where
    each : (j : ℕ) → j ≤ suc i → eqb (upper (x ∷ (y ∷ pairs)) j) 0 ≡ false
    each zero l = h
    each (suc j) l = rw (upper-after x y pairs j) (s.ended j (omega arith))

stands-before : (n x y : ℕ) (pairs : List ℕ) (i : ℕ) → Stands (suc n) (x ∷ (y ∷ pairs)) (suc i) → Stands n pairs i
stands-before n x y pairs i s = record {
  within = omega (arith, s.within);
  ended = λ j l. let e = s.ended (suc j) (omega arith) in rw (upper-after x y pairs j) at e;
}

listed-stands : (n : ℕ) (pairs : List ℕ) (a b : ℕ) → listed_in n pairs a b ≡ true → (i : ℕ) × Stands n pairs i × (lower pairs i ≡ a) × (upper pairs i ≡ b)
unfolding listed_in
listed-stands zero pairs a b e = absurd (false≢true e)
listed-stands (suc n) [] a b e = absurd (false≢true e)
listed-stands (suc n) (x ∷ []) a b e = absurd (false≢true e)
listed-stands (suc n) (x ∷ (zero ∷ pairs)) a b e = absurd (false≢true e)
listed-stands (suc n) (x ∷ (suc y ∷ pairs)) a b e =
    elim (or_true (eqb x a && eqb (suc y) b) (listed_in n pairs a b) e) [
      | inl f ↦ (0, stands_first n x (suc y) pairs above, eqb-true x a (and_left _ _ f), eqb-true (suc y) b (and_right (eqb x a) _ f))
      | inr f ↦ later (listed-stands n pairs a b f)
    ]
  where
    above : eqb (suc y) 0 ≡ false
    above = ne_eqb (suc y) 0 (λ z. omega arith)

    later : (i : ℕ) × Stands n pairs i × (lower pairs i ≡ a) × (upper pairs i ≡ b) → (i : ℕ) × Stands (suc n) (x ∷ (suc y ∷ pairs)) i × (lower (x ∷ (suc y ∷ pairs)) i ≡ a) × (upper (x ∷ (suc y ∷ pairs)) i ≡ b)
    later (i, s, p, q) = (suc i, stands_after_lem n x (suc y) pairs i above s, lower-after x (suc y) pairs i ∙ p, upper-after x (suc y) pairs i ∙ q)

stands-listed : (n : ℕ) (pairs : List ℕ) (a b i : ℕ) → Stands n pairs i → lower pairs i ≡ a → upper pairs i ≡ b → listed_in n pairs a b ≡ true
unfolding listed_in
stands-listed zero pairs a b i s p q = absurd (omega (arith, s.within))
stands-listed (suc n) [] a b i s p q = absurd (false≢true (sym (s.ended 0 (omega arith))))
stands-listed (suc n) (x ∷ []) a b i s p q = absurd (false≢true (sym (s.ended 0 (omega arith))))
stands-listed (suc n) (x ∷ (zero ∷ pairs)) a b i s p q = absurd (false≢true (sym (s.ended 0 (omega arith))))
stands-listed (suc n) (x ∷ (suc y ∷ pairs)) a b zero s p q = rw (eq-eqb x a p, eq-eqb (suc y) b q) refl
stands-listed (suc n) (x ∷ (suc y ∷ pairs)) a b (suc i) s p q =
    let more = stands-listed n pairs a b i (stands-before n x (suc y) pairs i s) (sym (lower-after x (suc y) pairs i) ∙ p) (sym (upper-after x (suc y) pairs i) ∙ q) in
    rw more (or_ends (eqb x a && eqb (suc y) b))

-- .. and so it is counted
stands-counted : (pairs : List ℕ) (i : ℕ) → Stands most_pairs pairs i → i < pair_count pairs
unfolding pair_count
stands-counted pairs i s = by_cases (ltb i (first_below most_pairs (λ i. eqb (upper pairs i) 0)))
    (λ e. ltb-true _ _ e)
    (λ e. absurd (false≢true (sym (s.ended _ (ltb-false _ _ e)) ∙ (first_below_first most_pairs (λ i. eqb (upper pairs i) 0)).found (omega (arith, ltb-false i _ e, s.within)))))

counted-stands : (pairs : List ℕ) (i : ℕ) → i < pair_count pairs → Stands most_pairs pairs i
unfolding pair_count
counted-stands pairs i l = record {
  within = omega (arith, (first_below_first most_pairs (λ i. eqb (upper pairs i) 0)).within);
  ended = λ j k. (first_below_first most_pairs (λ i. eqb (upper pairs i) 0)).skipped j (omega (arith, k));
}

-- ---- the definitions
module _ (pairs : List ℕ) where
  pub count_within : pair_count pairs ≤ most_pairs
  unfolding pair_count
  count_within = (first_below_first (most_pairs) (λ i. eqb (upper pairs i) 0)).within

  -- which location is named first makes no difference
  pub near-symmetric : (a b : ℕ) → near pairs a b ≡ near pairs b a
  unfolding near
  near-symmetric a b = or_swap (is_listed pairs a b) (is_listed pairs b a)

  pub meets_symmetric : (a b : ℕ) → meets_in pairs a b ≡ true → meets_in pairs b a ≡ true
  unfolding meets_in
  meets_symmetric a b e = by_cases (eqb a b)
      (λ h. rw (eq-eqb b a (sym (eqb-true a b h))) refl)
      (λ h. rw (ne_eqb b a (λ q. eqb-false a b h (sym q)), near-symmetric b a) (rw h at e))

  pub meets_same : (a : ℕ) → meets_in pairs a a ≡ true
  unfolding meets_in
  meets_same a = rw (eq-eqb a a refl) refl

  -- a listed pair stands somewhere
  pub listed_at : (a b : ℕ) → is_listed pairs a b ≡ true → (i : ℕ) × (i < pair_count pairs) × (lower pairs i ≡ a) × (upper pairs i ≡ b)
  listed_at a b e = let (i, s, p, q) = listed-stands most_pairs pairs a b e in (i, stands-counted pairs i s, p, q)

  pub at_listed : (a b i : ℕ) → i < pair_count pairs → lower pairs i ≡ a → upper pairs i ≡ b → is_listed pairs a b ≡ true
  at_listed a b i l p q = stands-listed most_pairs pairs a b i (counted-stands pairs i l) p q

  -- what it is to meet, and to be near
  pub meets_either : (a b : ℕ) → meets_in pairs a b ≡ eqb a b || near pairs a b
  unfolding meets_in
  meets_either a b = refl

  pub meets_cases : (a b : ℕ) → meets_in pairs a b ≡ true → (a ≡ b) ⊎ (near pairs a b ≡ true)
  unfolding meets_in
  meets_cases a b e = elim (or_true (eqb a b) (near pairs a b) e) [ inl h ↦ inl (eqb-true a b h) | inr h ↦ inr h ]

  pub near_cases : (a b : ℕ) → near pairs a b ≡ true → (is_listed pairs a b ≡ true) ⊎ (is_listed pairs b a ≡ true)
  unfolding near
  near_cases a b e = or_true (is_listed pairs a b) (is_listed pairs b a) e

  at-near : (i : ℕ) → i < pair_count pairs → near pairs (lower pairs i) (upper pairs i) ≡ true
  unfolding near
  at-near i l = rw (at_listed (lower pairs i) (upper pairs i) i l refl refl) refl

  -- "A plan read without a site text behaves as before": with no pairs, only the same locations meet
  module _ (none : pair_count pairs ≡ 0) where
    pub listed-none : (a b : ℕ) → is_listed pairs a b ≡ false
    listed-none a b = by_cases (is_listed pairs a b) (λ e. let (i, l, p, q) = listed_at a b e in absurd (omega arith)) (λ e. e)

    pub near_none : (a b : ℕ) → near pairs a b ≡ false
    unfolding near
    near_none a b = rw (listed-none a b, listed-none b a) refl

    pub meets_none : (a b : ℕ) → meets_in pairs a b ≡ eqb a b
    unfolding meets_in
    meets_none a b = rw (near_none a b) (or_none (eqb a b))

  -- entries past the full size are not read: tables with the same entries up to it have the same pairs, and the same locations meet
  module _ (pairs' : List ℕ) (same : (j : ℕ) → j < 2 * most_pairs → at pairs j ≡ at pairs' j) where
    pub count_same : pair_count pairs ≡ pair_count pairs'
    unfolding pair_count
    count_same = first_below_ext (most_pairs) _ _ (λ i l. rw (same (2 * i + 1) (omega arith)) refl)

-- so what one lists, the other does
listed_too : (pairs pairs' : List ℕ) → ((j : ℕ) → j < 2 * most_pairs → at pairs j ≡ at pairs' j) → (a b : ℕ) → is_listed pairs a b ≡ true → is_listed pairs' a b ≡ true
listed_too pairs pairs' same a b e =
    let (i, l, p, q) = listed_at pairs a b e in
    let c = count_within pairs in
    at_listed pairs' a b i (omega (arith, l, count_same pairs pairs' same)) (sym (same (2 * i) (omega (arith, l, c))) ∙ p) (sym (same (2 * i + 1) (omega (arith, l, c))) ∙ q)

pub meets_entries : (pairs pairs' : List ℕ) → ((j : ℕ) → j < 2 * most_pairs → at pairs j ≡ at pairs' j) → (a b : ℕ) → meets_in pairs a b ≡ meets_in pairs' a b
unfolding meets_in near
meets_entries pairs pairs' same a b = rw (listed a b, listed b a) refl
  where
    listed : (a b : ℕ) → is_listed pairs a b ≡ is_listed pairs' a b
    listed a b = same_test _ _ (listed_too pairs pairs' same a b) (listed_too pairs' pairs (λ j l. sym (same j l)) a b)

module _ (L : Limits) (pairs : List ℕ) where
  -- what the tests of the pairs say
  pub paired : (c : ℕ) → SoundPairs L pairs → c ≡ pair_count pairs → Paired L pairs c
  unfolding pairs_sound pair_sound
  paired c s e = record {
    room = s.has_pairs;
    counted = e;
    lowers = λ i l. ltb-true _ _ (and_left _ _ (each i l));
    fits = λ i l. leb-true _ _ (and_left _ _ (rest i l));
    rises = λ i l.
        let q : (eqb (suc i) 0 || pair_before (lower pairs (suc i - 1)) (upper pairs (suc i - 1)) (lower pairs (suc i)) (upper pairs (suc i))) ≡ true = and_right (leb (upper pairs (suc i)) L.location) _ (rest (suc i) l) in
        let z : suc i - 1 ≡ i = omega arith in
        rw (ne_eqb (suc i) 0 (λ z. omega arith), z) at q;
  }
    where
      each : (i : ℕ) → i < c → pair_sound L pairs i ≡ true
      each i l = all_below-at (pair_count pairs) (pair_sound L pairs) s.sound_pairs i (omega (arith, e))

      rest : (i : ℕ) → i < c → (leb (upper pairs i) L.location && (eqb i 0 || pair_before (lower pairs (i - 1)) (upper pairs (i - 1)) (lower pairs i) (upper pairs i))) ≡ true
      rest i l = and_right (ltb (lower pairs i) (upper pairs i)) _ (each i l)

-- ---- pairs in order
module _ {L : Limits} {pairs : List ℕ} {c : ℕ} (P : Paired L pairs c) where
  -- of two locations only the lower can stand first
  pub listed_order : (a b : ℕ) → b ≤ a → is_listed pairs a b ≡ false
  listed_order a b l = by_cases (is_listed pairs a b)
      (λ e. let (i, k, p, q) = listed_at pairs a b e in absurd (omega (arith, P.lowers i (omega (arith, P.counted)), p, q)))
      (λ e. e)

  pub near_upward : (a b : ℕ) → a < b → near pairs a b ≡ is_listed pairs a b
  unfolding near
  near_upward a b l = rw (listed_order b a (omega arith)) (or_none (is_listed pairs a b))

  pub near_downward : (a b : ℕ) → b < a → near pairs a b ≡ is_listed pairs b a
  near_downward a b l = near-symmetric pairs a b ∙ near_upward b a l

  -- no location is near itself
  pub near_apart : (a : ℕ) → near pairs a a ≡ false
  unfolding near
  near_apart a = rw (listed_order a a (omega arith)) refl

  pub meets_upward : (a b : ℕ) → a < b → is_listed pairs a b ≡ meets_in pairs a b
  unfolding meets_in
  meets_upward a b l = rw (ne_eqb a b (λ e. omega arith), near_upward a b l) refl

  pub meets_downward : (a b : ℕ) → b < a → is_listed pairs b a ≡ meets_in pairs a b
  unfolding meets_in
  meets_downward a b l = rw (ne_eqb a b (λ e. omega arith), near_downward a b l) refl

  pub meets_equal : (a b : ℕ) → a ≡ b → true ≡ meets_in pairs a b
  meets_equal a b e = rw e (sym (meets_same pairs b))

-- ---- the search of a pair; locations are of 16 bits
module _ (pairs : List ℕ) (c : ℕ) where
  -- the pairs before lo come before the key, those from hi on do not
  pub record Halved (key lo hi : ℕ) : Type 0 where
    pub order : lo ≤ hi
    pub within : hi ≤ c
    pub before : (i : ℕ) → i < lo → key_at pairs i < key
    pub after : (i : ℕ) → hi ≤ i → i < c → key ≤ key_at pairs i

  pub halved_start : (key : ℕ) → Halved key 0 c
  halved_start key = record { order = omega arith; within = omega arith; before = λ i l. absurd (omega arith); after = λ i l k. absurd (omega arith) }

module _ {L : Limits} {pairs : List ℕ} {c : ℕ} (P : Paired L pairs c) (small : L.location < 65536) where
  key_step : (i : ℕ) → suc i < c → key_at pairs i < key_at pairs (suc i)
  unfolding pair_before
  key_step i l =
      let b : (ltb (lower pairs i) (lower pairs (suc i)) || (eqb (lower pairs i) (lower pairs (suc i)) && ltb (upper pairs i) (upper pairs (suc i)))) ≡ true = P.rises i l in
      elim (or_true (ltb (lower pairs i) (lower pairs (suc i))) _ b) [
        | inl e ↦ omega (arith, ltb-true (lower pairs i) (lower pairs (suc i)) e, P.fits i (omega arith), small)
        | inr e ↦ omega (arith, eqb-true (lower pairs i) (lower pairs (suc i)) (and_left _ _ e), ltb-true (upper pairs i) (upper pairs (suc i)) (and_right (eqb (lower pairs i) (lower pairs (suc i))) _ e))
      ]

  pub key_rises : (i j : ℕ) → i < j → j < c → key_at pairs i < key_at pairs j
  key_rises i j l k = over_gap (λ (u : ℕ). u < c → key_at pairs i < key_at pairs u) (suc i) j l
      (λ u a b h m. let s : u + 1 ≡ suc u = omega arith in rw s (omega (arith, h (omega arith), key_step u (omega arith)))) (λ m. key_step i m) k

  module _ (key lo hi m : ℕ) (H : Halved pairs c key lo hi) (a : lo ≤ m) (b : m < hi) where
    pub halved_up : key_at pairs m < key → Halved pairs c key (m + 1) hi
    halved_up e = record {
      order = omega arith;
      within = H.within;
      before = λ i l. by_cases (eqb i m)
          (λ q. rw (eqb-true i m q) e)
          (λ q. let ne : i ≢ m = eqb-false i m q in omega (arith, e, key_rises i m (omega arith) (omega (arith, H.within))));
      after = H.after;
    }

    pub halved_down : key ≤ key_at pairs m → Halved pairs c key lo m
    halved_down e = record {
      order = a;
      within = omega (arith, H.within);
      before = H.before;
      after = λ i l k. by_cases (eqb i m)
          (λ q. rw (eqb-true i m q) e)
          (λ q. let ne : i ≢ m = eqb-false i m q in omega (arith, e, key_rises m i (omega arith) k));
    }

  module _ (a b key lo hi : ℕ) (ek : key ≡ a * 65536 + b) (low : b < 65536) (H : Halved pairs c key lo hi) (done : hi ≤ lo) where
    pub listed-past : c ≤ lo → false ≡ is_listed pairs a b
    listed-past k = by_cases (is_listed pairs a b)
        (λ e. let (i, l, p, q) = listed_at pairs a b e in absurd (omega (arith, H.before i (omega (arith, P.counted)), p, q)))
        (λ e. sym e)

    pub listed_here : lo < c → eqb (key_at pairs lo) key ≡ is_listed pairs a b
    listed_here k = same_test _ _
        (λ e. at_listed pairs a b lo (omega (arith, P.counted)) (omega (arith, eqb-true (key_at pairs lo) key e, P.fits lo k, small)) (omega (arith, eqb-true (key_at pairs lo) key e, P.fits lo k, small)))
        (λ e. let (i, l, p, q) = listed_at pairs a b e in
        let s : key_at pairs i ≡ key = omega (arith, p, q) in
        let t : i ≡ lo = same i (omega (arith, P.counted)) s in
        eq-eqb _ _ (rw t at s))
      where
        same : (i : ℕ) → i < c → key_at pairs i ≡ key → i ≡ lo
        same i l s = by_cases (ltb i lo)
            (λ e. absurd (omega (arith, H.before i (ltb-true i lo e))))
            (λ e. by_cases (ltb lo i)
            (λ f. absurd (omega (arith, key_rises lo i (ltb-true lo i f) l, H.after lo done k)))
            (λ f. omega (arith, ltb-false i lo e, ltb-false lo i f)))

-- ---- the test of a pair, as the code makes it
module _ (L : Limits) (pairs : List ℕ) (i : ℕ) where
  pub pair_level : upper pairs i ≤ lower pairs i → false ≡ pair_sound L pairs i
  unfolding pair_sound
  pair_level h = rw (le-ltb (lower pairs i) (upper pairs i) h) refl

  module _ (up : lower pairs i < upper pairs i) (fit : upper pairs i ≤ L.location) where
    pub pair-zero : i ≡ 0 → true ≡ pair_sound L pairs i
    unfolding pair_sound
    pair-zero z = rw (lt-ltb (lower pairs i) (upper pairs i) up, le-leb (upper pairs i) L.location fit, eq-eqb i 0 z) refl

    pub pair-after : (k l : ℕ) → i ≢ 0 → upper pairs (i - 1) < 65536 → upper pairs i < 65536 → k ≡ key_at pairs (i - 1) → l ≡ key_at pairs i → ltb k l ≡ pair_sound L pairs i
    unfolding pair_sound pair_before
    pair-after k l ne a b ek el = rw (lt-ltb (lower pairs i) (upper pairs i) up, le-leb (upper pairs i) L.location fit, ne_eqb i 0 ne, ek, el) (same_test _ _ there back)
      where
        there : ltb (key_at pairs (i - 1)) (key_at pairs i) ≡ true → (ltb (lower pairs (i - 1)) (lower pairs i) || (eqb (lower pairs (i - 1)) (lower pairs i) && ltb (upper pairs (i - 1)) (upper pairs i))) ≡ true
        there e = by_cases (ltb (lower pairs (i - 1)) (lower pairs i))
            (λ h. rw h refl)
            (λ h. let s : lower pairs (i - 1) ≡ lower pairs i = omega (arith, ltb-true (key_at pairs (i - 1)) (key_at pairs i) e, ltb-false (lower pairs (i - 1)) (lower pairs i) h) in
            rw (h, eq-eqb _ _ s, lt-ltb (upper pairs (i - 1)) (upper pairs i) (omega (arith, ltb-true (key_at pairs (i - 1)) (key_at pairs i) e, s))) refl)

        back : (ltb (lower pairs (i - 1)) (lower pairs i) || (eqb (lower pairs (i - 1)) (lower pairs i) && ltb (upper pairs (i - 1)) (upper pairs i))) ≡ true → ltb (key_at pairs (i - 1)) (key_at pairs i) ≡ true
        back e = elim (or_true (ltb (lower pairs (i - 1)) (lower pairs i)) _ e) [
          | inl h ↦ lt-ltb (key_at pairs (i - 1)) (key_at pairs i) (omega (arith, ltb-true (lower pairs (i - 1)) (lower pairs i) h, a))
          | inr h ↦ lt-ltb (key_at pairs (i - 1)) (key_at pairs i) (omega (arith, eqb-true (lower pairs (i - 1)) (lower pairs i) (and_left _ _ h), ltb-true (upper pairs (i - 1)) (upper pairs i) (and_right (eqb (lower pairs (i - 1)) (lower pairs i)) _ h)))
        ]

-- ---- the claims

pub near_claims : (L : Limits) (pairs : List ℕ) → NearClaims L pairs
near_claims L pairs = record {
  near_either_way = near-symmetric pairs;
  meet_either_way = meets_symmetric pairs;
  meets_itself = meets_same pairs;
  without_pairs = meets_none pairs;
  pairs_near = λ i l. at-near pairs i l;
  never_itself = λ s. near_apart (paired L pairs (pair_count pairs) s refl);
  entries_read = meets_entries pairs;
}
