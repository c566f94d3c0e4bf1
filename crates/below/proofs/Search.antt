-- The laws of a bounded search: its value is the one index that the record `First` allows, and how a loop goes that finds it. Assumes nothing.
use mathlib.Core.Path.{◌≡◌, refl, sym, ◌∙◌, subst}
use mathlib.Core.Bool.{Bool, true, false}
use Prim.Native.Nat.{ℕ, zero, suc, ◌+◌, ◌-◌, ◌≤◌, ◌<◌}
use native.Mathlib.Nat.{le_antisymm}
use native.Mathlib.Numerals.{add-one}
use native.Mathlib.Omega.{arith}
use lib.Dec.{ltb}
use borrow.Author.Tests.{ltb-true, ltb-false}
use Rattle.below.specs.Below.{pick, first_below, First}
use Rattle.below.proofs.Tests.{by_cases, true_or_false, below_suc}

pub first_below_first : (n : ℕ) (f : ℕ → Bool) → First n f (first_below n f)
unfolding first_below
first_below_first zero f = record { within = omega arith; skipped = λ i h. absurd (omega arith); found = λ h. absurd (omega arith) }
first_below_first (suc n) f = go (ltb (first_below n f) n) (f n) refl refl (first_below_first n f)
  where
    go : (b c : Bool) → ltb (first_below n f) n ≡ b → f n ≡ c → First n f (first_below n f) → First (suc n) f (pick b (first_below n f) (pick c n (suc n)))
    go true c e fn r = record { within = omega arith; skipped = r.skipped; found = λ h. r.found (ltb-true _ _ e) }
    go false true e fn r =
        let l : n ≤ first_below n f = ltb-false _ _ e in
        record { within = omega arith; skipped = λ i h. r.skipped i (omega arith); found = λ h. fn }
    go false false e fn r =
        let l : n ≤ first_below n f = ltb-false _ _ e in
        record { within = omega arith; skipped = below_suc (λ i. f i ≡ false) (λ i h. r.skipped i (omega arith)) fn; found = λ h. absurd (omega arith) }

-- there is one such index
pub first_unique : {n : ℕ} {f : ℕ → Bool} {r s : ℕ} → First n f r → First n f s → r ≡ s
first_unique {n} {f} {r} {s} a b = by_cases (ltb r s) (λ e. low a b (ltb-true _ _ e)) (λ e. by_cases (ltb s r) (λ k. sym (low b a (ltb-true _ _ k))) (λ k. omega (arith, ltb-false r s e, ltb-false s r k)))
  where
    low : {x y : ℕ} → First n f x → First n f y → x < y → x ≡ y
    low {x} {y} a b h = true_or_false (a.found (omega (arith, b.within))) (b.skipped x h)

pub first_below_is : {n : ℕ} {f : ℕ → Bool} {r : ℕ} → First n f r → first_below n f ≡ r
first_below_is {n} {f} a = first_unique (first_below_first n f) a

pub first_below_ext : (n : ℕ) (f g : ℕ → Bool) → ((i : ℕ) → i < n → f i ≡ g i) → first_below n f ≡ first_below n g
first_below_ext n f g h =
    let r : First n g (first_below n g) = first_below_first n g in
    first_below_is (record { within = r.within; skipped = λ i l. h i (omega (arith, r.within)) ∙ r.skipped i l; found = λ l. h (first_below n g) l ∙ r.found l })

-- ---- as a loop over i goes: nothing found below i, the search at its first and last index
module _ (p : ℕ → Bool) where
  pub first_none : first_below 0 p ≡ 0
  unfolding first_below
  first_none = refl

  passed : (i : ℕ) → first_below i p ≡ i → (k : ℕ) → k < i → p k ≡ false
  passed i e k l = (first_below_first i p).skipped k (omega arith)

  pub first_more : (i : ℕ) → first_below i p ≡ i → p i ≡ false → first_below (i + 1) p ≡ i + 1
  first_more i e h = rw add-one (first_below_is (record { within = omega arith; skipped = below_suc (λ k. p k ≡ false) (passed i e) h; found = λ l. absurd (omega arith) }))

  pub first_hit : (i n : ℕ) → i < n → first_below i p ≡ i → p i ≡ true → i ≡ first_below n p
  first_hit i n l e h = sym (first_below_is (record { within = omega arith; skipped = passed i e; found = λ l. h }))

  pub first_end : (i n : ℕ) → i ≤ n → n ≤ i → first_below i p ≡ i → i ≡ first_below n p
  first_end i n l m e = subst (λ (k : ℕ). i ≡ first_below k p) (le_antisymm l m) (sym e)

  -- the search's value from what holds of each index
  pub first_all : (n : ℕ) → ((k : ℕ) → k < n → p k ≡ false) → first_below n p ≡ n
  first_all n none = first_below_is (record { within = omega arith; skipped = none; found = λ l. absurd (omega arith) })

  pub first_is : (n i : ℕ) → i < n → p i ≡ true → ((k : ℕ) → k < i → p k ≡ false) → first_below n p ≡ i
  first_is n i l h none = first_below_is (record { within = omega arith; skipped = none; found = λ l. h })

  -- no later than an index that passes
  pub first_low : (k n : ℕ) → p k ≡ true → first_below n p ≤ k
  first_low k n h = by_cases (ltb k (first_below n p))
      (λ e. true_or_false h ((first_below_first n p).skipped k (ltb-true k (first_below n p) e)))
      (λ e. ltb-false k (first_below n p) e)
