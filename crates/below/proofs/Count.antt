-- How many indices below n pass a test. Assumes nothing.
use mathlib.Core.Path.{◌≡◌, refl, sym, subst}
use mathlib.Core.Bool.{Bool, true, false}
use Prim.Native.Nat.{ℕ, zero, suc, ◌+◌, ◌-◌, ◌≤◌, ◌<◌}
use native.Mathlib.Nat.{le_antisymm, add-zero, add-suc}
use native.Mathlib.Numerals.{add-one}
use native.Mathlib.Omega.{arith}
use lib.Dec.{ltb}
use borrow.Author.Tests.{ltb-true, ltb-false}
use Rattle.below.specs.Below.{pick, count_below}
use Rattle.below.proofs.Tests.{by_cases, below_suc}

pub count_le : (n : ℕ) (f : ℕ → Bool) → count_below n f ≤ n
unfolding count_below
count_le zero f = omega arith
count_le (suc n) f = by_cases (f n) (λ e. rw e (omega (arith, count_le n f))) (λ e. rw e (omega (arith, count_le n f)))

pub count_start : (f : ℕ → Bool) → count_below 0 f ≡ 0
unfolding count_below
count_start f = refl

-- one more index, as a loop's counter goes
pub count_yes : (n : ℕ) (f : ℕ → Bool) → f n ≡ true → count_below (n + 1) f ≡ count_below n f + 1
unfolding count_below
count_yes n f e = rw add-one (rw e (sym (add-one (count_below n f))))

pub count_no : (n : ℕ) (f : ℕ → Bool) → f n ≡ false → count_below (n + 1) f ≡ count_below n f
unfolding count_below
count_no n f e = rw add-one (rw e)

pub count_zero : (n : ℕ) (f : ℕ → Bool) → ((i : ℕ) → i < n → f i ≡ false) → count_below n f ≡ 0
unfolding count_below
count_zero zero f h = refl
count_zero (suc n) f h = rw (h n (omega arith)) (count_zero n f (λ i l. h i (omega arith)))

pub count_none : (n : ℕ) (f : ℕ → Bool) → count_below n f ≡ 0 → (i : ℕ) → i < n → f i ≡ false
unfolding count_below
count_none zero f e i l = absurd (omega arith)
count_none (suc n) f e i l = go (f n) refl e (λ z. count_none n f z)
  where
    go : (b : Bool) → f n ≡ b → pick b (suc (count_below n f)) (count_below n f) ≡ 0 → (count_below n f ≡ 0 → (i : ℕ) → i < n → f i ≡ false) → f i ≡ false
    go true q z below = absurd (omega arith)
    go false q z below = below_suc (λ i. f i ≡ false) (below z) q i l

count_up : (n d : ℕ) (f : ℕ → Bool) → count_below n f ≤ count_below (n + d) f
unfolding count_below
count_up n zero f = rw add-zero (omega arith)
count_up n (suc d) f = rw add-suc (by_cases (f (n + d)) (λ e. rw e (omega (arith, count_up n d f))) (λ e. rw e (count_up n d f)))

pub count_mono : (i n : ℕ) (f : ℕ → Bool) → i ≤ n → count_below i f ≤ count_below n f
count_mono i n f l = let e : i + (n - i) ≡ n = omega arith in subst (λ (m : ℕ). count_below i f ≤ count_below m f) e (count_up i (n - i) f)

-- an index that passes is counted
pub count_past : (i n : ℕ) (f : ℕ → Bool) → i < n → f i ≡ true → count_below i f < count_below n f
unfolding count_below
count_past i n f l e = let s : count_below (suc i) f ≤ count_below n f = count_mono (suc i) n f l in let t : count_below (suc i) f ≡ suc (count_below i f) = rw e refl in omega arith

pub count_find : (n : ℕ) (f : ℕ → Bool) (k : ℕ) → k < count_below n f → (i : ℕ) × (i < n) × (f i ≡ true) × (count_below i f ≡ k)
unfolding count_below
count_find zero f k l = absurd (omega arith)
count_find (suc n) f k l = by_cases (ltb k (count_below n f))
    (λ e. let (i, a, b, c) = count_find n f k (ltb-true k (count_below n f) e) in (i, omega arith, b, c))
    (λ e. go (f n) refl l (ltb-false k (count_below n f) e))
  where
    go : (b : Bool) → f n ≡ b → k < pick b (suc (count_below n f)) (count_below n f) → count_below n f ≤ k → (i : ℕ) × (i < suc n) × (f i ≡ true) × (count_below i f ≡ k)
    go true q l h = (n, omega arith, q, omega arith)
    go false q l h = absurd (omega arith)

-- ---- a running count, as a loop over i goes
module _ (f : ℕ → Bool) (i : ℕ) where
  pub count_hit : (k : ℕ) → k ≡ count_below i f → f i ≡ true → k + 1 ≡ count_below (i + 1) f
  count_hit k e h = rw (count_yes i f h, ← e) refl

  pub count_miss : (k : ℕ) → k ≡ count_below i f → f i ≡ false → k ≡ count_below (i + 1) f
  count_miss k e h = rw (count_no i f h) e

  pub count_end : (k n : ℕ) → i ≤ n → n ≤ i → k ≡ count_below i f → k ≡ count_below n f
  count_end k n a b e = subst (λ (m : ℕ). k ≡ count_below m f) (le_antisymm a b) e

-- the first item of a count
pub count_front : (n : ℕ) (f : ℕ → Bool) → count_below (suc n) f ≡ pick (f 0) 1 0 + count_below n (λ i. f (suc i))
unfolding count_below
count_front zero f = go (f 0)
  where
    go : (b : Bool) → pick b 1 0 ≡ pick b 1 0 + 0
    go true = refl
    go false = refl
count_front (suc n) f = go (f (suc n)) (count_front n f)
  where
    go : (b : Bool) → count_below (suc n) f ≡ pick (f 0) 1 0 + count_below n (λ i. f (suc i)) → pick b (suc (count_below (suc n) f)) (count_below (suc n) f) ≡ pick (f 0) 1 0 + pick b (suc (count_below n (λ i. f (suc i)))) (count_below n (λ i. f (suc i)))
    go true h = omega arith
    go false h = h
