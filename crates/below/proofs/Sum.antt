-- Sums below n, of one index and of two. Assumes nothing.
use mathlib.Core.Path.{◌≡◌, refl, sym, subst}
use mathlib.Core.Logic.{inl, inr}
use mathlib.Core.Bool.{Bool, true, false}
use Prim.Native.Nat.{ℕ, zero, suc, ◌+◌, ◌-◌, ◌*◌, ◌≤◌, ◌<◌}
use native.Mathlib.Nat.{le_antisymm, add-zero, add-suc, suc-mul}
use native.Mathlib.Numerals.{add-one}
use native.Mathlib.Omega.{arith}
use lib.Dec.{ltb}
use borrow.Author.Tests.{ltb-true, ltb-false}
use Rattle.below.specs.Below.{pick, count_below, sum_below}
use Rattle.below.proofs.Tests.{by_cases, below_cases}

pub sum_mono : (n : ℕ) (f g : ℕ → ℕ) → ((i : ℕ) → i < n → f i ≤ g i) → sum_below n f ≤ sum_below n g
unfolding sum_below
sum_mono zero f g h = omega arith
sum_mono (suc n) f g h = omega (arith, sum_mono n f g (λ i l. h i (omega arith)), h n (omega arith))

-- one smaller summand makes a smaller sum
pub sum_less : (n : ℕ) (f g : ℕ → ℕ) → ((i : ℕ) → i < n → f i ≤ g i) → (j : ℕ) → j < n → f j < g j → sum_below n f < sum_below n g
unfolding sum_below
sum_less zero f g h j l k = absurd (omega arith)
sum_less (suc n) f g h j l k = elim (below_cases l) [
  | inl m ↦ omega (arith, sum_less n f g (λ i l. h i (omega arith)) j m k, h n (omega arith))
  | inr e ↦ omega (arith, sum_mono n f g (λ i l. h i (omega arith)), rw e at k)
]

-- the difference of one summand is one of the sums
pub sum_gap : (n : ℕ) (f g : ℕ → ℕ) (c : ℕ) → ((i : ℕ) → i < n → f i ≤ g i) → (j : ℕ) → j < n → f j + c ≤ g j → sum_below n f + c ≤ sum_below n g
unfolding sum_below
sum_gap zero f g c h j l k = absurd (omega arith)
sum_gap (suc n) f g c h j l k = elim (below_cases l) [
  | inl m ↦ omega (arith, sum_gap n f g c (λ i l. h i (omega arith)) j m k, h n (omega arith))
  | inr e ↦ omega (arith, sum_mono n f g (λ i l. h i (omega arith)), rw e at k)
]

pub sum-at : (n : ℕ) (f : ℕ → ℕ) (i : ℕ) → i < n → f i ≤ sum_below n f
unfolding sum_below
sum-at zero f i l = absurd (omega arith)
sum-at (suc n) f i l = elim (below_cases l) [ inl m ↦ omega (arith, sum-at n f i m) | inr e ↦ rw e (omega arith) ]

pub sum_ext : (n : ℕ) (f g : ℕ → ℕ) → ((i : ℕ) → i < n → f i ≡ g i) → sum_below n f ≡ sum_below n g
unfolding sum_below
sum_ext zero f g h = refl
sum_ext (suc n) f g h = omega (arith, sum_ext n f g (λ i l. h i (omega arith)), h n (omega arith))

pub sum_bound : (n : ℕ) (f : ℕ → ℕ) (b : ℕ) → ((i : ℕ) → i < n → f i ≤ b) → sum_below n f ≤ n * b
unfolding sum_below
sum_bound zero f b h = omega arith
sum_bound (suc n) f b h = rw suc-mul (omega (arith, sum_bound n f b (λ i l. h i (omega arith)), h n (omega arith)))

-- a sum of which some summands are one more
pub sum_count : (n : ℕ) (b : ℕ → Bool) (f g : ℕ → ℕ) → ((i : ℕ) → i < n → f i ≡ pick (b i) (suc (g i)) (g i)) → sum_below n f ≡ count_below n b + sum_below n g
unfolding sum_below count_below
sum_count zero b f g h = refl
sum_count (suc n) b f g h = go (b n) (h n (omega arith)) (sum_count n b f g (λ i l. h i (omega arith)))
  where
    go : (c : Bool) → f n ≡ pick c (suc (g n)) (g n) → sum_below n f ≡ count_below n b + sum_below n g → sum_below n f + f n ≡ pick c (suc (count_below n b)) (count_below n b) + (sum_below n g + g n)
    go true e s = omega arith
    go false e s = omega arith

pub count_sum : (n : ℕ) (q : ℕ → Bool) → count_below n q ≡ sum_below n (λ i. pick (q i) 1 0)
unfolding count_below sum_below
count_sum zero q = refl
count_sum (suc n) q = by_cases (q n) (λ e. rw e (omega (arith, count_sum n q))) (λ e. rw e (omega (arith, count_sum n q)))

pub sum-zero : (n : ℕ) → sum_below n (λ i. 0) ≡ 0
unfolding sum_below
sum-zero zero = refl
sum-zero (suc n) = rw (sum-zero n) refl

pub sum_plus : (n : ℕ) (f g : ℕ → ℕ) → sum_below n (λ i. f i + g i) ≡ sum_below n f + sum_below n g
unfolding sum_below
sum_plus zero f g = refl
sum_plus (suc n) f g = omega (arith, sum_plus n f g)

-- rows summed are columns summed
pub sum_swap : (f : ℕ → ℕ → ℕ) (m n : ℕ) → sum_below m (λ j. sum_below n (f j)) ≡ sum_below n (λ d. sum_below m (λ j. f j d))
unfolding sum_below
sum_swap f zero n = sym (sum-zero n)
sum_swap f (suc m) n = rw (sum_swap f m n) (sym (sum_plus n (λ d. sum_below m (λ j. f j d)) (f m)))

-- ---- up to a greater bound
sum_up : (n d : ℕ) (f : ℕ → ℕ) → sum_below n f ≤ sum_below (n + d) f
unfolding sum_below
sum_up n zero f = rw add-zero (omega arith)
sum_up n (suc d) f = rw add-suc (omega (arith, sum_up n d f))

pub sum_upto : (i n : ℕ) (f : ℕ → ℕ) → i ≤ n → sum_below i f ≤ sum_below n f
sum_upto i n f l = let e : i + (n - i) ≡ n = omega arith in subst (λ (m : ℕ). sum_below i f ≤ sum_below m f) e (sum_up i (n - i) f)

pub sum_past : (i n : ℕ) (f : ℕ → ℕ) → i < n → sum_below i f + f i ≤ sum_below n f
unfolding sum_below
sum_past i n f l = sum_upto (suc i) n f l

-- the index at which a sum passes k
pub sum_find : (n : ℕ) (f : ℕ → ℕ) (k : ℕ) → k < sum_below n f → (i : ℕ) × (j : ℕ) × (i < n) × (j < f i) × (sum_below i f + j ≡ k)
unfolding sum_below
sum_find zero f k l = absurd (omega arith)
sum_find (suc n) f k l = by_cases (ltb k (sum_below n f))
    (λ e. let (i, j, a, b, c) = sum_find n f k (ltb-true k (sum_below n f) e) in (i, j, omega arith, b, c))
    (λ e. let h : sum_below n f ≤ k = ltb-false k (sum_below n f) e in (n, k - sum_below n f, omega arith, omega arith, omega arith))

-- ---- a running sum, as a loop over i goes
pub sum_more : (n : ℕ) (f : ℕ → ℕ) → sum_below (n + 1) f ≡ sum_below n f + f n
unfolding sum_below
sum_more n f = rw add-one refl

pub sum-suc : (n : ℕ) (f : ℕ → ℕ) → sum_below (suc n) f ≡ sum_below n f + f n
unfolding sum_below
sum-suc n f = refl

module _ (f : ℕ → ℕ) (i : ℕ) where
  pub sum-none : 0 ≡ sum_below 0 f
  unfolding sum_below
  sum-none = refl

  pub sum-turn : (k r : ℕ) → k ≡ sum_below i f → r ≡ f i → k + r ≡ sum_below (i + 1) f
  sum-turn k r e h = rw (sum_more i f, ← e, ← h) refl

  pub sum_end : (k n : ℕ) → i ≤ n → n ≤ i → k ≡ sum_below i f → k ≡ sum_below n f
  sum_end k n a b e = subst (λ (m : ℕ). k ≡ sum_below m f) (le_antisymm a b) e

-- the first summand taken apart
pub sum_first : (n : ℕ) (f : ℕ → ℕ) → sum_below (suc n) f ≡ f 0 + sum_below n (λ i. f (suc i))
unfolding sum_below
sum_first zero f = omega arith
sum_first (suc n) f = omega (arith, sum_first n f)
