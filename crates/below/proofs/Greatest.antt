-- The greatest value below n, and the pigeonhole principle. Assumes nothing.
use mathlib.Core.Path.{◌≡◌, refl, sym}
use mathlib.Core.Logic.{◌≢◌, ◌⊎◌, inl, inr}
use mathlib.Core.Bool.{Bool, true, false}
use Prim.Native.Nat.{ℕ, zero, suc, ◌≤◌, ◌<◌}
use native.Mathlib.Omega.{arith}
use lib.Dec.{ltb, leb, eqb}
use borrow.Author.Tests.{ltb-true, ltb-false, leb-true, leb-false, eqb-true, eqb-false}
use Rattle.below.specs.Below.{pick, first_below, First, max_below}
use Rattle.below.proofs.Tests.{by_cases, below_cases}
use Rattle.below.proofs.Search.{first_below_first}

pub max-at : (n : ℕ) (f : ℕ → ℕ) (i : ℕ) → i < n → f i ≤ max_below n f
unfolding max_below
max-at zero f i l = absurd (omega arith)
max-at (suc n) f i l = elim (below_cases l) [ inl m ↦ omega (arith, max-at n f i m) | inr e ↦ rw e (omega arith) ]

pub max_least : (n : ℕ) (f : ℕ → ℕ) (b : ℕ) → ((i : ℕ) → i < n → f i ≤ b) → max_below n f ≤ b
unfolding max_below
max_least zero f b h = omega arith
max_least (suc n) f b h = omega (arith, max_least n f b (λ i l. h i (omega arith)), h n (omega arith))

-- the greatest value is one of the values, unless it is 0
pub max_is : (n : ℕ) (f : ℕ → ℕ) → (max_below n f ≡ 0) ⊎ ((i : ℕ) × (i < n) × (f i ≡ max_below n f))
unfolding max_below
max_is zero f = inl refl
max_is (suc n) f = by_cases (leb (max_below n f) (f n))
    (λ e. inr (n, omega arith, omega (arith, leb-true (max_below n f) (f n) e)))
    (λ e. elim (max_is n f) [
      | inl z ↦ inl (omega (arith, leb-false (max_below n f) (f n) e))
      | inr (i, l, q) ↦ inr (i, omega arith, omega (arith, leb-false (max_below n f) (f n) e))
    ])

pub max_ext : (n : ℕ) (f g : ℕ → ℕ) → ((i : ℕ) → i < n → f i ≡ g i) → max_below n f ≡ max_below n g
unfolding max_below
max_ext zero f g h = refl
max_ext (suc n) f g h = omega (arith, max_ext n f g (λ i l. h i (omega arith)), h n (omega arith))

-- ---- the pigeonhole principle

-- n + 1 numbers below n: two of them are equal
pub pigeonhole : (n : ℕ) (f : ℕ → ℕ) → ((i : ℕ) → i ≤ n → f i < n) → (i : ℕ) × (j : ℕ) × (i < j) × (j ≤ n) × (f i ≡ f j)
pigeonhole zero f h = absurd (omega (arith, h 0 (omega arith)))
pigeonhole (suc n) f h = by_cases (ltb k (suc n)) hit (λ e. miss e (pigeonhole n g (inside e)))
  where
    a : ℕ
    a = f (suc n)

    k : ℕ
    k = first_below (suc n) (λ i. eqb (f i) a)

    first : First (suc n) (λ i. eqb (f i) a) k
    first = first_below_first (suc n) (λ i. eqb (f i) a)

    -- f with the value n renamed to a
    g : ℕ → ℕ
    g i = pick (eqb (f i) n) a (f i)

    hit : ltb k (suc n) ≡ true → (i : ℕ) × (j : ℕ) × (i < j) × (j ≤ suc n) × (f i ≡ f j)
    hit e = let l : k < suc n = ltb-true k (suc n) e in (k, suc n, l, omega arith, eqb-true (f k) a (first.found l))

    apart : ltb k (suc n) ≡ false → (i : ℕ) → i ≤ n → f i ≢ a
    apart e i l = eqb-false (f i) a (first.skipped i (omega (arith, ltb-false k (suc n) e)))

    inside : ltb k (suc n) ≡ false → (i : ℕ) → i ≤ n → g i < n
    inside e i l = go (eqb (f i) n) refl
      where
        go : (b : Bool) → eqb (f i) n ≡ b → pick b a (f i) < n
        go true q = omega (arith, h (suc n) (omega arith), apart e i l, eqb-true (f i) n q)
        go false q = let ne : f i ≢ n = eqb-false (f i) n q in omega (arith, h i (omega arith))

    miss : ltb k (suc n) ≡ false → (i : ℕ) × (j : ℕ) × (i < j) × (j ≤ n) × (g i ≡ g j) → (i : ℕ) × (j : ℕ) × (i < j) × (j ≤ suc n) × (f i ≡ f j)
    miss e (i, j, l, m, q) = (i, j, l, omega arith, go (eqb (f i) n) (eqb (f j) n) refl refl q)
      where
        go : (b c : Bool) → eqb (f i) n ≡ b → eqb (f j) n ≡ c → pick b a (f i) ≡ pick c a (f j) → f i ≡ f j
        go true true x y q = omega (arith, eqb-true (f i) n x, eqb-true (f j) n y)
        go true false x y q = absurd (apart e j m (sym q))
        go false true x y q = absurd (apart e i (omega arith) q)
        go false false x y q = q
