-- Counts, picks, rows and pairs of tests and values that agree below n are the same. Assumes nothing.
use mathlib.Core.Path.{◌≡◌, refl}
use mathlib.Core.Bool.{Bool}
use mathlib.Core.List.{List}
use Prim.Native.Nat.{ℕ, zero, suc, ◌<◌}
use native.Mathlib.Omega.{arith}
use Rattle.below.specs.Below.{count_below, picks, rows_below, pairs_of, listed}
use Rattle.below.proofs.Sum.{sum_ext}

pub count_ext : (n : ℕ) (f g : ℕ → Bool) → ((i : ℕ) → i < n → f i ≡ g i) → count_below n f ≡ count_below n g
unfolding count_below
count_ext zero f g h = refl
count_ext (suc n) f g h = rw (count_ext n f g (λ i l. h i (omega arith)), h n (omega arith)) refl

pub picks_ext : (n : ℕ) (q r : ℕ → Bool) (f g : ℕ → ℕ) → ((i : ℕ) → i < n → q i ≡ r i) → ((i : ℕ) → i < n → f i ≡ g i) → picks n q f ≡ picks n r g
unfolding picks
picks_ext zero q r f g h e = refl
picks_ext (suc n) q r f g h e = rw (picks_ext n q r f g (λ i l. h i (omega arith)) (λ i l. e i (omega arith)), h n (omega arith), e n (omega arith)) refl

pub rows_ext : (n : ℕ) (g k : ℕ → List ℕ) → ((i : ℕ) → i < n → g i ≡ k i) → rows_below n g ≡ rows_below n k
unfolding rows_below
rows_ext zero g k h = refl
rows_ext (suc n) g k h = rw (rows_ext n g k (λ i l. h i (omega arith)), h n (omega arith)) refl

-- the pairs of two tests that agree
module _ (R S : ℕ → ℕ → Bool) (n : ℕ) (same : (v w : ℕ) → v < n → w < n → R v w ≡ S v w) where
  pub pairs_ext : pairs_of R n ≡ pairs_of S n
  pairs_ext = sum_ext n (λ v. count_below n (R v)) (λ v. count_below n (S v)) (λ v l. count_ext n (R v) (S v) (λ w k. same v w l k))

  pub listed_ext : (f g : ℕ → ℕ → ℕ) → ((v w : ℕ) → v < n → w < n → f v w ≡ g v w) → listed R n f ≡ listed S n g
  listed_ext f g e = rows_ext n (λ v. picks n (R v) (f v)) (λ v. picks n (S v) (g v)) (λ v l. picks_ext n (R v) (S v) (f v) (g v) (λ w k. same v w l k) (λ w k. e v w l k))
