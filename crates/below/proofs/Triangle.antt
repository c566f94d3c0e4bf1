-- Sums over the pairs v < w < n, and the pairs of a test as such a sum. Assumes nothing.
use mathlib.Core.Path.{◌≡◌, refl, ap, ◌∙◌}
use mathlib.Core.Logic.{◌≢◌}
use mathlib.Core.Bool.{Bool, false}
use Prim.Native.Nat.{ℕ, zero, suc, ◌+◌, ◌≤◌, ◌<◌}
use native.Mathlib.Omega.{arith}
use lib.Dec.{eqb}
use borrow.Author.Tests.{eqb-true, eqb-false}
use Rattle.below.specs.Below.{pick, count_below, sum_below, triangle, pairs_of}
use Rattle.below.proofs.Tests.{by_cases}
use Rattle.below.proofs.Sum.{sum_mono, sum_less, sum_ext, sum_plus, count_sum}

-- a sum over all pairs takes each two numbers in both orders
square_triangle : (g : ℕ → ℕ → ℕ) → ((v : ℕ) → g v v ≡ 0) → (n : ℕ) → sum_below n (λ v. sum_below n (g v)) ≡ triangle n (λ v w. g v w + g w v)
unfolding sum_below triangle
square_triangle g z zero = refl
square_triangle g z (suc n) = omega (arith, square_triangle g z n, sum_plus n (λ v. sum_below n (g v)) (λ v. g v n), sum_plus n (λ v. g v n) (g n), z n)

pub pairs_triangle : (R : ℕ → ℕ → Bool) → ((v : ℕ) → R v v ≡ false) → (n : ℕ) → pairs_of R n ≡ triangle n (λ v w. pick (R v w) 1 0 + pick (R w v) 1 0)
pairs_triangle R z n = sum_ext n (λ v. count_below n (R v)) (λ v. sum_below n (λ w. pick (R v w) 1 0)) (λ v l. count_sum n (R v)) ∙ square_triangle (λ v w. pick (R v w) 1 0) (λ v. ap (λ (b : Bool). pick b 1 0) (z v)) n

module _ (n : ℕ) (a b : ℕ → ℕ → ℕ) where
  pub triangle_mono : ((v w : ℕ) → v < w → w < n → a v w ≤ b v w) → triangle n a ≤ triangle n b
  unfolding triangle
  triangle_mono h = sum_mono n (λ w. sum_below w (λ v. a v w)) (λ w. sum_below w (λ v. b v w)) (λ w l. sum_mono w (λ v. a v w) (λ v. b v w) (λ v k. h v w k l))

  pub triangle_ext : ((v w : ℕ) → v < w → w < n → a v w ≡ b v w) → triangle n a ≡ triangle n b
  unfolding triangle
  triangle_ext h = sum_ext n (λ w. sum_below w (λ v. a v w)) (λ w. sum_below w (λ v. b v w)) (λ w l. sum_ext w (λ v. a v w) (λ v. b v w) (λ v k. h v w k l))

  -- where no summand is greater, equal sums have equal summands
  pub triangle-same : ((v w : ℕ) → v < w → w < n → a v w ≤ b v w) → triangle n b ≤ triangle n a → (v w : ℕ) → v < w → w < n → a v w ≡ b v w
  unfolding triangle
  triangle-same h e v w k l = by_cases (eqb (a v w) (b v w))
      (λ q. eqb-true (a v w) (b v w) q)
      (λ q. let ne : a v w ≢ b v w = eqb-false (a v w) (b v w) q in
      let less : a v w < b v w = omega (arith, h v w k l) in
      let row : sum_below w (λ v. a v w) < sum_below w (λ v. b v w) = sum_less w (λ v. a v w) (λ v. b v w) (λ v k. h v w k l) v k less in
      absurd (omega (arith, sum_less n (λ w. sum_below w (λ v. a v w)) (λ w. sum_below w (λ v. b v w)) (λ w l. sum_mono w (λ v. a v w) (λ v. b v w) (λ v k. h v w k l)) w l row)))
