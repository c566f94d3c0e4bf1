-- What holds of every number of a range, of the first elements of a list, and of two lists element by element, as std's `all` and `==` of slices say it. Assumes nothing.
use mathlib.Core.Path.{◌≡◌, refl}
use mathlib.Core.Bool.{Bool, true, false, ◌&&◌}
use mathlib.Core.List.{List, [], ◌∷◌}
use Prim.Native.Nat.{ℕ, zero, suc, ◌+◌, ◌≤◌, ◌<◌}
use native.Mathlib.Nat.{not-suc-le-zero}
use native.Mathlib.Omega.{arith}
use lib.Dec.{eqb}
use lib.ListN.{length, take}
use lib.Pointwise.{pointwise}
use Rattle.std.specs.List.{list_all, range_with_len}
use Rattle.below.specs.Below.{all_below, at}

and_true : (b : Bool) → b && true ≡ b
and_true true = refl
and_true false = refl

and_assoc : (a b c : Bool) → a && (b && c) ≡ (a && b) && c
and_assoc true b c = refl
and_assoc false b c = refl

-- ---- a range

-- one number more, at the end
all_range_more : (p : ℕ → Bool) (a n : ℕ) → list_all p (range_with_len a (suc n)) ≡ list_all p (range_with_len a n) && p (a + n)
all_range_more p a zero = let e : a + 0 ≡ a = omega arith in rw e (and_true (p a))
all_range_more p a (suc n) =
    let e : a + suc n ≡ a + 1 + n = omega arith in
    rw (all_range_more p (a + 1) n, e) (and_assoc (p a) (list_all p (range_with_len (a + 1) n)) (p (a + 1 + n)))

pub all_over_range : (p : ℕ → Bool) (n : ℕ) → list_all p (range_with_len 0 n) ≡ all_below n p
unfolding all_below
all_over_range p zero = refl
all_over_range p (suc n) = let e : 0 + n ≡ n = omega arith in rw (all_range_more p 0 n, all_over_range p n, e) refl

-- ---- the first elements of a list

-- one element more, at the end
all_first_more : (p : ℕ → Bool) (n : ℕ) (xs : List ℕ) → n < length xs → list_all p (take (suc n) xs) ≡ list_all p (take n xs) && p (at xs n)
all_first_more p n [] h = absurd (not-suc-le-zero h)
all_first_more p zero (x ∷ xs) h = and_true (p x)
all_first_more p (suc n) (x ∷ xs) h = rw (all_first_more p n xs (omega arith)) (and_assoc (p x) (list_all p (take n xs)) (p (at xs n)))

pub all_over_first : (p : ℕ → Bool) (n : ℕ) (xs : List ℕ) → n ≤ length xs → list_all p (take n xs) ≡ all_below n (λ i. p (at xs i))
unfolding all_below
all_over_first p zero xs h = refl
all_over_first p (suc n) xs h = rw (all_first_more p n xs (omega arith), all_over_first p n xs (omega arith)) refl

-- ---- two lists, element by element

same_first_more : (n : ℕ) (xs ys : List ℕ) → n < length xs → n < length ys → pointwise eqb (take (suc n) xs) (take (suc n) ys) ≡ pointwise eqb (take n xs) (take n ys) && eqb (at xs n) (at ys n)
same_first_more n [] ys h k = absurd (not-suc-le-zero h)
same_first_more n (x ∷ xs) [] h k = absurd (not-suc-le-zero k)
same_first_more zero (x ∷ xs) (y ∷ ys) h k = and_true (eqb x y)
same_first_more (suc n) (x ∷ xs) (y ∷ ys) h k = rw (same_first_more n xs ys (omega arith) (omega arith)) (and_assoc (eqb x y) (pointwise eqb (take n xs) (take n ys)) (eqb (at xs n) (at ys n)))

pub same_over_first : (n : ℕ) (xs ys : List ℕ) → n ≤ length xs → n ≤ length ys → pointwise eqb (take n xs) (take n ys) ≡ all_below n (λ i. eqb (at xs i) (at ys i))
unfolding all_below
same_over_first zero xs ys h k = refl
same_over_first (suc n) xs ys h k = rw (same_first_more n xs ys (omega arith) (omega arith), same_over_first n xs ys (omega arith) (omega arith)) refl
