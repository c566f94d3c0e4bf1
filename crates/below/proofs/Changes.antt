-- A count and a greatest value where one index changes. Assumes nothing.
use mathlib.Core.Path.{◌≡◌}
use mathlib.Core.Logic.{◌≢◌}
use mathlib.Core.Bool.{Bool, true, false}
use Prim.Native.Nat.{ℕ, zero, suc, ◌+◌, ◌<◌, max}
use native.Mathlib.Omega.{arith}
use lib.Dec.{eqb}
use borrow.Author.Tests.{eqb-true, eqb-false}
use Rattle.below.specs.Below.{count_below, max_below}
use Rattle.below.proofs.Tests.{by_cases}
use Rattle.below.proofs.Greatest.{max_ext}
use Rattle.below.proofs.Same.{count_ext}

-- index j is counted no longer
pub count_drop : (n : ℕ) (f g : ℕ → Bool) (j : ℕ) → j < n → f j ≡ true → g j ≡ false → ((i : ℕ) → i < n → i ≢ j → f i ≡ g i) → count_below n f ≡ count_below n g + 1
unfolding count_below
count_drop zero f g j l a b h = absurd (omega arith)
count_drop (suc n) f g j l a b h = by_cases (eqb n j)
    (λ e. let q : n ≡ j = eqb-true n j e in
    let x : f n ≡ true = rw q a in
    let y : g n ≡ false = rw q b in
    let z : count_below n f ≡ count_below n g = count_ext n f g (λ i k. h i (omega arith) (λ s. omega arith)) in
    rw (x, y) (omega arith))
    (λ e. let ne : n ≢ j = eqb-false n j e in
    let same : f n ≡ g n = h n (omega arith) ne in
    let z : count_below n f ≡ count_below n g + 1 = count_drop n f g j (omega arith) a b (λ i k s. h i (omega arith) s) in
    rw same (by_cases (g n) (λ t. rw t (omega arith)) (λ t. rw t z)))

-- the value at index j is raised to x
pub max_raise : (n : ℕ) (f g : ℕ → ℕ) (j x : ℕ) → j < n → g j ≡ max (f j) x → ((i : ℕ) → i < n → i ≢ j → f i ≡ g i) → max_below n g ≡ max (max_below n f) x
unfolding max_below
max_raise zero f g j x l e h = absurd (omega arith)
max_raise (suc n) f g j x l e h = by_cases (eqb n j)
    (λ q. let s : n ≡ j = eqb-true n j q in
    let y : g n ≡ max (f n) x = rw s e in
    omega (arith, max_ext n f g (λ i k. h i (omega arith) (λ z. omega arith))))
    (λ q. let ne : n ≢ j = eqb-false n j q in
    omega (arith, h n (omega arith) ne, max_raise n f g j x (omega arith) e (λ i k s. h i (omega arith) s)))
