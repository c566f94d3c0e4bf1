-- Facts about tests: what a conjunction says, the two cases of a test, an index below n + 1. Assumes nothing.
use mathlib.Core.Path.{◌≡◌, refl, sym, subst}
use mathlib.Core.Logic.{◌⊎◌, inl, inr}
use mathlib.Core.Bool.{Bool, true, false, ◌&&◌, ◌||◌, false≢true}
use Prim.Native.Nat.{ℕ, suc, ◌<◌}
use native.Mathlib.Omega.{arith}
use lib.Dec.{ltb}
use borrow.Author.Tests.{ltb-true, ltb-false}

pub and_left : (a b : Bool) → a && b ≡ true → a ≡ true
and_left true b e = refl
and_left false b e = e

pub and_right : (a b : Bool) → a && b ≡ true → b ≡ true
and_right true b e = e
and_right false b e = absurd (false≢true e)

pub and_both : (a b : Bool) → a ≡ true → b ≡ true → a && b ≡ true
and_both true b p q = q
and_both false b p q = p

pub or_left : (a b : Bool) → a || b ≡ false → a ≡ false
or_left true b e = e
or_left false b e = refl

pub or_right : (a b : Bool) → a || b ≡ false → b ≡ false
or_right true b e = absurd (false≢true (sym e))
or_right false b e = e

-- a test's two cases, each with its equation
pub by_cases {ℓ} : {C : Type ℓ} (b : Bool) → (b ≡ true → C) → (b ≡ false → C) → C
by_cases true f g = f refl
by_cases false f g = g refl

pub true_or_false {ℓ} : {A : Type ℓ} {b : Bool} → b ≡ true → b ≡ false → A
true_or_false {b = b} p q = absurd (let z : ◌≡◌ {A = ℕ} 0 1 = cc in omega arith)

-- an index below suc n is below n or is n
pub below_cases : {i n : ℕ} → i < suc n → (i < n) ⊎ (i ≡ n)
below_cases {i} {n} h = by_cases (ltb i n) (λ e. inl (ltb-true i n e)) (λ e. inr (omega (arith, ltb-false i n e)))

-- what holds below n and at n holds below suc n
pub below_suc {ℓ} : {n : ℕ} (C : ℕ → Type ℓ) → ((i : ℕ) → i < n → C i) → C n → (i : ℕ) → i < suc n → C i
below_suc {n = n} C h c i l = elim (below_cases l) [ inl k ↦ h i k | inr e ↦ subst C (sym e) c ]

-- two tests that follow from each other are one
pub same_test : (a b : Bool) → (a ≡ true → b ≡ true) → (b ≡ true → a ≡ true) → a ≡ b
same_test true b f g = sym (f refl)
same_test false true f g = g refl
same_test false false f g = refl
