-- What stays from each index to the next stays over a gap. Assumes nothing.
use mathlib.Core.Path.{◌≡◌, subst}
use Prim.Native.Nat.{ℕ, zero, suc, ◌+◌, ◌-◌, ◌≤◌, ◌<◌}
use native.Mathlib.Nat.{add-zero, add-suc}
use native.Mathlib.Numerals.{add-one}
use native.Mathlib.Omega.{arith}

over_all {ℓ} : (C : ℕ → Type ℓ) (a d : ℕ) → ((u : ℕ) → a ≤ u → u < a + d → C u → C (u + 1)) → C a → C (a + d)
over_all C a zero h c = rw add-zero c
over_all C a (suc d) h c = rw (add-suc, ← add-one) (h (a + d) (omega arith) (omega arith) (over_all C a d (λ u k l. h u k (omega arith)) c))

pub over_gap {ℓ} : (C : ℕ → Type ℓ) (a b : ℕ) → a ≤ b → ((u : ℕ) → a ≤ u → u < b → C u → C (u + 1)) → C a → C b
over_gap C a b l h c = let e : a + (b - a) ≡ b = omega arith in subst C e (over_all C a (b - a) (λ u k m. h u k (omega arith)) c)
