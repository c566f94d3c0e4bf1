-- A number in a list: at its head, in the rest, or at an index. Assumes nothing.
use mathlib.Core.Path.{◌≡◌, refl, sym, subst}
use mathlib.Core.Logic.{◌⊎◌, inl, inr}
use mathlib.Core.Bool.{true}
use mathlib.Core.List.{List, [], ◌∷◌}
use Prim.Native.Nat.{ℕ, suc, ◌<◌}
use native.Mathlib.Omega.{arith}
use lib.ListN.{length}
use borrow.Author.Tests.{eqb-true, eq-eqb}
use Rattle.below.specs.Below.{at, is_in}
use Rattle.below.proofs.Tests.{by_cases, true_or_false}

pub in_head : (w : ℕ) (ws : List ℕ) → is_in w (w ∷ ws) ≡ true
unfolding is_in
in_head w ws = by_cases (is_in w ws) (λ e. rw e refl) (λ e. rw e (eq-eqb w w refl))

pub in_tail : (v w : ℕ) (ws : List ℕ) → is_in v ws ≡ true → is_in v (w ∷ ws) ≡ true
unfolding is_in
in_tail v w ws e = rw e refl

pub in_cases : (v w : ℕ) (ws : List ℕ) → is_in v (w ∷ ws) ≡ true → (is_in v ws ≡ true) ⊎ (v ≡ w)
unfolding is_in
in_cases v w ws e = by_cases (is_in v ws) (λ q. inl q) (λ q. inr (eqb-true v w (rw q at e)))

-- what holds of the head and of all of the rest holds of the whole list
pub each_more {ℓ} : (C : ℕ → Type ℓ) (w : ℕ) (ws : List ℕ) → C w → ((v : ℕ) → is_in v ws ≡ true → C v) → (v : ℕ) → is_in v (w ∷ ws) ≡ true → C v
each_more C w ws h g v e = elim (in_cases v w ws e) [ inl q ↦ g v q | inr q ↦ subst C (sym q) h ]

-- a number that stands in a list stands at an index
pub in_at : (ws : List ℕ) (w : ℕ) → is_in w ws ≡ true → (i : ℕ) × (i < length ws) × (at ws i ≡ w)
unfolding is_in
in_at [] w e = true_or_false e refl
in_at (x ∷ ws) w e = elim (in_cases w x ws e) [ inl q ↦ (let (i, l, h) = in_at ws w q in (suc i, omega arith, h)) | inr q ↦ (0, omega arith, sym q) ]
