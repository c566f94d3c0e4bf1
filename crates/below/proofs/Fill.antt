-- A list filled from its first entry on by a loop. A store past the end is nothing, so the laws ask for no room until somebody reads. Assumes nothing.
use mathlib.Core.Path.{◌≡◌, refl, ap, ◌∙◌}
use mathlib.Core.Logic.{inl, inr}
use mathlib.Core.List.{List}
use Prim.Native.Nat.{ℕ, zero, suc, ◌+◌, ◌≤◌, ◌<◌}
use native.Mathlib.Nat.{le_antisymm}
use native.Mathlib.Numerals.{add-one}
use native.Mathlib.Omega.{arith}
use lib.ListN.{length, get_or, set, length-set}
use lib.Seq.{ext_get_or, get_or-set_same, get_or-set_other}
use Rattle.below.specs.Below.{fill_below, at}
use Rattle.below.proofs.Tests.{below_cases}

pub fill_below-more : (f : ℕ → ℕ) (l : List ℕ) (i : ℕ) → fill_below (i + 1) f l ≡ set (fill_below i f l) i (f i)
unfolding fill_below
fill_below-more f l i = rw add-one refl

pub length_fill : (f : ℕ → ℕ) (l : List ℕ) (n : ℕ) → length (fill_below n f l) ≡ length l
unfolding fill_below
length_fill f l zero = refl
length_fill f l (suc n) = length-set (fill_below n f l) n (f n) ∙ length_fill f l n

pub get_d_fill : (f : ℕ → ℕ) (l : List ℕ) (n k : ℕ) → k < n → n ≤ length l → get_or (fill_below n f l) k 0 ≡ f k
unfolding fill_below
get_d_fill f l zero k h r = absurd (omega arith)
get_d_fill f l (suc n) k h r =
    elim (below_cases h) [
      | inl m ↦ get_or-set_other (fill_below n f l) n k (f n) 0 (omega arith) ∙ get_d_fill f l n k m (omega arith)
      | inr e ↦ rw (e, get_or-set_same (fill_below n f l) n (f n) 0 (rw (length_fill f l n) r)) refl
    ]

pub get_d_unfilled : (f : ℕ → ℕ) (l : List ℕ) (n k : ℕ) → n ≤ k → get_or (fill_below n f l) k 0 ≡ get_or l k 0
unfolding fill_below
get_d_unfilled f l zero k h = refl
get_d_unfilled f l (suc n) k h = get_or-set_other (fill_below n f l) n k (f n) 0 (omega arith) ∙ get_d_unfilled f l n k (omega arith)

pub fill_none : (f : ℕ → ℕ) (l : List ℕ) → l ≡ fill_below 0 f l
unfolding fill_below
fill_none f l = refl

-- the same as a filling loop wants them: l is the list now, l₀ the list where the loop begins
module _ (f : ℕ → ℕ) (l₀ : List ℕ) (i : ℕ) (l : List ℕ) (e : l ≡ fill_below i f l₀) where
  pub fill_store : (x : ℕ) → x ≡ f i → set l i x ≡ fill_below (i + 1) f l₀
  fill_store x h = rw (fill_below-more, ← e, ← h) refl

  pub fill_length : length l ≡ length l₀
  fill_length = ap length e ∙ length_fill f l₀ i

  -- an entry that is not filled yet is as it was
  pub fill_unread : at l i ≡ at l₀ i
  fill_unread = ap (λ (x : List ℕ). at x i) e ∙ get_d_unfilled f l₀ i i (omega arith)

  pub fill_at : i ≤ length l₀ → (d : ℕ) → d < i → at l d ≡ f d
  fill_at h d k = ap (λ (x : List ℕ). at x d) e ∙ get_d_fill f l₀ i d k h

  pub fill_end : (n : ℕ) → i ≤ n → n ≤ i → l ≡ fill_below n f l₀
  fill_end n a b = e ∙ ap (λ (k : ℕ). fill_below k f l₀) (le_antisymm a b)

pub fill_below_ext : (n : ℕ) (f g : ℕ → ℕ) (l : List ℕ) → ((i : ℕ) → i < n → f i ≡ g i) → fill_below n f l ≡ fill_below n g l
unfolding fill_below
fill_below_ext zero f g l h = refl
fill_below_ext (suc n) f g l h = rw (fill_below_ext n f g l (λ i m. h i (omega arith)), h n (omega arith)) refl

-- a list filled from another of its length is that other
pub fill_copy : (l s : List ℕ) → length l ≡ length s → fill_below (length s) (λ k. get_or s k 0) l ≡ s
fill_copy l s e =
    ext_get_or 0 (fill_below (length s) (λ k. get_or s k 0) l) s (length_fill (λ k. get_or s k 0) l (length s) ∙ e)
    (λ i h. get_d_fill (λ k. get_or s k 0) l (length s) i (omega (arith, length_fill (λ k. get_or s k 0) l (length s))) (omega arith))
