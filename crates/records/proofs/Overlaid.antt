-- A list whose first entries are stored one after the other from another list.
--     overlaid-none, overlaid-more    no entry, and one entry more
--     overlaid-length    the length stays
--     overlaid-below, overlaid-above    its entries
-- Assumes nothing.
use mathlib.Core.Path.{◌≡◌, refl, sym, ap, ◌∙◌}
use mathlib.Core.List.{List, [], ◌∷◌, ◌++◌}
use Prim.Native.Nat.{ℕ, zero, suc, ◌+◌, ◌-◌, ◌≤◌, ◌<◌}
use native.Mathlib.Nat.{le_of_lt}
use native.Mathlib.Numerals.{add-one}
use native.Mathlib.Omega.{arith}
use lib.ListN.{length, set, take, drop, get_or, length-append, length-drop}
use lib.Seq.{drop-cons, set_at, append_snoc, take-suc, length-take-le, get_or-take, get_or-drop, get_or-append-add}
use Rattle.records.specs.Records.{overlaid}

module _ {ℓ} {A : Type ℓ} where
  pub overlaid-none : (xs t : List A) → t ≡ overlaid 0 xs t
  unfolding overlaid
  overlaid-none xs t = refl

  overlaid-suc : (xs t : List A) (k : ℕ) (d : A) → k < length xs → k < length t → set (overlaid k xs t) k (get_or xs k d) ≡ overlaid (suc k) xs t
  unfolding overlaid
  overlaid-suc xs t k d l m =
      ap (λ (u : List A). set (take k xs ++ u) k (get_or xs k d)) (drop-cons t k d m)
      ∙ set_at (take k xs) (get_or t k d) (drop (suc k) t) (get_or xs k d) k (length-take-le k xs (le_of_lt l))
      ∙ sym (append_snoc (take k xs) (get_or xs k d) (drop (suc k) t))
      ∙ ap (λ (u : List A). u ++ drop (suc k) t) (sym (take-suc xs k d l))

  pub overlaid-more : (xs t out : List A) (k : ℕ) (v d : A) → k < length xs → k < length t → out ≡ overlaid k xs t → v ≡ get_or xs k d → set out k v ≡ overlaid (k + 1) xs t
  overlaid-more xs t out k v d l m e w = rw (e, w, add-one) (overlaid-suc xs t k d l m)

  pub overlaid-length : (xs t : List A) (k : ℕ) → k ≤ length xs → k ≤ length t → length (overlaid k xs t) ≡ length t
  unfolding overlaid
  overlaid-length xs t k l m = length-append (take k xs) (drop k t) ∙ rw (length-take-le k xs l, length-drop) (omega arith)

  -- an entry of the first of two lists
  entry_left : (xs ys : List A) (i : ℕ) (d : A) → i < length xs → get_or (xs ++ ys) i d ≡ get_or xs i d
  entry_left [] ys i d h = absurd (omega arith)
  entry_left (x ∷ xs) ys zero d h = refl
  entry_left (x ∷ xs) ys (suc i) d h = entry_left xs ys i d (omega arith)

  pub overlaid-below : (xs t : List A) (k i : ℕ) (d : A) → k ≤ length xs → i < k → get_or (overlaid k xs t) i d ≡ get_or xs i d
  unfolding overlaid
  overlaid-below xs t k i d l h = entry_left (take k xs) (drop k t) i d (omega (arith, length-take-le k xs l)) ∙ get_or-take k xs i d h

  pub overlaid_above : (xs t : List A) (k i : ℕ) (d : A) → k ≤ length xs → k ≤ i → get_or (overlaid k xs t) i d ≡ get_or t i d
  unfolding overlaid
  overlaid_above xs t k i d l h =
      let j : length (take k xs) + (i - k) ≡ i = omega (arith, length-take-le k xs l) in
      ap (λ (x : ℕ). get_or (take k xs ++ drop k t) x d) (sym j)
      ∙ get_or-append-add (take k xs) (drop k t) (i - k) d
      ∙ get_or-drop k t (i - k) d
      ∙ ap (λ (x : ℕ). get_or t x d) (omega arith)
