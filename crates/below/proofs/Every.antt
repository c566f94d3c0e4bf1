-- What holds of every index below n, and of some. Assumes nothing.
use mathlib.Core.Path.{◌≡◌, refl, sym, ap, ◌∙◌, subst}
use mathlib.Core.Bool.{Bool, true, false, not}
use Prim.Native.Nat.{ℕ, zero, suc, ◌+◌, ◌≤◌, ◌<◌}
use native.Mathlib.Nat.{le_antisymm}
use native.Mathlib.Numerals.{add-one}
use native.Mathlib.Omega.{arith}
use lib.Dec.{ltb, eqb}
use borrow.Author.Tests.{ltb-true, ltb-false, eq-eqb, ne_eqb, not-true, not-false}
use Rattle.below.specs.Below.{first_below, First, all_below, any_below}
use Rattle.below.proofs.Tests.{and_left, and_right, and_both, by_cases, true_or_false, below_suc}
use Rattle.below.proofs.Search.{first_below_first, first_below_is}

pub all_below-at : (n : ℕ) (f : ℕ → Bool) → all_below n f ≡ true → (i : ℕ) → i < n → f i ≡ true
unfolding all_below
all_below-at zero f e i h = absurd (omega arith)
all_below-at (suc n) f e i h = below_suc (λ i. f i ≡ true) (all_below-at n f (and_left (all_below n f) (f n) e)) (and_right (all_below n f) (f n) e) i h

pub all_below_all : (n : ℕ) (f : ℕ → Bool) → ((i : ℕ) → i < n → f i ≡ true) → all_below n f ≡ true
unfolding all_below
all_below_all zero f h = refl
all_below_all (suc n) f h = and_both (all_below n f) (f n) (all_below_all n f (λ i l. h i (omega arith))) (h n (omega arith))

-- an index that fails, the least one
pub all_below_fails : (n : ℕ) (f : ℕ → Bool) → all_below n f ≡ false → (i : ℕ) × (i < n) × (f i ≡ false)
all_below_fails n f e = by_cases (ltb r n) (λ l. (r, ltb-true r n l, not-true (f r) (first.found (ltb-true r n l)))) (λ l. true_or_false (all_below_all n f (λ i k. not-false (f i) (first.skipped i (omega (arith, ltb-false r n l))))) e)
  where
    r : ℕ
    r = first_below n (λ i. not (f i))

    first : First n (λ i. not (f i)) r
    first = first_below_first n (λ i. not (f i))

-- none passes where the search finds none
pub all_below_search : (n : ℕ) (f : ℕ → Bool) → all_below n (λ i. not (f i)) ≡ eqb (first_below n f) n
all_below_search n f = by_cases (all_below n (λ i. not (f i)))
    (λ e. e ∙ sym (eq-eqb (first_below n f) n (first_below_is (record { within = omega arith; skipped = λ i l. not-true (f i) (all_below-at n (λ i. not (f i)) e i l); found = λ l. absurd (omega arith) }))))
    (λ e. e ∙ sym (ne_eqb (first_below n f) n (λ q. let (i, l, h) = all_below_fails n (λ i. not (f i)) e in true_or_false (not-false (f i) h) ((first_below_first n f).skipped i (omega arith)))))

pub any_below-none : (n : ℕ) (f : ℕ → Bool) → any_below n f ≡ false → (i : ℕ) → i < n → f i ≡ false
any_below-none n f e i l = not-true _ (all_below-at n (λ i. not (f i)) (not-false _ e) i l)

pub all_below_ext : (n : ℕ) (f g : ℕ → Bool) → ((i : ℕ) → i < n → f i ≡ g i) → all_below n f ≡ all_below n g
unfolding all_below
all_below_ext zero f g h = refl
all_below_ext (suc n) f g h = rw (all_below_ext n f g (λ i l. h i (omega arith)), h n (omega arith)) refl

pub all_below-same : (n n' : ℕ) (f g : ℕ → Bool) → n ≡ n' → ((i : ℕ) → i < n → f i ≡ g i) → all_below n f ≡ all_below n' g
all_below-same n n' f g e h = all_below_ext n f g h ∙ ap (λ (k : ℕ). all_below k g) e

-- ---- as a loop over i goes
module _ (p : ℕ → Bool) where
  pub all_none : all_below 0 p ≡ true
  unfolding all_below
  all_none = refl

  pub all_more : (i : ℕ) → all_below i p ≡ true → p i ≡ true → all_below (i + 1) p ≡ true
  unfolding all_below
  all_more i e h = rw (add-one, e, h) refl

  pub all_not : (n i : ℕ) → i < n → p i ≡ false → all_below n p ≡ false
  all_not n i l h = by_cases (all_below n p) (λ e. true_or_false (all_below-at n p e i l) h) (λ e. e)

  pub all_miss : (i n : ℕ) → i < n → p i ≡ false → false ≡ all_below n p
  all_miss i n l h = sym (all_not n i l h)

  pub all_end : (i n : ℕ) → i ≤ n → n ≤ i → all_below i p ≡ true → true ≡ all_below n p
  all_end i n l m e = subst (λ (k : ℕ). true ≡ all_below k p) (le_antisymm l m) (sym e)
