-- Lists known by their entries, and functions with one entry replaced. Assumes nothing.
use mathlib.Core.Path.{◌≡◌, refl, sym, ap, ◌∙◌, subst}
use mathlib.Core.Logic.{◌≢◌}
use mathlib.Core.List.{List}
use Prim.Native.Nat.{ℕ, zero, suc, ◌+◌, ◌<◌}
use native.Mathlib.Omega.{arith}
use lib.Dec.{eqb}
use borrow.Author.Tests.{eqb-true, eqb-false, eq-eqb, ne_eqb}
use lib.ListN.{length, get_or, set, replicate}
use lib.Seq.{ext_get_or, get_or-set_same, get_or-set_other}
use Rattle.below.specs.Below.{at, list_below, update}
use Rattle.below.proofs.Tests.{by_cases}

module _ {ℓ} {A : Type ℓ} where
  pub length-list_below : (n : ℕ) (f : ℕ → A) → length (list_below n f) ≡ n
  unfolding list_below
  length-list_below zero f = refl
  length-list_below (suc n) f = ap suc (length-list_below n (λ i. f (suc i)))

  pub get_d_list_below : (n : ℕ) (f : ℕ → A) (d : A) (i : ℕ) → i < n → get_or (list_below n f) i d ≡ f i
  unfolding list_below
  get_d_list_below zero f d i l = absurd (omega arith)
  get_d_list_below (suc n) f d zero l = refl
  get_d_list_below (suc n) f d (suc i) l = get_d_list_below n (λ i. f (suc i)) d i (omega arith)

  -- a list is known by its entries
  pub list_below_is : (n : ℕ) (f : ℕ → A) (d : A) (l : List A) → length l ≡ n → ((i : ℕ) → i < n → get_or l i d ≡ f i) → l ≡ list_below n f
  list_below_is n f d l e h = ext_get_or d l (list_below n f) (e ∙ sym (length-list_below n f)) (λ i k. h i (omega arith) ∙ sym (get_d_list_below n f d i (omega arith)))

  -- a loop that stores f 0, f 1, .. : one more entry
  pub fill_more : (l : List A) (n : ℕ) (v d : A) (f : ℕ → A) → n < length l → ((i : ℕ) → i < n → get_or l i d ≡ f i) → v ≡ f n → (i : ℕ) → i < n + 1 → get_or (set l n v) i d ≡ f i
  fill_more l n v d f h all e i k = by_cases (eqb i n)
      (λ q. rw (eqb-true i n q) (get_or-set_same l n v d h ∙ e))
      (λ q. let ne : i ≢ n = eqb-false i n q in get_or-set_other l n i v d ne ∙ all i (omega arith))

-- ---- one entry replaced

pub put_same : (p : ℕ → ℕ) (d x : ℕ) → update p d x d ≡ x
put_same p d x = rw (eq-eqb d d refl)

pub put_other : (p : ℕ → ℕ) (d x c : ℕ) → c ≢ d → update p d x c ≡ p c
put_other p d x c n = rw (ne_eqb c d n)

-- what holds of the new entry and of every other entry holds of all
pub put_elim {ℓ} : (C : ℕ → ℕ → Type ℓ) (p : ℕ → ℕ) (d x : ℕ) → C d x → ((c : ℕ) → c ≢ d → C c (p c)) → (c : ℕ) → C c (update p d x c)
put_elim C p d x a b c = by_cases (eqb c d)
    (λ e. rw e (subst (λ (z : ℕ). C z x) (sym (eqb-true c d e)) a))
    (λ e. rw e (b c (eqb-false c d e)))

-- a store to a slice of progress
pub at_set : (ps : List ℕ) (d x : ℕ) → d < length ps → (c : ℕ) → at (set ps d x) c ≡ update (at ps) d x c
at_set ps d x l c = by_cases (eqb c d)
    (λ e. let q : c ≡ d = eqb-true c d e in rw e (rw q (get_or-set_same ps d x 0 l)))
    (λ e. rw e (get_or-set_other ps d c x 0 (eqb-false c d e)))

-- a list of zeros has no other entry, nor past its end
pub zeros-at : (n v : ℕ) → at (replicate n 0) v ≡ 0
zeros-at zero v = refl
zeros-at (suc n) zero = refl
zeros-at (suc n) (suc v) = zeros-at n v
