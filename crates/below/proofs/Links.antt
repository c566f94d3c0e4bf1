-- The greatest index that passes a test, and items linked by their kinds as a loop links them. Assumes nothing.
use mathlib.Core.Path.{◌≡◌, refl, sym, ap, ◌∙◌}
use mathlib.Core.Logic.{◌≢◌}
use mathlib.Core.List.{List}
use mathlib.Core.Bool.{Bool, true, false}
use Prim.Native.Nat.{ℕ, zero, suc, ◌+◌, ◌≤◌, ◌<◌}
use native.Mathlib.Numerals.{add-one}
use native.Mathlib.Omega.{arith}
use lib.Dec.{eqb}
use lib.ListN.{length, set, length-set}
use lib.Seq.{get_or-set_same, get_or-set_other}
use borrow.Author.Tests.{eqb-true, eqb-false, eq-eqb, ne_eqb}
use Rattle.below.specs.Below.{at, last_below, Linked}
use Rattle.below.proofs.Tests.{by_cases, below_suc}
use Rattle.below.proofs.Index.{fill_more}

pub last_start : (f : ℕ → Bool) → last_below 0 f ≡ 0
unfolding last_below
last_start f = refl

pub last_yes : (n : ℕ) (f : ℕ → Bool) → f n ≡ true → last_below (n + 1) f ≡ n + 1
unfolding last_below
last_yes n f e = rw (add-one n, e) refl

pub last_no : (n : ℕ) (f : ℕ → Bool) → f n ≡ false → last_below (n + 1) f ≡ last_below n f
unfolding last_below
last_no n f e = rw (add-one n, e) refl

pub last_le : (n : ℕ) (f : ℕ → Bool) → last_below n f ≤ n
unfolding last_below
last_le zero f = omega arith
last_le (suc n) f = by_cases (f n) (λ e. rw e (omega arith)) (λ e. rw e (omega (arith, last_le n f)))

pub last_found : (n : ℕ) (f : ℕ → Bool) (j : ℕ) → last_below n f ≡ j + 1 → f j ≡ true
unfolding last_below
last_found zero f j e = absurd (omega arith)
last_found (suc n) f j e = by_cases (f n)
    (λ t. let q : suc n ≡ j + 1 = rw t at e in let s : j ≡ n = omega arith in rw s t)
    (λ t. last_found n f j (rw t at e))

pub last_above : (n : ℕ) (f : ℕ → Bool) (i : ℕ) → last_below n f ≤ i → i < n → f i ≡ false
unfolding last_below
last_above zero f i h l = absurd (omega arith)
last_above (suc n) f i h l = by_cases (f n)
    (λ t. let q : suc n ≤ i = rw t at h in absurd (omega arith))
    (λ t. let q : last_below n f ≤ i = rw t at h in below_suc (λ i. last_below n f ≤ i → f i ≡ false) (λ i k q. last_above n f i q k) (λ q. t) i l q)

module _ (kinds room : ℕ) (kind : ℕ → ℕ) where
  pub linked_none : (head next : List ℕ) → length head ≡ kinds → length next ≡ room → ((v : ℕ) → at head v ≡ 0) → Linked kinds room kind 0 head next
  linked_none head next a b z = record { head_size = a; next_size = b; heads = λ v l. z v ∙ sym (last_start (λ k. eqb (kind k) v)); nexts = λ k l. absurd (omega arith) }

  -- item k, of kind a, becomes the first of that kind
  pub linked_more : (k : ℕ) (head next : List ℕ) (a x y : ℕ) → Linked kinds room kind k head next → k < room → a ≡ kind k → a < kinds → x ≡ at head a → y ≡ k + 1
      → Linked kinds room kind (k + 1) (set head a y) (set next k x)
  linked_more k head next a x y L l e i ex ey = record {
    head_size = length-set head a y ∙ L.head_size;
    next_size = length-set next k x ∙ L.next_size;
    heads = λ v j. by_cases (eqb v a)
        (λ q. let s : v ≡ a = eqb-true v a q in
        rw s (get_or-set_same head a y 0 (omega (arith, L.head_size)) ∙ ey ∙ sym (last_yes k (λ j. eqb (kind j) a) (eq-eqb (kind k) a (sym e)))))
        (λ q. let ne : v ≢ a = eqb-false v a q in
        get_or-set_other head a v y 0 ne ∙ L.heads v j ∙ sym (last_no k (λ j. eqb (kind j) v) (ne_eqb (kind k) v (λ s. ne (sym s ∙ sym e)))));
    nexts = fill_more next k x 0 (λ k. last_below k (λ j. eqb (kind j) (kind k))) (omega (arith, L.next_size)) L.nexts (ex ∙ L.heads a i ∙ ap (λ (v : ℕ). last_below k (λ j. eqb (kind j) v)) e);
  }
