-- The entries after the pairs. That they are zero is said of them as a list, which computes fast; it is what `zero_from` says of every other table by its index. Assumes nothing.
use mathlib.Core.Path.{◌≡◌, refl, sym, ap, ◌∙◌}
use mathlib.Core.List.{List, [], ◌∷◌}
use mathlib.Core.Bool.{Bool, true, ◌&&◌, ◌||◌}
use Prim.Native.Nat.{ℕ, zero, suc, ◌+◌, ◌-◌, ◌*◌, ◌≤◌, ◌<◌}
use native.Mathlib.Omega.{arith}
use lib.Dec.{ltb, eqb}
use lib.ListN.{take, drop}
use lib.Seq.{get_or-take, get_or-drop}
use borrow.Author.Tests.{ltb-true, ltb-false, le-ltb, eqb-true, eq-eqb}
use Rattle.below.specs.Below.{at, all_below}
use Rattle.below.proofs.Tests.{by_cases, and_left, and_right, same_test}
use Rattle.below.proofs.Every.{all_below-at, all_below_all}
use Rattle.tables.specs.Limits.{Limits, most_pairs}
use Rattle.tables.specs.Tables.{PlanLists}
use Rattle.near.specs.Near.{pair_count, pairs_sound}
use Rattle.sound.specs.Sound.{zero_from, zeros, site_sound}

zeros_entry : (l : List ℕ) → zeros l ≡ true → (i : ℕ) → at l i ≡ 0
unfolding zeros
zeros_entry [] e i = refl
zeros_entry (x ∷ xs) e zero = eqb-true x 0 (and_left _ _ e)
zeros_entry (x ∷ xs) e (suc i) = zeros_entry xs (and_right (eqb x 0) _ e) i

all_zeros : (l : List ℕ) → ((i : ℕ) → at l i ≡ 0) → zeros l ≡ true
unfolding zeros
all_zeros [] h = refl
all_zeros (x ∷ xs) h = rw (eq-eqb x 0 (h 0), all_zeros xs (λ i. h (suc i))) refl

take_past : (n : ℕ) (l : List ℕ) (i : ℕ) → n ≤ i → at (take n l) i ≡ 0
take_past zero l i k = refl
take_past (suc n) [] i k = refl
take_past (suc n) (x ∷ xs) zero k = absurd (omega (arith, k))
take_past (suc n) (x ∷ xs) (suc i) k = take_past n xs i (omega (arith, k))

module _ (used full : ℕ) (l : List ℕ) where
  rest_at : (i : ℕ) → used ≤ i → i < full → at (drop used (take full l)) (i - used) ≡ at l i
  rest_at i a b =
      let e : used + (i - used) ≡ i = omega arith in
      get_or-drop used (take full l) (i - used) 0 ∙ ap (at (take full l)) e ∙ get_or-take full l i 0 b

  pub zeros_from : zeros (drop used (take full l)) ≡ zero_from used full l
  unfolding zero_from
  zeros_from = same_test _ _ there back
    where
      there : zeros (drop used (take full l)) ≡ true → all_below full (λ i. ltb i used || eqb (at l i) 0) ≡ true
      there e = all_below_all full _ (λ i k. by_cases (ltb i used)
          (λ h. rw h refl)
          (λ h. rw (h, eq-eqb (at l i) 0 (sym (rest_at i (ltb-false i used h) k) ∙ zeros_entry _ e (i - used))) refl))

      within : all_below full (λ i. ltb i used || eqb (at l i) 0) ≡ true → (i : ℕ) → used + i < full → at l (used + i) ≡ 0
      within e i k =
          let q : (ltb (used + i) used || eqb (at l (used + i)) 0) ≡ true = all_below-at full _ e (used + i) k in
          eqb-true _ _ (rw (le-ltb (used + i) used (omega arith)) at q)

      back : all_below full (λ i. ltb i used || eqb (at l i) 0) ≡ true → zeros (drop used (take full l)) ≡ true
      back e = all_zeros _ (λ i. get_or-drop used (take full l) i 0 ∙ by_cases (ltb (used + i) full)
          (λ h. get_or-take full l (used + i) 0 (ltb-true _ _ h) ∙ within e i (ltb-true _ _ h))
          (λ h. take_past full l (used + i) (ltb-false _ _ h)))

-- the clause of the pairs as every other table's is said
pub site_indexed : (L : Limits) (p : PlanLists) → site_sound L p ≡ (pairs_sound L p.pairs && zero_from (2 * pair_count p.pairs) (2 * most_pairs) p.pairs)
unfolding site_sound
site_indexed L p = ap (λ (b : Bool). pairs_sound L p.pairs && b) (zeros_from (2 * pair_count p.pairs) (2 * most_pairs) p.pairs)
