-- A list that was stored at the start of a table of zeros: below the full size the table's entries are the list's, 0 past its end.
use mathlib.Core.Path.{◌≡◌, refl, sym, ◌∙◌}
use mathlib.Core.List.{List, [], ◌∷◌}
use Prim.Native.Nat.{ℕ, suc, ◌+◌, ◌≤◌, ◌<◌}
use native.Mathlib.Omega.{arith}
use lib.Dec.{ltb}
use borrow.Author.Tests.{ltb-true, ltb-false}
use lib.ListN.{length, set, get_or-eq_default}
use lib.Seq.{sets, get_or-set_other}
use Rattle.below.specs.Below.{at, laid}
use Rattle.below.proofs.Tests.{by_cases}
use Rattle.below.proofs.Picks.{get_d_laid}
use Rattle.tables.specs.Zero.{zeroed}
use Rattle.tables.proofs.Zero.{zeroed-below, zeroed-length}

pub at-past : (l : List ℕ) (i : ℕ) → length l ≤ i → at l i ≡ 0
at-past l i h = get_or-eq_default l 0 h

sets_before : (l : List ℕ) (c : ℕ) (xs : List ℕ) (i : ℕ) → c + length xs ≤ i → at (sets l c xs) i ≡ at l i
sets_before l c [] i h = refl
sets_before l c (x ∷ xs) i h = sets_before (set l c x) (suc c) xs i (omega arith) ∙ get_or-set_other l c i x 0 (λ (q : i ≡ c). omega arith)

pub laid-at : (l xs : List ℕ) (i : ℕ) → length xs ≤ length l → at l i ≡ 0 → at (laid l 0 xs) i ≡ at xs i
unfolding laid
laid-at l xs i h z = by_cases (ltb i (length xs))
    (λ e. get_d_laid l xs i (ltb-true i (length xs) e) h)
    (λ e. let k : length xs ≤ i = ltb-false i (length xs) e in sets_before l 0 xs i (omega arith) ∙ z ∙ sym (at-past xs i k))

-- the same of stores by `sets`
pub sets_at : (l xs : List ℕ) (i : ℕ) → length xs ≤ length l → at l i ≡ 0 → at (sets l 0 xs) i ≡ at xs i
unfolding laid
sets_at l xs i h z = laid-at l xs i h z

-- a table that was zeroed up to its full size
pub stored_at : (full : ℕ) (t xs : List ℕ) → length xs ≤ full → full ≤ length t → (i : ℕ) → i < full → at (sets (zeroed full t) 0 xs) i ≡ at xs i
stored_at full t xs h r i l = sets_at (zeroed full t) xs i (omega (arith, zeroed-length full t)) (zeroed-below full t i l)
