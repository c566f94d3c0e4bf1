-- Entries of one table copied into another, one by one. Assumes nothing.
use Prim.Native.Nat.{ℕ, zero, suc, ◌<◌}
use native.Mathlib.Omega.{arith}
use mathlib.Core.Path.{◌≡◌, ap}
use mathlib.Core.List.{List, [], ◌∷◌, ◌++◌}
use lib.ListN.{length, take, drop, set, get_or}

-- one entry more is that of the other table
pub copied_more : {A : Type 0} (i : ℕ) (x : A) (from into : List A) → i < length from → i < length into → x ≡ get_or from i x
    → set (take i from ++ drop i into) i x ≡ take (suc i) from ++ drop (suc i) into
copied_more i x [] into h k e = absurd (omega arith)
copied_more i x (y ∷ from) [] h k e = absurd (omega arith)
copied_more zero x (y ∷ from) (z ∷ into) h k e = ap (λ v. v ∷ into) e
copied_more {A} (suc i) x (y ∷ from) (z ∷ into) h k e = ap (λ (l : List A). y ∷ l) (copied_more i x from into (omega arith) (omega arith) e)
