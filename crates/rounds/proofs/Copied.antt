-- Places copied from the first entries of a table. Assumes nothing.
use mathlib.Core.Path.{◌≡◌, sym, ◌∙◌}
use mathlib.Core.List.{List, ◌++◌}
use Prim.Native.Nat.{ℕ, ◌+◌, ◌-◌, ◌≤◌}
use native.Mathlib.Omega.{arith}
use lib.Dec.{ltb}
use lib.ListN.{length, take, drop, length-append, length-take, length-drop, get_or-append}
use lib.Seq.{ext_get_or, get_or-append_right, get_or-take, get_or-drop}
use borrow.Author.Tests.{ltb-true, ltb-false}
use Rattle.below.specs.Below.{at, fill_below}
use Rattle.below.proofs.Fill.{get_d_fill, get_d_unfilled, length_fill}
use Rattle.below.proofs.Tests.{by_cases}

-- a table whose first k entries are written over by another's is filled from it
pub fill_taken : (l r : List ℕ) (k : ℕ) → k ≤ length l → k ≤ length r → take k l ++ drop k r ≡ fill_below k (at l) r
fill_taken l r k a b =
    let size : length (take k l) ≡ k = simp length-take (omega arith) in
    ext_get_or 0 _ _ (simp (length-append, length-take, length-drop) (omega (arith, length_fill (at l) r k)))
    (λ i h. by_cases (ltb i k)
    (λ e. get_or-append (take k l) (drop k r) 0 i (omega (arith, ltb-true i k e)) ∙ get_or-take k l i 0 (ltb-true i k e) ∙ sym (get_d_fill (at l) r k i (ltb-true i k e) b))
    (λ e. let past : k + (i - k) ≡ i = omega (arith, ltb-false i k e) in
    get_or-append_right (take k l) (drop k r) i 0 (omega (arith, ltb-false i k e)) ∙ rw (size, get_or-drop, past) (sym (get_d_unfilled (at l) r k i (ltb-false i k e)))))
