-- The name in a row of the table, byte by byte: it is the start of its row, and as long as the bytes before the first zero.
use Prim.Native.Nat.{ℕ, suc, ◌+◌, ◌-◌, ◌≤◌}
use native.Mathlib.Omega.{arith}
use mathlib.Core.Path.{◌≡◌, refl, sym, ◌∙◌, ap}
use mathlib.Core.List.{List, [], ◌∷◌}
use mathlib.Core.Bool.{Bool, true, false, cond}
use lib.ListN.{length, take, drop, length-take}
use lib.Seq.{take-take}
use lib.Dec.{eqb, ltb}
use borrow.Author.Tests.{ltb-false}
use Rattle.std.specs.Prelude.{Some, None, unwrap_or}
use Rattle.std.specs.List.{position_or_len}
use Rattle.std.proofs.lemmas.List.Recursion.{is_position_or_len}
use Rattle.tables.specs.Limits.{Limits}
use Rattle.lines.specs.Bytes.{Put}
use Rattle.lines.specs.Names.{name_of}

-- ---- the name is the start of its row

pub name_short : (row : List ℕ) → length (name_of row) ≤ length row
unfolding name_of
name_short [] = omega arith
name_short (b ∷ row) = go (eqb b 0) (name_short row)
  where
    go : (t : Bool) → length (name_of row) ≤ length row → length (cond t [] (b ∷ name_of row)) ≤ suc (length row)
    go true h = omega arith
    go false h = omega arith

-- ---- the search for the first zero

abbrev pub is_zero : ℕ → Bool
is_zero b = eqb b 0

name_position : (row : List ℕ) → length (name_of row) ≡ position_or_len is_zero row
unfolding name_of
name_position row = is_position_or_len (λ (r : List ℕ). length (name_of r)) is_zero refl (λ b r. by_test (eqb b 0) b r) row
  where
    by_test : (t : Bool) (b : ℕ) (r : List ℕ) → length (cond t [] (b ∷ name_of r)) ≡ cond t 0 (1 + length (name_of r))
    by_test true b r = refl
    by_test false b r = omega arith

-- a row that has no zero is a name of full length
pub found_or_end : (row : List ℕ) (n : ℕ) → length row ≡ n → unwrap_or (cond (ltb (position_or_len is_zero row) (length row)) (Some (position_or_len is_zero row)) None) n ≡ length (name_of row)
found_or_end row n e = rw (← name_position row) (by_test (ltb (length (name_of row)) (length row)) refl)
  where
    by_test : (t : Bool) → ltb (length (name_of row)) (length row) ≡ t → unwrap_or (cond t (Some (length (name_of row))) None) n ≡ length (name_of row)
    by_test true k = refl
    by_test false k = omega (arith, ltb-false _ _ k, name_short row)

name_first : (row : List ℕ) → take (length (name_of row)) row ≡ name_of row
unfolding name_of
name_first [] = refl
name_first (b ∷ row) = go (eqb b 0) (name_first row)
  where
    go : (t : Bool) → take (length (name_of row)) row ≡ name_of row → take (length (cond t [] (b ∷ name_of row))) (b ∷ row) ≡ cond t [] (b ∷ name_of row)
    go true h = refl
    go false h = ap {B = List ℕ} (λ r. b ∷ r) h

module _ (L : Limits) (names : List ℕ) (row n : ℕ) (e : n ≡ length (name_of (take L.name (drop row names)))) where
  pub name_within : n ≤ L.name
  name_within = omega (arith, name_short (take L.name (drop row names)), length-take L.name (drop row names))

  -- the part of the table up to the first zero
  name_part : take (row + n - row) (drop row names) ≡ name_of (take L.name (drop row names))
  name_part =
      let m : row + n - row ≡ n = omega arith in
      rw m (sym (take-take n L.name (drop row names) name_within) ∙ rw e (name_first (take L.name (drop row names))))

  pub part-within : length (take (row + n - row) (drop row names)) ≤ L.name
  part-within = omega (arith, name_within, length-take (row + n - row) (drop row names))

  -- the part that was written is the name
  pub name_put : {b b' : List ℕ} {at next : ℕ} → Put b at (take (row + n - row) (drop row names)) b' next → Put b at (name_of (take L.name (drop row names))) b' next
  name_put p = rw name_part at p
