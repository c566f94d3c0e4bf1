-- The difference of two numbers as a signed one of 32 bits. Assumes nothing.
use mathlib.Core.Path.{◌≡◌, refl, sym, ap, ◌∙◌, subst}
use mathlib.Core.Bool.{Bool, true, false, cond}
use Prim.Native.Nat.{ℕ, zero, suc, ◌+◌, ◌-◌, ◌^◌, ◌<◌}
use native.Mathlib.Omega.{arith}
use lib.Dec.{ltb}
use lib.IntN.{ℤ, pos, negsuc, sub_ℕ, ◌-ℤ◌}
use lib.Signed.{mag}
use borrow.Author.Tests.{ltb-true, le-ltb}
use mir.Syntax.{w32}
use mir.Val.{to_z, of_z, SFits}
use mir.Facts.{to_z_pos, to_z-of_z}

minus_is : (a b : ℕ) → pos a -ℤ pos b ≡ sub_ℕ a b
minus_is a zero = let e : a + 0 ≡ a - 0 = omega arith in rw (le-ltb a 0 (omega arith)) (ap pos e)
minus_is a (suc b) = refl

-- both below 2 ^ 31
module _ (a b : ℕ) (x : a < 2 ^ 31) (y : b < 2 ^ 31) where
  pub difference_fits : SFits w32 (sub_ℕ a b)
  difference_fits = record { sfits = go (ltb a b) refl }
    where
      go : (c : Bool) → ltb a b ≡ c → mag (cond c (negsuc (b - suc a)) (pos (a - b))) < 2 ^ 31
      go true e = omega (arith, ltb-true a b e)
      go false e = omega arith

  -- as the machine has them
  read_is : to_z w32 a -ℤ to_z w32 b ≡ sub_ℕ a b
  read_is = ap (λ (z : ℤ). z -ℤ to_z w32 b) (to_z_pos w32 x) ∙ ap (λ (z : ℤ). pos a -ℤ z) (to_z_pos w32 y) ∙ minus_is a b

  pub read_fits : SFits w32 (to_z w32 a -ℤ to_z w32 b)
  read_fits = subst (SFits w32) (sym read_is) difference_fits

  pub read_difference : to_z w32 (of_z w32 (to_z w32 a -ℤ to_z w32 b)) ≡ sub_ℕ a b
  read_difference = to_z-of_z read_fits ∙ read_is
