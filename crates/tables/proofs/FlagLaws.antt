-- A mask of one bit, or of all the bits from one on, is a quotient and a remainder by powers of two: so the flag bytes are plain arithmetic.
use mathlib.Core.Path.{◌≡◌, refl, ◌∙◌, ap}
use mathlib.Core.Bool.{Bool, true, false, not}
use Prim.Native.Nat.{ℕ, zero, suc, ◌+◌, ◌-◌, ◌*◌, ◌/◌, ◌%◌, ◌≤◌, ◌<◌}
use native.Mathlib.Nat.{mod-lt, mod-eq_of_lt}
use native.Mathlib.Omega.{arith}
use lib.Dec.{eqb, ltb, lit<}
use lib.Bits.{bit_and, bit_or, bit_xor, and_mask, and_high, or_add_and, xor_add_and}
use borrow.Author.Tests.{eq-eqb, ne_eqb, ltb-true, ltb-false}
use Rattle.tables.specs.Flags.{turned_bit, fixed_bit, only_two_bits, flip_bit, fixed_flag, under_way_bit, withdrawn_bit, set_under_way, clear_under_way, set_withdrawn}

------------------------------------------------------------------------
-- Tests by masks

-- the weight of a bit is not 0 just where the bit is 1
weight_bit : (weight x : ℕ) → 0 < weight → x < 2 → not (eqb (x * weight) 0) ≡ eqb x 1
weight_bit weight zero w h = ap not (eq-eqb (0 * weight) 0 (omega arith))
weight_bit weight (suc zero) w h = ap not (ne_eqb (1 * weight) 0 (λ e. omega arith))
weight_bit weight (suc (suc x)) w h = absurd (omega arith)

bit_mask : (masked weight x : ℕ) → masked ≡ x * weight → 0 < weight → x < 2 → not (eqb masked 0) ≡ eqb x 1
bit_mask masked weight x e w h = ap (λ (m : ℕ). not (eqb m 0)) e ∙ weight_bit weight x w h

low_mask : (f : ℕ) → not (eqb (bit_and f 1) 0) ≡ eqb (f % 2) 1
low_mask f = bit_mask (bit_and f 1) 1 (f % 2) (and_mask f 1 ∙ omega arith) (lit< tt) (mod-lt f (lit< tt))

pub turned_mask : (f : ℕ) → not (eqb (bit_and f 1) 0) ≡ turned_bit f
unfolding turned_bit
turned_mask f = low_mask f

pub under_way_mask : (f : ℕ) → not (eqb (bit_and f 1) 0) ≡ under_way_bit f
unfolding under_way_bit
under_way_mask f = low_mask f

second_mask : (f : ℕ) → not (eqb (bit_and f 2) 0) ≡ eqb (f / 2 % 2) 1
second_mask f = bit_mask (bit_and f 2) 2 (f / 2 % 2) (and_high f 1 1) (lit< tt) (mod-lt (f / 2) (lit< tt))

pub fixed_mask : (f : ℕ) → not (eqb (bit_and f 2) 0) ≡ fixed_bit f
unfolding fixed_bit
fixed_mask f = second_mask f

pub withdrawn_mask : (f : ℕ) → not (eqb (bit_and f 2) 0) ≡ withdrawn_bit f
unfolding withdrawn_bit
withdrawn_mask f = second_mask f

-- the mask of all the bits of a byte from bit 2 on, and from bit 1 on
from_bit_2 : (f : ℕ) → f < 256 → bit_and f 252 ≡ f / 4 * 4
from_bit_2 f h = let q : f / 4 < 64 = omega arith in and_high f 6 2 ∙ ap (λ (x : ℕ). x * 4) (mod-eq_of_lt q)

from_bit_1 : (f : ℕ) → f < 256 → bit_and f 254 ≡ f / 2 * 2
from_bit_1 f h = let q : f / 2 < 128 = omega arith in and_high f 7 1 ∙ ap (λ (x : ℕ). x * 2) (mod-eq_of_lt q)

-- those bits are zero just where the byte is below the first one's weight
upper_bits : (masked f weight : ℕ) (low : Bool) → ltb f weight ≡ low → (f < weight → masked ≡ 0) → (weight ≤ f → masked ≡ 0 → ⊥) → eqb masked 0 ≡ low
upper_bits masked f weight true e z p = eq-eqb masked 0 (z (ltb-true f weight e))
upper_bits masked f weight false e z p = ne_eqb masked 0 (p (ltb-false f weight e))

pub two_bits_mask : (f : ℕ) → f < 256 → eqb (bit_and f 252) 0 ≡ only_two_bits f
unfolding only_two_bits
two_bits_mask f h = let m = from_bit_2 f h in upper_bits (bit_and f 252) f 4 (ltb f 4) refl (λ l. omega arith) (λ l e. omega arith)

------------------------------------------------------------------------
-- Changes by masks

pub flip_mask : (f : ℕ) → bit_xor f 1 ≡ flip_bit f
unfolding flip_bit
flip_mask f = omega (arith, xor_add_and f 1, and_mask f 1)

pub set_mask : (f : ℕ) → bit_or f 1 ≡ set_under_way f
unfolding set_under_way
set_mask f = omega (arith, or_add_and f 1, and_mask f 1)

pub clear_mask : (f : ℕ) → f < 256 → bit_and f 254 ≡ clear_under_way f
unfolding clear_under_way
clear_mask f h = from_bit_1 f h

pub withdraw_mask : (f : ℕ) → bit_or f 2 ≡ set_withdrawn f
unfolding set_withdrawn
withdraw_mask f = omega (arith, or_add_and f 2, and_high f 1 1)

------------------------------------------------------------------------
-- What the changes do to the bits

other_bit : (x y : ℕ) → x < 2 → y ≡ 1 - x → eqb y 1 ≡ not (eqb x 1)
other_bit zero y h e = eq-eqb y 1 e
other_bit (suc zero) y h e = ne_eqb y 1 (λ k. omega arith)
other_bit (suc (suc x)) y h e = absurd (omega arith)

-- the fixed bit and the six above it stay
pub flip_half : (f : ℕ) → flip_bit f / 2 ≡ f / 2
unfolding flip_bit
flip_half f = omega arith

pub flip-turned : (f : ℕ) → turned_bit (flip_bit f) ≡ not (turned_bit f)
unfolding turned_bit flip_bit
flip-turned f = other_bit (f % 2) ((f / 2 * 2 + (1 - f % 2)) % 2) (mod-lt f (lit< tt)) (omega arith)

pub set_under_way_lem : (f : ℕ) → under_way_bit (set_under_way f) ≡ true
unfolding under_way_bit set_under_way
set_under_way_lem f = eq-eqb ((f / 2 * 2 + 1) % 2) 1 (omega arith)

pub clear_under_way_lem : (f : ℕ) → under_way_bit (clear_under_way f) ≡ false
unfolding under_way_bit clear_under_way
clear_under_way_lem f = ne_eqb (f / 2 * 2 % 2) 1 (λ e. omega arith)

-- each change of a drone's byte keeps the other bits
pub set_withdrawn_lem : (f : ℕ) → withdrawn_bit (set_withdrawn f) ≡ true
unfolding withdrawn_bit set_withdrawn
set_withdrawn_lem f = eq-eqb ((f / 4 * 4 + 2 + f % 2) / 2 % 2) 1 (omega arith)

pub withdrawn_under_way : (f : ℕ) → under_way_bit (set_withdrawn f) ≡ under_way_bit f
unfolding under_way_bit set_withdrawn
withdrawn_under_way f = let same : (f / 4 * 4 + 2 + f % 2) % 2 ≡ f % 2 = omega arith in ap (λ (x : ℕ). eqb x 1) same

pub set_keeps_withdrawn : (f : ℕ) → withdrawn_bit (set_under_way f) ≡ withdrawn_bit f
unfolding withdrawn_bit set_under_way
set_keeps_withdrawn f = let same : (f / 2 * 2 + 1) / 2 ≡ f / 2 = omega arith in ap (λ (x : ℕ). eqb (x % 2) 1) same

pub clear_keeps_withdrawn : (f : ℕ) → withdrawn_bit (clear_under_way f) ≡ withdrawn_bit f
unfolding withdrawn_bit clear_under_way
clear_keeps_withdrawn f = let same : f / 2 * 2 / 2 ≡ f / 2 = omega arith in ap (λ (x : ℕ). eqb (x % 2) 1) same

-- a new dependency is not turned
pub new_turned : (fixed : Bool) → turned_bit (fixed_flag fixed) ≡ false
unfolding turned_bit fixed_flag
new_turned true = refl
new_turned false = refl

-- what each test and each change of `flags` is, by its mask
pub ruleset masks = (turned_mask, fixed_mask, two_bits_mask, flip_mask, under_way_mask, withdrawn_mask, set_mask, withdraw_mask, clear_mask)
