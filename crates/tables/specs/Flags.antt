-- The flag bytes of dependencies and drones, in plain arithmetic (document 01, "The graph" and "Tables and what is sound"). Assumes nothing.
use Rattle.std.specs.Prelude.{Bool, cond, ℕ, ◌+◌, ◌-◌, ◌*◌, ◌/◌, ◌%◌, eqb, ltb}

-- A dependency's flag byte: "bit 0 is turned, bit 1 is fixed, and the other six bits are zero".
unfoldable pub turned_bit : ℕ → Bool
turned_bit f = eqb (f % 2) 1

unfoldable pub fixed_bit : ℕ → Bool
fixed_bit f = eqb (f / 2 % 2) 1

unfoldable pub only_two_bits : ℕ → Bool
only_two_bits f = ltb f 4

-- "flips bit 0": the other bits stay
unfoldable pub flip_bit : ℕ → ℕ
flip_bit f = f / 2 * 2 + (1 - f % 2)

-- the byte of a dependency that is not turned
unfoldable pub fixed_flag : Bool → ℕ
fixed_flag fixed = cond fixed 2 0

-- A drone's flag byte: bit 0 is "whether it is under way to the next", bit 1 is the "mark in the drone's record" that it is withdrawn, the others are zero.
unfoldable pub under_way_bit : ℕ → Bool
under_way_bit f = eqb (f % 2) 1

unfoldable pub withdrawn_bit : ℕ → Bool
withdrawn_bit f = eqb (f / 2 % 2) 1

-- the byte with bit 0 set, and with it cleared: the other bits stay
unfoldable pub set_under_way : ℕ → ℕ
set_under_way f = f / 2 * 2 + 1

unfoldable pub clear_under_way : ℕ → ℕ
clear_under_way f = f / 2 * 2

-- "Withdrawing changes only a mark in the drone's record": the byte with bit 1 set, the other bits stay
unfoldable pub set_withdrawn : ℕ → ℕ
set_withdrawn f = f / 4 * 4 + 2 + f % 2
