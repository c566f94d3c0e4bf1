-- Tables with a capital in a name are not sound: it is no byte of a name, and no zero after one.
use mathlib.Core.Path.{◌≡◌}
use mathlib.Core.Bool.{Bool, true, false, cond}
use Prim.Native.Nat.{ℕ, ◌<◌}
use native.Mathlib.Omega.{arith}
use lib.Dec.{ltb, leb, eqb}
use borrow.Author.Tests.{eqb-true}
use Rattle.below.proofs.Tests.{by_cases, true_or_false, and_left, and_right}
use Rattle.below.proofs.Every.{all_below-at}
use Rattle.tables.specs.Limits.{Limits}
use Rattle.tables.specs.Tables.{Tables, drones}
use Rattle.lines.specs.Names.{is_capital, is_name_byte}
use Rattle.lines.proofs.Letters.{capital_range, capital_no_name}
use Rattle.sound.specs.Sound.{name_byte, name_length, name_sound, in_range, names_sound, lists_sound, plan_accepted_lem, sound}
use Rattle.sound.specs.Claims.{CapitalNotSound}
use Rattle.sound.proofs.Clauses.{sound-says}

no_byte : (b : ℕ) → is_capital b ≡ true → (within : Bool) → cond within (is_name_byte b) (eqb b 0) ≡ true → ⊥
no_byte b h true e = true_or_false e (capital_no_name b h)
no_byte b h false e = let k = capital_range b h in let z = eqb-true b 0 e in omega (arith, k.0, z)

module _ (L : Limits) (t : Tables) (d i : ℕ) (drone : d < drones t.plan) (byte : i < L.name) where
  names_pass : sound L t ≡ true → names_sound L t.plan ≡ true
  unfolding plan_accepted_lem lists_sound
  names_pass h = and_left _ _ (and_left _ _ (and_right (in_range L t.plan) _ (sound-says L t h).accepted))

  name_passes : sound L t ≡ true → name_sound L t.plan.names d ≡ true
  unfolding names_sound
  name_passes h = all_below-at (drones t.plan) _ (and_left _ _ (names_pass h)) d drone

  byte_passes : sound L t ≡ true
      → cond (ltb i (name_length L t.plan.names d)) (is_name_byte (name_byte L t.plan.names d i)) (eqb (name_byte L t.plan.names d i) 0) ≡ true
  unfolding name_sound
  byte_passes h = all_below-at L.name _ (and_right (leb 1 (name_length L t.plan.names d)) _ (name_passes h)) i byte

pub capital_not_sound : (L : Limits) → CapitalNotSound L
capital_not_sound L t d i drone byte h = by_cases (sound L t)
    (λ s. absurd (no_byte _ h (ltb i (name_length L t.plan.names d)) (byte_passes L t d i drone byte s)))
    (λ s. s)
