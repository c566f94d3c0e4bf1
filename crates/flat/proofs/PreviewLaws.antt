-- The preview's change of the cost: costs are far below the greatest signed number, so their difference is read back from its bits. Assumes nothing.
use mathlib.Core.Path.{◌≡◌, sym, ap, ◌∙◌}
use Prim.Native.Nat.{ℕ, ◌^◌, ◌<◌}
use native.Mathlib.Omega.{arith}
use lib.IntN.{ℤ, sub_ℕ}
use mir.Syntax.{w32}
use mir.Val.{to_z, of_z}
use mir.Facts.{to_z-of_z}
use Rattle.tables.specs.Limits.{Limits, limits}
use Rattle.tables.specs.Tables.{Tables}
use Rattle.call_log.specs.Calls.{costs, cost_reply}
use Rattle.call_log.specs.Preview.{would_turn}
use Rattle.call_log.proofs.Costs.{cost_limit}
use Rattle.flat.proofs.SignedLaws.{difference_fits}

-- a cost is far below the greatest signed number
abbrev pub CostsSmall : Limits → Type 0
CostsSmall L = (t : Tables) (c : ℕ) → costs c ≡ cost_reply L t → c < 2 ^ 31

pub cost-small : CostsSmall limits
cost-small t c e = omega (arith, cost_limit t c (sym e))

-- a and b: the cost after a turn and before it; z: their difference, which is read back from its bits
pub change_read : (L : Limits) → CostsSmall L → (t t' : Tables) (a b : ℕ) → costs a ≡ cost_reply L t' → costs b ≡ cost_reply L t → (z : ℤ) → z ≡ sub_ℕ a b → would_turn (to_z w32 (of_z w32 z)) ≡ would_turn (sub_ℕ a b)
change_read L small t t' a b p q z is-z = ap (λ (x : ℤ). would_turn (to_z w32 (of_z w32 x))) is-z ∙ ap would_turn (to_z-of_z (difference_fits a b (small t' a p) (small t b q)))
