use Prim.Native.Nat.{◌+◌, ◌*◌, ◌≤◌}
use mathlib.Core.Path.{◌≡◌}
use Rattle.below.specs.Below.{at, sum_below}
use Rattle.tables.specs.Limits.{limits}
use Rattle.sound.proofs.names.name_key.Given as goal

abbrev pub invariant-loop-i : goal.invariant-loop-i
invariant-loop-i l = (l.row ≡ l.d * limits.name) × (l.i ≤ limits.name) × (l.key ≤ l.i * 255) × (l.key ≡ sum_below l.i (λ i. at l.names (l.row + i)))
