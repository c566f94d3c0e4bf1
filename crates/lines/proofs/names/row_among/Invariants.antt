-- The row is among all rows exactly when it is among those that are left.
use Prim.Native.Nat.{◌-◌, ◌*◌}
use Rattle.tables.specs.Limits.{limits}
use mathlib.Core.Path.{◌≡◌}
use Rattle.lines.specs.Names.{among}
use Rattle.lines.proofs.names.row_among.Given as goal

abbrev pub invariant-loop-k : goal.invariant-loop-k
invariant-loop-k l = among limits l.rows l.names 0 l.row ≡ among limits (l.rows - l.k) l.names (l.k * limits.name) l.row
