use Prim.Native.Nat.{◌-◌, ◌≤◌}
use mathlib.Core.Path.{◌≡◌}
use lib.ListN.{length}
use Rattle.tables.specs.Limits.{limits}
use Rattle.raising.specs.Lifting.{undone}
use Rattle.raising.proofs.worklist.undo.Given as goal

abbrev pub invariant-loop-k : goal.invariant-loop-k
invariant-loop-k l = (undone l.log_stops l.log_olds l.mark (l.k - l.mark) l.table ≡ undone l.log_stops l.log_olds l.mark (l.top - l.mark) l.initial.table) × (l.k ≤ l.top) × (length l.table ≡ limits.stops)
