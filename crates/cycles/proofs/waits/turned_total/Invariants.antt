use Prim.Native.Nat.{◌≤◌}
use mathlib.Core.Path.{◌≡◌}
use Rattle.below.specs.Below.{count_below}
use Rattle.cycles.specs.Waits.{turned_in}
use Rattle.cycles.proofs.waits.turned_total.Given as goal

abbrev pub invariant-loop-k : goal.invariant-loop-k
invariant-loop-k l = (l.k ≤ l.m) × (l.total ≡ count_below l.k (turned_in l.flags))
