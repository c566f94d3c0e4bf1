use Prim.Native.Nat.{◌≤◌}
use Rattle.below.specs.Below.{at}
use Rattle.tables.specs.Limits.{limits}
use Rattle.cycles.specs.Links.{LinkedWaits}
use Rattle.raising.proofs.trying.unlink_from.Given as goal

abbrev pub invariant-loop-k : goal.invariant-loop-k
invariant-loop-k l = (l.m ≤ l.k) × (l.k ≤ l.w) × LinkedWaits limits (at l.from) l.k l.head l.next
