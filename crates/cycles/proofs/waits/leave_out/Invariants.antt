-- The first k waits are left out where they must be, and the others are as they were.
use Prim.Native.Nat.{ℕ, ◌≤◌}
use mathlib.Core.Path.{◌≡◌}
use Rattle.below.specs.Below.{at}
use Rattle.tables.specs.Limits.{limits}
use Rattle.cycles.specs.Waits.{LeftOut}
use Rattle.cycles.proofs.waits.leave_out.Given as goal

abbrev pub invariant-loop-k : goal.invariant-loop-k
invariant-loop-k l = (l.k ≤ l.m) × LeftOut limits l.stops.owners.now l.stops.starts.now l.drone_flags l.initial.from l.into l.k l.from × ((j : ℕ) → l.k ≤ j → at l.from j ≡ at l.initial.from j)
