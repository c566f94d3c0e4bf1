use Prim.Native.Nat.{ℕ, ◌≤◌}
use mathlib.Core.Path.{◌≡◌}
use Rattle.below.specs.Below.{at}
use Rattle.tables.specs.Limits.{limits}
use Rattle.cycles.specs.Waits.{Edges}
use Rattle.cycles.proofs.waits.make_waits.Given as goal

abbrev pub invariant-loop-k : goal.invariant-loop-k
invariant-loop-k l = (l.k ≤ l.m) × Edges limits l.initial.from l.initial.into l.flags l.k l.from l.into × ((j : ℕ) → l.k ≤ j → at l.from j ≡ at l.initial.from j) × ((j : ℕ) → l.k ≤ j → at l.into j ≡ at l.initial.into j)
