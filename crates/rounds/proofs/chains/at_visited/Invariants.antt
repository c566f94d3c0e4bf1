use Prim.Native.Nat.{ℕ, ◌≤◌, ◌<◌, ◌+◌}
use mathlib.Core.Path.{◌≡◌}
use lib.ListN.{length}
use Rattle.below.specs.Below.{at}
use Rattle.tables.specs.Limits.{limits}
use Rattle.rounds.proofs.chains.at_visited.Given as goal

abbrev pub invariant-loop-d : goal.invariant-loop-d
invariant-loop-d l = (l.d ≤ l.drones) × (length l.cur ≡ limits.drones) × ((i : ℕ) → i < l.d → at l.cur i ≡ at l.starts i + at l.visited i)
