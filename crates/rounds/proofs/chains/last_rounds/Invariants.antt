use Prim.Native.Nat.{◌≤◌, ◌*◌, ◌+◌}
use mathlib.Core.Path.{◌≡◌}
use Rattle.below.specs.Below.{sum_below, at}
use Rattle.tables.specs.Limits.{limits}
use Rattle.rounds.proofs.chains.last_rounds.Given as goal

abbrev pub invariant-loop-d : goal.invariant-loop-d
invariant-loop-d l = (l.d ≤ l.drones) × (l.sum ≡ sum_below l.d (λ i. at l.table (at l.starts i + at l.lasts i))) × (l.sum ≤ limits.leg * limits.stops * l.d)
