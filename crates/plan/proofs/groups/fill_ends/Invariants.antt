-- The stops before v have their first ends.
use mathlib.Core.Path.{◌≡◌}
use Prim.Native.Nat.{◌*◌}
use Rattle.below.specs.Below.{at, fill_below}
use Rattle.plan.specs.Sharing.{first_where}
use Rattle.plan.proofs.groups.fill_ends.Given as goal

abbrev pub invariant-loop-v : goal.invariant-loop-v
invariant-loop-v l = l.heads ≡ fill_below l.v (λ u. first_where (at l.pairs) (2 * l.count) (at l.locations u)) l.initial.heads
