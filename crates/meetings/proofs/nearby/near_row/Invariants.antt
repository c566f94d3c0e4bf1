-- The sum is over the numbers before k.
use mathlib.Core.Path.{◌≡◌}
use Prim.Native.Nat.{ℕ, ◌-◌, ◌*◌, ◌≤◌, ◌<◌}
use Rattle.below.specs.Below.{at, sum_below, pick}
use lib.Dec.{eqb}
use Rattle.plan.specs.Sharing.{first_where}
use Rattle.plan.specs.Sharing.{other_end}
use Rattle.meetings.proofs.nearby.near_row.Given as goal

abbrev pub invariant-loop-k : goal.invariant-loop-k
invariant-loop-k l = (l.k ≤ 2 * l.count) × (l.sum ≤ l.k * 65536) × ((l' : ℕ) → l.head ≡ first_where (at l.pairs) (2 * l.count) l' → (l.sum ≡ sum_below l.k (λ j. pick (eqb (at l.pairs j) l') (at l.counts (at l.first (other_end j))) 0)) × (l.k < 2 * l.count → at l.pairs l.k ≡ l'))

abbrev pub decreases-loop-k : goal.decreases-loop-k
decreases-loop-k l = 2 * l.count - l.k
