-- The numbers before k have the first stops of their near locations.
use mathlib.Core.Path.{◌≡◌}
use Rattle.below.specs.Below.{at}
use Rattle.below.specs.Below.{fill_below}
use Rattle.plan.specs.Sharing.{first_where, other_end}
use Rattle.plan.proofs.groups.fill_opposite.Given as goal

abbrev pub invariant-loop-k : goal.invariant-loop-k
invariant-loop-k l = l.starts ≡ fill_below l.k (λ j. first_where (at l.locations) l.n (at l.pairs (other_end j))) l.initial.starts
