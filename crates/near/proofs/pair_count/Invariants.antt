use mathlib.Core.Path.{◌≡◌}
use Rattle.below.specs.Below.{first_below}
use lib.Dec.{eqb}
use Rattle.near.specs.Near.{upper}
use Rattle.near.proofs.pair_count.Given as goal

abbrev pub invariant-loop-i : goal.invariant-loop-i
invariant-loop-i l = first_below l.i (λ k. eqb (upper l.pairs k) 0) ≡ l.i
