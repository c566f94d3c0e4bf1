use borrow.Author.Rules.{rules}
use mathlib.Core.Path.{sym, ◌∙◌}
use native.Mathlib.Omega.{arith}
use lib.Dec.{ltb}
use borrow.Author.Tests.{lt-ltb, le-ltb}
use Rattle.below.specs.Below.{at}
use Rattle.below.proofs.Count.{count_start, count_hit, count_miss, count_end, count_le}
use Rattle.rounds.proofs.playing.unfinished.Goals.{then-places-d, else-places-d}
use Rattle.rounds.proofs.playing.unfinished.Goals as goal

pub loop-d-init : goal.loop-d-init
loop-d-init c = (search rules, sym (count_start _))

pub overflow_add-count : goal.overflow_add-count
overflow_add-count c = omega (arith, count_le c.loop-d.d (λ i. ltb (at c.args.places.now i) (at c.args.stops.now.lasts.now i)))

pub loop-d-preserved : goal.loop-d-preserved
loop-d-preserved c = (
  omega arith,
  elim c.if-places-d.branch [
    | then-places-d w ↦ w.count-is ∙ count_hit _ _ _ c.loop-d.invariant.1 (lt-ltb _ _ w.if-places-d.true)
    | else-places-d w ↦ w.count-is ∙ count_miss _ _ _ c.loop-d.invariant.1 (le-ltb _ _ w.if-places-d.false)
  ],
)

pub returns : goal.returns
returns c = (count_end _ _ _ _ (omega arith) (omega arith) c.loop-d.invariant.1, omega (arith, count_le c.loop-d.d (λ i. ltb (at c.args.places.now i) (at c.args.stops.now.lasts.now i))))
