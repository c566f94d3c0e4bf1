-- The numbers before k have the first stops of their near locations.
use native.Mathlib.Omega.{arith}
use mathlib.Core.Path.{ap, ◌∙◌}
use Prim.Native.Nat.{ℕ}
use Rattle.below.specs.Below.{at}
use lib.ListN.{length-replicate}
use Rattle.below.proofs.Index.{zeros-at}
use Rattle.below.proofs.Fill.{fill_none, fill_store}
use Rattle.near.proofs.NearLaws.{count_within}
use Rattle.plan.specs.Sharing.{slots, first_where}
use Rattle.plan.proofs.SharingLaws.{trees_none}
use Rattle.plan.proofs.NearLists.{other_in}
use Rattle.tables.specs.Limits.{limits}
use Rattle.plan.proofs.groups.fill_opposite.Goals as goal

pub fill_trees-requires : goal.fill_trees-requires
fill_trees-requires c = (c.requires.1, c.requires.2, omega (arith, length-replicate {A = ℕ} limits.stops 0, c.requires.2), trees_none _ _ (length-replicate {A = ℕ} slots 0) (zeros-at slots))

pub loop-k-init : goal.loop-k-init
loop-k-init c = fill_none _ _

pub other_end-requires : goal.other_end-requires
other_end-requires c = omega (arith, c.loop-k-test, c.requires.0.counted, count_within c.args.pairs.now)

pub loop-k-preserved : goal.loop-k-preserved
loop-k-preserved c = fill_store _ _ _ _ c.loop-k.invariant _ (c.find.ensures.0 ∙ ap (λ (z : ℕ). first_where (at c.args.locations.now) c.args.n (at c.args.pairs.now z)) c.other_end.ensures)

pub overflow_mul-ends : goal.overflow_mul-ends
overflow_mul-ends c = omega (arith, c.requires.0.counted, c.requires.0.room, count_within c.args.pairs.now)

pub offset_bounds-pairs-other_end : goal.offset_bounds-pairs-other_end
offset_bounds-pairs-other_end c = omega (arith, c.other_end.ensures, other_in c.loop-k.k c.args.count c.loop-k-test.true, c.requires.0.counted, count_within c.args.pairs.now)

pub bounds-pairs-other_end : goal.bounds-pairs-other_end
bounds-pairs-other_end c = omega (arith, c.other_end.ensures, other_in c.loop-k.k c.args.count c.loop-k-test.true, c.requires.0.counted, c.requires.0.room, count_within c.args.pairs.now)

pub offset_bounds-starts-k : goal.offset_bounds-starts-k
offset_bounds-starts-k c = omega (arith, c.loop-k-test, c.requires.0.counted, count_within c.args.pairs.now)

pub bounds-starts-k : goal.bounds-starts-k
bounds-starts-k c = omega (arith, c.loop-k-test, c.requires.0.counted, count_within c.args.pairs.now)
