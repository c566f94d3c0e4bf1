-- The stops before v have their first ends.
use Prim.Native.Nat.{ℕ}
use native.Mathlib.Omega.{arith}
use lib.ListN.{length-replicate}
use Rattle.below.proofs.Index.{zeros-at}
use Rattle.below.proofs.Fill.{fill_none, fill_store, fill_end, fill_length}
use Rattle.near.proofs.NearLaws.{count_within}
use Rattle.plan.specs.Sharing.{slots}
use Rattle.plan.proofs.SharingLaws.{trees_none, firsts_back, nexts-same}
use Rattle.plan.proofs.groups.fill_ends.Goals as goal

pub fill_trees-requires : goal.fill_trees-requires
fill_trees-requires c = (omega (arith, c.requires.0.counted, c.requires.0.room, count_within c.args.pairs.now), omega (arith, c.requires.0.counted, c.requires.0.room, count_within c.args.pairs.now), omega (arith, c.requires.0.counted, c.requires.0.room, count_within c.args.pairs.now, c.requires.3), trees_none _ _ (length-replicate {A = ℕ} slots 0) (zeros-at slots))

pub fill_nexts-requires : goal.fill_nexts-requires
fill_nexts-requires c = (omega (arith, c.requires.0.counted, c.requires.0.room, count_within c.args.pairs.now), omega (arith, fill_length _ _ _ _ c.fill_trees.ensures.firsts, c.requires.0.counted, c.requires.0.room, count_within c.args.pairs.now, c.requires.3), omega (arith, c.requires.0.counted, c.requires.0.room, count_within c.args.pairs.now, c.requires.4), firsts_back _ _ _ _ (omega (arith, c.requires.0.counted, c.requires.0.room, count_within c.args.pairs.now, c.requires.3)) c.fill_trees.ensures.firsts)

pub loop-v-init : goal.loop-v-init
loop-v-init c = fill_none _ _

pub find-requires : goal.find-requires
find-requires c = (c.fill_trees.ensures.trees, omega (arith, c.requires.0.counted, c.requires.0.room, count_within c.args.pairs.now), omega (arith, c.requires.0.counted, c.requires.0.room, count_within c.args.pairs.now))

pub loop-v-preserved : goal.loop-v-preserved
loop-v-preserved c = fill_store _ _ _ _ c.loop-v.invariant _ c.find.ensures.0

pub returns : goal.returns
returns c = record { firsts = c.fill_trees.ensures.firsts; nexts = nexts-same _ _ _ _ (omega (arith, c.requires.0.counted, c.requires.0.room, count_within c.args.pairs.now, c.requires.3)) c.fill_trees.ensures.firsts _ _ c.fill_nexts.ensures; heads = fill_end _ _ _ _ c.loop-v.invariant _ c.loop-v.auto.v-end c.loop-v-test.false }

pub overflow_mul-ends : goal.overflow_mul-ends
overflow_mul-ends c = omega (arith, c.requires.0.counted, c.requires.0.room, count_within c.args.pairs.now)

pub overflow_cast-heads : goal.overflow_cast-heads
overflow_cast-heads c = omega (arith, c.find.ensures.1, c.requires.0.counted, c.requires.0.room, count_within c.args.pairs.now)
