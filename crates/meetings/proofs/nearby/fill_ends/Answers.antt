-- The stops before v have their first numbers.
use Prim.Native.Nat.{ℕ}
use native.Mathlib.Omega.{arith}
use lib.ListN.{length-replicate}
use Rattle.below.proofs.Index.{zeros-at}
use Rattle.below.proofs.Fill.{fill_none, fill_store, fill_end}
use Rattle.tables.specs.Limits.{limits}
use Rattle.plan.specs.Sharing.{slots}
use Rattle.plan.proofs.SharingLaws.{trees_none}
use Rattle.meetings.proofs.NearCounts.{ends_few, ends_filled}
use Rattle.meetings.proofs.nearby.fill_ends.Goals as goal

pub fill_trees-requires : goal.fill_trees-requires
fill_trees-requires c = (omega (arith, ends_few c.requires.0, c.requires.0.room), omega (arith, ends_few c.requires.0), omega (arith, ends_few c.requires.0, c.requires.3), trees_none _ _ (length-replicate {A = ℕ} slots 0) (zeros-at slots))

pub loop-v-init : goal.loop-v-init
loop-v-init c = fill_none _ _

pub find-requires : goal.find-requires
find-requires c = (c.fill_trees.ensures.trees, omega (arith, ends_few c.requires.0, c.requires.0.room), omega (arith, ends_few c.requires.0))

pub loop-v-preserved : goal.loop-v-preserved
loop-v-preserved c = fill_store _ _ _ _ c.loop-v.invariant _ c.find.ensures.0

pub returns : goal.returns
returns c = ends_filled limits _ _ _ _ _ _ _ _ (omega (arith, ends_few c.requires.0, c.requires.3)) c.requires.4 c.requires.2 c.fill_trees.ensures.firsts (fill_end _ _ _ _ c.loop-v.invariant _ c.loop-v.auto.v-end c.loop-v-test.false)

pub overflow_mul-ends : goal.overflow_mul-ends
overflow_mul-ends c = omega (arith, ends_few c.requires.0)

pub overflow_cast-heads : goal.overflow_cast-heads
overflow_cast-heads c = omega (arith, c.find.ensures.1, ends_few c.requires.0)
