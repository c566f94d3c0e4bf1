-- The columns hold the dependencies with a first stop before v, and the cursor stands after them.
use Prim.Native.Nat.{ℕ, ◌*◌}
use lib.ListN.{length-replicate}
use Rattle.tables.specs.Limits.{most_pairs}
use Rattle.below.proofs.Sum.{sum-none}
use Rattle.plan.proofs.ColumnsLaws.{rows_none, rows_room, rows_more, rows_cursor}
use Rattle.plan.proofs.dependencies.fill_rows.Goals as goal

pub loop-v-init : goal.loop-v-init
loop-v-init c = (sum-none _ 0, rows_none _ _, length-replicate {A = ℕ} (2 * most_pairs) 0)

pub fill_row-k-requires : goal.fill_row-k-requires
fill_row-k-requires c = record { plan_room = (c.requires.plan_room.0, c.requires.plan_room.1, c.loop-v-test.true, c.loop-v.invariant.2, c.requires.plan_room.2); columns_room = rows_room _ _ _ _ c.loop-v.invariant.1 _ c.loop-v.invariant.0 c.loop-v-test.true c.requires.columns_room }

pub loop-v-preserved : goal.loop-v-preserved
loop-v-preserved c = (rows_cursor _ _ _ _ c.loop-v.invariant.1 _ c.loop-v.invariant.0 _ c.fill_row-k.ensures.answer, rows_more _ _ _ _ c.loop-v.invariant.1 _ c.loop-v.invariant.0 _ _ _ _ _ c.fill_row-k.ensures.written, c.fill_row-k.ensures.sized)
