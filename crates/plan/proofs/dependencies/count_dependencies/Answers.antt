-- The counter is the number of dependencies with a first stop before v, and is within the full size.
use borrow.Author.Rules.{rules}
use Prim.Native.Nat.{ℕ, ◌*◌}
use mathlib.Core.Path.{◌∙◌}
use native.Mathlib.Omega.{arith}
use mathlib.Core.List.{[]}
use lib.ListN.{length-replicate}
use Rattle.tables.specs.Limits.{most_pairs}
use Rattle.plan.proofs.Unread.{counted_any}
use Rattle.below.proofs.Sum.{sum-none, sum-turn}
use Rattle.plan.proofs.ColumnsLaws.{row_few, counted-past, counted_end}
use Rattle.plan.proofs.dependencies.count_dependencies.Goals as goal

pub loop-v-init : goal.loop-v-init
loop-v-init c = (sum-none _ 0, search rules, length-replicate {A = ℕ} (2 * most_pairs) 0)

pub overflow_add-c : goal.overflow_add-c
overflow_add-c c = omega (arith, row_few _ _ _ (c.count_row-c.ensures.count []), c.requires.0.few)

pub returns-then-c-gt-FULL : goal.returns-then-c-gt-FULL
returns-then-c-gt-FULL c = λ numbers. counted-past _ _ _ _ _ _ c.loop-v-test.true c.loop-v.invariant.0 (c.count_row-c.ensures.count []) c.if-c-gt-FULL.true ∙ counted_any _ _ _

pub loop-v-preserved : goal.loop-v-preserved
loop-v-preserved c = (sum-turn _ _ _ _ c.loop-v.invariant.0 (c.count_row-c.ensures.count []), c.if-c-gt-FULL.false, c.count_row-c.ensures.sized)

pub returns : goal.returns
returns c = λ numbers. counted_end _ _ _ _ _ c.loop-v.auto.v-end c.loop-v-test.false c.loop-v.invariant.0 c.loop-v.invariant.1 ∙ counted_any _ _ _
