-- The open dependencies among the first w are marked, and counted. Assumes nothing.
use mathlib.Core.Path.{ap, ◌∙◌}
use native.Mathlib.Omega.{arith}
use Rattle.std.specs.Prelude.{is_ok}
use Rattle.tables.specs.Lent.{lent_tables}
use Rattle.tables.specs.Tables.{Tables}
use Rattle.best_order.proofs.Marks.{marked-none, marked_more, marked_few}
use Rattle.best_order.proofs.opening.mark_open.Goals.{Start}
use Rattle.best_order.proofs.opening.mark_open.Goals as goal

abbrev given : Start → Tables
given c = lent_tables c.args.plan.now c.args.visited.now c.args.drone_flags.now c.args.sides.now c.args.flags.now

pub loop-w-init : goal.loop-w-init
loop-w-init c = (marked-none _ _, omega arith)

pub turn_test-requires : goal.turn_test-requires
turn_test-requires c = record { others = given (goal.at.turn_test-requires c).Start; holds = c.requires.0 }

pub loop-w-preserved : goal.loop-w-preserved
loop-w-preserved c =
    let s = c.turn_test.ensures.says (given (goal.at.loop-w-preserved c).Start) c.requires.0 in
    let M = marked_more _ c.loop-w.invariant.0 (c.is_ok-passes.ensures.value ∙ ap is_ok s) c.from.ensures c.from-open.ensures in
    (M, marked_few _ M)
