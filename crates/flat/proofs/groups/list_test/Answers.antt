-- The dependencies before this one pass. Assumes nothing.
use mathlib.Core.Path.{sym, ◌∙◌}
use native.Mathlib.Omega.{arith}
use native.Mathlib.Numerals.{add-one}
use Rattle.std.proofs.lemmas.Result.{err_from_is_err_and}
use Rattle.tables.specs.Lent.{lent_tables}
use Rattle.tables.specs.Tables.{Tables}
use Rattle.flat.proofs.WalkLaws.{one_more, walk_hit, walk_all}
use Rattle.flat.proofs.groups.list_test.Goals.{Start}
use Rattle.flat.proofs.groups.list_test.Goals as goal

abbrev given : Start → Tables
given c = lent_tables c.args.plan.now c.args.visited.now c.args.drone_flags.now c.args.sides.now c.args.flags.now

pub turn_test-requires : goal.turn_test-requires
turn_test-requires c = record { others = given (goal.at.turn_test-requires c).Start; holds = c.requires }

pub loop-dependency-preserved : goal.loop-dependency-preserved
loop-dependency-preserved c =
    let s = c.turn_test.ensures.says (given (goal.at.loop-dependency-preserved c).Start) c.requires in
    one_more _ _ _ _ (add-one _) c.loop-dependency.invariant (sym (rw c.from.ensures at s) ∙ c.in_ok-turn_test.was)

pub returns-in_err-turn_test : goal.returns-in_err-turn_test
returns-in_err-turn_test c =
    let p = err_from_is_err_and c.from_residual.result c.from_residual.ensures.1 in
    let s = c.turn_test.ensures.says (given (goal.at.returns-in_err-turn_test c).Start) c.requires in
    rw (p.1, p.2) (walk_hit _ _ _ c.loop-dependency-test.true c.loop-dependency.invariant _ (sym (rw c.from.ensures at s) ∙ c.in_err-turn_test.was))

pub returns : goal.returns
returns c = walk_all _ _ (λ j l. c.loop-dependency.invariant j (omega arith))
