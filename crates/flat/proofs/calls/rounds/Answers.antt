-- Past 41 and 40 the tables can be used, and their graph is in the local tables. Assumes nothing.
use Rattle.std.proofs.lemmas.Result.{err_from_is_err_and}
use Rattle.tables.specs.Lent.{lent_tables}
use Rattle.tables.specs.Limits.{limits}
use Rattle.tables.specs.Tables.{Tables}
use Rattle.flat.proofs.CheckLaws.{says_usable, says_fault, rounds_faulty}
use Rattle.flat.proofs.calls.rounds.Goals.{Start}
use Rattle.flat.proofs.calls.rounds.Goals as goal

abbrev given : Start → Tables
given c = lent_tables c.args.plan.now c.args.visited.now c.args.drone_flags.now c.args.sides.now c.args.flags.now

pub returns-in_err-check_graph : goal.returns-in_err-check_graph
returns-in_err-check_graph c =
    let p = err_from_is_err_and c.from_residual.result c.from_residual.ensures.1 in
    rw (p.1, p.2) (rounds_faulty limits _ _ (says_fault limits _ _ c.check_graph.ensures.checked c.in_err-check_graph.was))

pub rounds_sound-requires : goal.rounds_sound-requires
rounds_sound-requires c = record { others = given (goal.at.rounds_sound-requires c).Start; holds = record { usable = says_usable limits _ _ c.check_graph.ensures.checked c.in_ok-check_graph.was; in_force = c.in_ok-check_graph.ensures.in_force } }

pub returns : goal.returns
returns c = c.rounds_sound.ensures.says (given (goal.at.returns c).Start) (record { usable = says_usable limits _ _ c.check_graph.ensures.checked c.in_ok-check_graph.was; in_force = c.in_ok-check_graph.ensures.in_force })
