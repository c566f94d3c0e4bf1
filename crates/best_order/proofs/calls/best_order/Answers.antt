-- Past 41 and 40 the tables can be used, and the answer is that of the search on such tables. Assumes nothing.
use Rattle.std.proofs.lemmas.Result.{err_from_is_err_and}
use Rattle.tables.specs.Limits.{limits}
use Rattle.flat.proofs.CheckLaws.{says_usable, says_fault}
use Rattle.best_order.proofs.BestAnswers.{best_41_list, best_faulty}
use Rattle.best_order.proofs.calls.best_order.Goals as goal

pub returns-then-list-lt-FULL : goal.returns-then-list-lt-FULL
returns-then-list-lt-FULL c = best_41_list limits _ _ _ c.if-list-lt-FULL.true

pub returns-in_err-check_graph : goal.returns-in_err-check_graph
returns-in_err-check_graph c =
    let p = err_from_is_err_and c.from_residual.result c.from_residual.ensures.1 in
    rw (p.1, p.2) (best_faulty limits _ _ _ c.if-list-lt-FULL.false _ (says_fault limits _ _ c.check_graph.ensures.checked c.in_err-check_graph.was))

pub best_sound-requires : goal.best_sound-requires
best_sound-requires c = record { in_force = record { usable = says_usable limits _ _ c.check_graph.ensures.checked c.in_ok-check_graph.was; in_force = c.in_ok-check_graph.ensures.in_force }; room = c.if-list-lt-FULL.false }
