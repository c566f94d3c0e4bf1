-- Past 41 and 40 the tables can be used, and past 36 the list may be turned. Assumes nothing.
use mathlib.Core.Path.{sym, ◌∙◌}
use Rattle.std.proofs.lemmas.Result.{err_from_is_err_and}
use Rattle.tables.specs.Limits.{limits}
use Rattle.flat.proofs.CheckLaws.{says_usable, says_fault, refused_faulty}
use Rattle.flat.proofs.TurnAnswers.{as_preview_all, as_refused, lists_36}
use Rattle.flat.proofs.calls.preview_all.Goals as goal

pub returns-in_err-check_graph : goal.returns-in_err-check_graph
returns-in_err-check_graph c =
    let p = err_from_is_err_and c.from_residual.result c.from_residual.ensures.1 in
    rw (p.1, p.2) (as_refused limits _ _ _ (refused_faulty limits _ _ (says_fault limits _ _ c.check_graph.ensures.checked c.in_err-check_graph.was) _))

pub returns-then-not-is_group : goal.returns-then-not-is_group
returns-then-not-is_group c = as_refused limits _ _ _ (lists_36 limits _ (says_usable limits _ _ c.check_graph.ensures.checked c.in_ok-check_graph.was) _ (sym c.is_group.ensures ∙ c.if-not-is_group.true))

pub preview_sound-requires : goal.preview_sound-requires
preview_sound-requires c = record { group = sym c.is_group.ensures ∙ c.if-not-is_group.false; tables = record { usable = says_usable limits _ _ c.check_graph.ensures.checked c.in_ok-check_graph.was; in_force = c.in_ok-check_graph.ensures.in_force } }

pub returns : goal.returns
returns c = sym (as_preview_all _ _ c.map_err.ensures.cases) ∙ c.preview_sound.ensures
