-- Past 41 and 40 the tables can be used; no dependency has a number that a list cannot hold, and the preview of one is that of a list of one. Assumes nothing.
use mathlib.Core.Path.{sym, ap, ◌∙◌}
use native.Mathlib.Omega.{arith}
use Rattle.std.proofs.lemmas.Result.{err_from_is_err_and}
use Rattle.tables.specs.Limits.{limits}
use Rattle.call_log.specs.CallLog.{turn}
use Rattle.call_log.specs.Preview.{preview}
use Rattle.call_log.proofs.Preview.{preview_refusal, preview_is_group}
use Rattle.flat.proofs.CheckLaws.{says_usable, says_fault, refused_faulty}
use Rattle.flat.proofs.Facts.{facts}
use Rattle.flat.proofs.TurnAnswers.{turns_30}
use Rattle.flat.proofs.calls.preview.Goals as goal

pub returns-in_err-check_graph : goal.returns-in_err-check_graph
returns-in_err-check_graph c =
    let p = err_from_is_err_and c.from_residual.result c.from_residual.ensures.1 in
    rw (p.1, p.2) (preview_refusal limits _ c.args.dependency _ _ (refused_faulty limits _ _ (says_fault limits _ _ c.check_graph.ensures.checked c.in_err-check_graph.was) (turn c.args.dependency)))

pub returns-in_default : goal.returns-in_default
returns-in_default c =
    let u = says_usable limits _ _ c.check_graph.ensures.checked c.in_ok-check_graph.was in
    preview_refusal limits _ _ _ _ (turns_30 limits _ u _ (omega (arith, (facts limits _ u).dependencies_few, c.in_default.ensures)))

pub preview_sound-requires-clause-tables : goal.preview_sound-requires-clause-tables
preview_sound-requires-clause-tables c = record { usable = says_usable limits _ _ c.check_graph.ensures.checked c.in_ok-check_graph.was; in_force = c.in_ok-check_graph.ensures.in_force }

pub returns : goal.returns
returns c = c.preview_sound.ensures ∙ sym (preview_is_group limits _ _) ∙ ap (preview limits _) c.in-Ok.ensures.1
