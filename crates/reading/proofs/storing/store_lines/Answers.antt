-- A law for each return. Assumes nothing.
use Rattle.tables.specs.Limits.{limits}
use Rattle.std.proofs.lemmas.Result.{err_from_is_err_and}
use Rattle.reading.proofs.LinesCases.{lines_refused, lines_stored}
use Rattle.reading.proofs.storing.store_lines.Goals as goal

pub returns-in_err-answer : goal.returns-in_err-answer
returns-in_err-answer c = λ text dc fm ns cs ls ts gs form names visited drone_flags w.
    let p = err_from_is_err_and c.from_residual.result c.from_residual.ensures.1 in
    rw p.1 (lines_refused limits text _ w _ _ c.in_err-answer.was p.2)

pub returns : goal.returns
returns c = λ text dc fm ns cs ls ts gs form names visited drone_flags w. lines_stored limits text _ w _ c.in_ok-answer.was _ _ (c.store_plan.ensures form names visited drone_flags)
