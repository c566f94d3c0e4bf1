-- `dispatch::requests::run` meets its contract: the goals that the check leaves. Assumes nothing.
use mathlib.Core.Path.{refl}
use Rattle.std.proofs.lemmas.Result.{err_from_is_err_and}
use Rattle.tables.specs.Limits.{limits}
use Rattle.dispatch.proofs.RunLaws.{zero_tables_lem, run_refused, run_taken, not_taken}
use Rattle.dispatch.proofs.requests.run.Goals as goal

pub returns-in_err-read_plan : goal.returns-in_err-read_plan
returns-in_err-read_plan c = let p = err_from_is_err_and c.from_residual.result c.from_residual.ensures.1 in
    rw (p.1, p.2) (run_refused limits _ _ _ _ (zero_tables_lem limits _ c.zero_record-dependencies.ensures) _ _ c.in_err-read_plan.ensures.answered_as (not_taken _))

pub returns : goal.returns
returns c = run_taken limits _ _ _ _ (zero_tables_lem limits _ c.zero_record-dependencies.ensures) _ _ c.in_ok-read_plan.ensures.answered_as refl _ _ c.make_requests.ensures.0
