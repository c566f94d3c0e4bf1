-- `conductor::calls::preview_all` meets its contract: too few records are 41, and else what is told over the columns is told of the records that were spread into them. Assumes nothing.
use mathlib.Core.Path.{refl}
use Rattle.std.proofs.lemmas.Result.{err_from_is_err_and}
use Rattle.tables.specs.Limits.{limits}
use Rattle.call_log.specs.CallLog.{turn_all}
use Rattle.call_log.specs.Preview.{preview_all}
use Rattle.call_log.proofs.Preview.{preview_all_refusal}
use Rattle.flat.proofs.CheckLaws.{refused_faulty}
use Rattle.records.proofs.ColumnLaws.{zero_in_columns}
use Rattle.records.proofs.Seen.{seen_tables}
use Rattle.conductor.proofs.CallLaws.{told_over, short_said}
use Rattle.conductor.proofs.calls.preview_all.Goals as goal

pub returns-in_err-enough : goal.returns-in_err-enough
returns-in_err-enough c =
    let p = err_from_is_err_and c.from_residual.result c.from_residual.ensures.1 in
    rw (p.1, p.2) (preview_all_refusal limits _ c.args.list.now _ _ (refused_faulty limits _ _ (short_said limits _ c.args.dependencies.now _ refl c.in_err-enough.ensures) (turn_all c.args.list.now)))

pub spread-requires : goal.spread-requires
spread-requires c = zero_in_columns limits

pub returns : goal.returns
returns c = told_over limits (λ t. preview_all limits t c.args.list.now) (seen_tables limits c.spread.ensures c.in_ok-enough.ensures c.sides_in.ensures c.args.plan.now _ _) c.preview_all.ensures
