-- `conductor::calls::turn` meets its contract: what is told over the columns is told of the records that were spread into them, which are flipped where they lie. Assumes nothing.
use mathlib.Core.Path.{refl}
use Rattle.std.proofs.lemmas.Result.{err_from_is_err_and}
use Rattle.tables.specs.Limits.{limits}
use Rattle.call_log.specs.CallLog.{turn}
use Rattle.call_log.specs.Calls.{step}
use Rattle.flat.proofs.CheckLaws.{refused_faulty}
use Rattle.records.proofs.ColumnLaws.{zero_in_columns}
use Rattle.records.proofs.Seen.{seen_tables}
use Rattle.conductor.proofs.CallLaws.{turn-made, told_over, short_said}
use Rattle.conductor.proofs.calls.turn.Goals as goal

pub returns-in_err-enough : goal.returns-in_err-enough
returns-in_err-enough c =
    let p = err_from_is_err_and c.from_residual.result c.from_residual.ensures.1 in
    rw (p.1, p.2) record { answered = refused_faulty limits _ _ (short_said limits _ c.args.dependencies.now _ refl c.in_err-enough.ensures) _; dependencies_after = refl; past_full_kept = refl }

pub spread-requires : goal.spread-requires
spread-requires c = zero_in_columns limits

pub returns-in_err-turn : goal.returns-in_err-turn
returns-in_err-turn c =
    let p = err_from_is_err_and c.from_residual-in_err-turn.result c.from_residual-in_err-turn.ensures.1 in
    let made = turn-made limits c.args.plan.now _ _ c.args.dependencies.now c.args.dependencies.now c.args.dependency _ (told_over limits (λ t. (step limits t (turn c.args.dependency)).reply) (seen_tables limits c.spread.ensures c.in_ok-enough.ensures c.sides_in.ensures c.args.plan.now _ _) c.in_err-turn.ensures.replied) (refl) in
    rw (p.1, p.2) record { answered = made.0; dependencies_after = made.1; past_full_kept = made.2 }

pub returns : goal.returns
returns c =
    let made = turn-made limits c.args.plan.now _ _ c.args.dependencies.now _ c.args.dependency _ (told_over limits (λ t. (step limits t (turn c.args.dependency)).reply) (seen_tables limits c.spread.ensures c.in_ok-enough.ensures c.sides_in.ensures c.args.plan.now _ _) c.in_ok-turn.ensures.replied) c.flip_at.ensures in
    record { answered = made.0; dependencies_after = made.1; past_full_kept = made.2 }
