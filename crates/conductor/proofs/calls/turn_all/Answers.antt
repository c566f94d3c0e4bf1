-- `conductor::calls::turn_all` meets its contract: what is told over the columns is told of the records that were spread into them, which are flipped where they lie. Assumes nothing.
use mathlib.Core.Path.{refl}
use mathlib.Core.Bool.{false}
use Rattle.std.proofs.lemmas.Result.{err_from_is_err_and}
use Rattle.tables.specs.Limits.{limits}
use Rattle.call_log.specs.CallLog.{turn_all}
use Rattle.call_log.specs.Calls.{step}
use Rattle.flat.proofs.CheckLaws.{refused_faulty}
use Rattle.records.proofs.ColumnLaws.{zero_in_columns}
use Rattle.records.proofs.Flips.{group_none}
use Rattle.records.proofs.Seen.{seen_tables}
use Rattle.conductor.proofs.CallLaws.{group_made, told_over, short_said}
use Rattle.conductor.proofs.calls.turn_all.Goals as goal

pub returns-in_err-enough : goal.returns-in_err-enough
returns-in_err-enough c =
    let p = err_from_is_err_and c.from_residual.result c.from_residual.ensures.1 in
    rw (p.1, p.2) record { answered = refused_faulty limits _ _ (short_said limits _ c.args.dependencies.now _ refl c.in_err-enough.ensures) _; dependencies_after = group_none false _ _ refl; past_full_kept = refl }

pub spread-requires : goal.spread-requires
spread-requires c = zero_in_columns limits

pub returns-in_err-turn_all : goal.returns-in_err-turn_all
returns-in_err-turn_all c =
    let p = err_from_is_err_and c.from_residual-in_err-turn_all.result c.from_residual-in_err-turn_all.ensures.1 in
    let made = group_made limits c.args.plan.now _ _ c.args.dependencies.now c.args.dependencies.now c.args.list.now _ (told_over limits (λ t. (step limits t (turn_all c.args.list.now)).reply) (seen_tables limits c.spread.ensures c.in_ok-enough.ensures c.sides_in.ensures c.args.plan.now _ _) c.in_err-turn_all.ensures.replied) (group_none false _ _ refl) in
    rw (p.1, p.2) record { answered = made.0; dependencies_after = made.1; past_full_kept = made.2 }

pub returns : goal.returns
returns c =
    let made = group_made limits c.args.plan.now _ _ c.args.dependencies.now _ c.args.list.now _ (told_over limits (λ t. (step limits t (turn_all c.args.list.now)).reply) (seen_tables limits c.spread.ensures c.in_ok-enough.ensures c.sides_in.ensures c.args.plan.now _ _) c.in_ok-turn_all.ensures.replied) c.flip_all.ensures in
    record { answered = made.0; dependencies_after = made.1; past_full_kept = made.2 }
