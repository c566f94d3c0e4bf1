-- Past 41 and 40 the tables can be used, and the answer is that of the call on such tables. Assumes nothing.
use Rattle.std.proofs.lemmas.Result.{err_from_is_err_and}
use Rattle.tables.specs.Limits.{limits}
use Rattle.flat.proofs.CheckLaws.{says_usable, says_fault, refused_faulty}
use Rattle.flat.proofs.calls.withdraw.Goals as goal

pub returns-in_err-check_tables : goal.returns-in_err-check_tables
returns-in_err-check_tables c =
    let p = err_from_is_err_and c.from_residual.result c.from_residual.ensures.1 in
    rw (p.1, p.2) (refused_faulty limits _ _ (says_fault limits _ _ c.check_tables.ensures c.in_err-check_tables.was) _)

pub withdraw_sound-requires : goal.withdraw_sound-requires
withdraw_sound-requires c = says_usable limits _ _ c.check_tables.ensures c.in_ok-check_tables.was
