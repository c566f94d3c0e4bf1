use mathlib.Core.Path.{sym, ap, ◌∙◌}
use Rattle.joining.specs.Replies.{join_meant}
use Rattle.std.proofs.lemmas.Result.{err_from_is_err_and}
use Rattle.tables.specs.Limits.{limits}
use Rattle.joining.proofs.Cases.{third_below, either_failed}
use Rattle.joining.proofs.entry.join.Goals as goal

pub returns-then-not-full_size : goal.returns-then-not-full_size
returns-then-not-full_size c = λ a b ha hb e. third_below limits a b _ (sym c.full_size.ensures ∙ c.if-not-full_size.true)

pub returns-in_err-standing : goal.returns-in_err-standing
returns-in_err-standing c = λ a b ha hb e.
    let p = err_from_is_err_and c.from_residual.result c.from_residual.ensures.1 in
    let w = either_failed limits a b _ (sym c.full_size.ensures ∙ c.if-not-full_size.false) _ e _ c.in_err-standing.was in
    record { replied = ap join_meant p.1 ∙ p.2 ∙ w.replied; left = w.left }
