use mathlib.Core.Path.{sym, ap, ◌∙◌}
use Rattle.reading.specs.Replies.{reading_meant}
use Rattle.joining.specs.Replies.{join_meant}
use native.Mathlib.Omega.{arith}
use Rattle.std.proofs.lemmas.Result.{err_from_is_err_and}
use Rattle.tables.specs.Limits.{limits}
use Rattle.joining.proofs.SoundWrites.{both_copyable}
use Rattle.joining.proofs.Cases.{pairs_apart, both_joined}
use Rattle.joining.proofs.entry.join_ready.Goals as goal

pub returns-then-not-same_pairs : goal.returns-then-not-same_pairs
returns-then-not-same_pairs c = λ a b ha hb e. pairs_apart limits a b _ c.requires.at_full_size e ha hb (sym c.same_pairs.ensures ∙ c.if-not-same_pairs.true)

pub join_text-requires-clause-copyable : goal.join_text-requires-clause-copyable
join_text-requires-clause-copyable c =
    let (x, y) = both_copyable limits (omega arith) c.requires.plan_ready.0 c.requires.plan_ready.1 _ c.later_form.ensures in
    (record { counted = c.requires.plan_ready.0.has_drone_count; routes = x }, record { counted = c.requires.plan_ready.1.has_drone_count; routes = y }, c.requires.plan_ready.0.pairs_ready)

pub returns-in_err-join_text : goal.returns-in_err-join_text
returns-in_err-join_text c = λ a b ha hb e.
    let p = err_from_is_err_and c.from_residual.result c.from_residual.ensures.1 in
    both_joined limits a b _ c.requires.at_full_size e ha hb (sym c.same_pairs.ensures ∙ c.if-not-same_pairs.false) _ c.later_form.ensures (ap join_meant p.1 ∙ p.2 ∙ sym (ap reading_meant c.in_err-join_text.was)) c.join_text.ensures

pub returns : goal.returns
returns c = λ a b ha hb e. both_joined limits a b _ c.requires.at_full_size e ha hb (sym c.same_pairs.ensures ∙ c.if-not-same_pairs.false) _ c.later_form.ensures (sym (ap reading_meant c.in_ok-join_text.was)) c.join_text.ensures
