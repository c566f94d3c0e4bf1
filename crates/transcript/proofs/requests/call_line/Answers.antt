-- One law for each key, after the ones before it.
use native.Mathlib.Omega.{arith}
use mathlib.Core.Path.{refl, sym, ◌∙◌}
use Rattle.lines.proofs.ByteLaws.{is_at_in}
use Rattle.transcript.proofs.CallCases.{call-grant, call-arrive, call-turn, call-cost, call_none}
use Rattle.transcript.proofs.requests.call_line.Goals as goal

pub overflow_add-at : goal.overflow_add-at
overflow_add-at c = let h = is_at_in _ c.args.at _ _ (sym c.starts.ensures ∙ c.if-starts.true) refl in omega arith

pub returns-then-starts : goal.returns-then-starts
returns-then-starts c = call-grant _ _ _ (sym c.starts.ensures ∙ c.if-starts.true) c.numbered_call.ensures

pub overflow_add-at-then-starts-2 : goal.overflow_add-at-then-starts-2
overflow_add-at-then-starts-2 c = let h = is_at_in _ c.args.at _ _ (sym c.starts-2.ensures ∙ c.if-starts-2.true) refl in omega arith

pub returns-then-starts-2 : goal.returns-then-starts-2
returns-then-starts-2 c = call-arrive _ _ _ (sym c.starts.ensures ∙ c.if-starts.false) (sym c.starts-2.ensures ∙ c.if-starts-2.true) c.numbered_call-then-starts-2.ensures

pub overflow_add-at-then-starts-3 : goal.overflow_add-at-then-starts-3
overflow_add-at-then-starts-3 c = let h = is_at_in _ c.args.at _ _ (sym c.starts-3.ensures ∙ c.if-starts-3.true) refl in omega arith

pub returns-then-starts-3 : goal.returns-then-starts-3
returns-then-starts-3 c = call-turn _ _ _ (sym c.starts.ensures ∙ c.if-starts.false) (sym c.starts-2.ensures ∙ c.if-starts-2.false) (sym c.starts-3.ensures ∙ c.if-starts-3.true) c.numbered_call-then-starts-3.ensures

pub overflow_add-at-then-starts-4 : goal.overflow_add-at-then-starts-4
overflow_add-at-then-starts-4 c = let h = is_at_in _ c.args.at _ _ (sym c.starts-4.ensures ∙ c.if-starts-4.true) refl in omega arith

pub returns-then-starts-4 : goal.returns-then-starts-4
returns-then-starts-4 c = call-cost _ _ _ (sym c.starts.ensures ∙ c.if-starts.false) (sym c.starts-2.ensures ∙ c.if-starts-2.false) (sym c.starts-3.ensures ∙ c.if-starts-3.false) (sym c.starts-4.ensures ∙ c.if-starts-4.true) c.numbered_call-then-starts-4.ensures

pub returns : goal.returns
returns c = call_none _ _ (sym c.starts.ensures ∙ c.if-starts.false) (sym c.starts-2.ensures ∙ c.if-starts-2.false) (sym c.starts-3.ensures ∙ c.if-starts-3.false) (sym c.starts-4.ensures ∙ c.if-starts-4.false)
