-- One law for each return: the key, the form, the range.
use native.Mathlib.Omega.{arith}
use mathlib.Core.Path.{◌≡◌, sym, ◌∙◌}
use mathlib.Core.Bool.{true}
use Rattle.std.specs.Prelude.{Some, None}
use Rattle.std.proofs.lemmas.Result.{err_from_is_err_and}
use Rattle.lines.proofs.ByteLaws.{is_at-within}
use Rattle.lines.proofs.StopCases.{count_form, count_high, count_in_lem, count_low, count_none}
use Rattle.lines.specs.Bytes.{is_at}
use Rattle.lines.specs.declared.refusal.Refusal.TheVariants.{Form}
use Rattle.lines.proofs.stops.count_line.Goals.{Else-not-starts}
use Rattle.lines.proofs.stops.count_line.Goals as goal

-- the key stands at the line's start, past the first test
keyed : (c : Else-not-starts) → is_at c.args.text.now c.args.at c.args.key.now ≡ true
keyed c = sym c.starts.ensures ∙ c.if-not-starts.false

pub returns-then-not-starts : goal.returns-then-not-starts
returns-then-not-starts c = sym (count_none _ _ _ _ (sym c.starts.ensures ∙ c.if-not-starts.true))

pub overflow_add-at : goal.overflow_add-at
overflow_add-at c = let a = c.args in
    let h = is_at-within a.text.now a.at a.key.now c.requires (λ i. (c.type_inv.key i).fits) (keyed (goal.at.overflow_add-at c).Else-not-starts) in
    omega arith

pub returns-in_err-count : goal.returns-in_err-count
returns-in_err-count c =
    let none : c.field.result ≡ None = grind arith in
    let form : c.in_err-count.field-0.0 ≡ Form c.args.at = grind arith in
    let p = err_from_is_err_and c.from_residual.result c.from_residual.ensures.1 in
    rw (p.1, p.2, form) (sym (count_form _ _ _ _ (keyed (goal.at.returns-in_err-count c).Else-not-starts) _ c.field.ensures none))

pub returns-then-count-eq0 : goal.returns-then-count-eq0
returns-then-count-eq0 c =
    let some : c.field.result ≡ Some c.in_ok-count.count = grind arith in
    sym (count_low _ _ _ _ (keyed (goal.at.returns-then-count-eq0 c).Else-not-starts) _ c.field.ensures _ _ some c.if-count-eq0.true)

pub returns-then-most-count : goal.returns-then-most-count
returns-then-most-count c =
    let some : c.field.result ≡ Some c.in_ok-count.count = grind arith in
    sym (count_high _ _ _ _ (keyed (goal.at.returns-then-most-count c).Else-not-starts) _ c.field.ensures _ _ some c.if-count-eq0.false c.if-most-count.true)

pub returns : goal.returns
returns c =
    let some : c.field.result ≡ Some c.in_ok-count.count = grind arith in
    sym (count_in_lem _ _ _ _ (keyed (goal.at.returns c).Else-not-starts) _ c.field.ensures _ _ some c.if-count-eq0.false c.if-most-count.false)
