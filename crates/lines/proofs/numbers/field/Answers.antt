-- The cases of the number that was read, and of the byte after it.
use native.Mathlib.Omega.{arith}
use mathlib.Core.Path.{sym, ◌∙◌}
use Rattle.lines.proofs.ByteLaws.{byte_at_in}
use Rattle.lines.proofs.NumberCases.{field-closed, field-none, field_open}
use Rattle.lines.proofs.numbers.field.Goals as goal

pub returns-in_err-value : goal.returns-in_err-value
returns-in_err-value c = c.from_residual.ensures ∙ sym (field-none _ _ _ _ c.read_number.ensures c.in_err-value.was)

pub returns-then-byte_at-from : goal.returns-then-byte_at-from
returns-then-byte_at-from c = sym (field_open _ _ _ _ c.read_number.ensures _ _ c.in_ok-value.was (λ q. c.if-byte_at-from.true (c.byte_at.ensures ∙ q ∙ sym c.from.ensures)))

pub overflow_add-result : goal.overflow_add-result
overflow_add-result c = let h = byte_at_in _ _ _ c.byte_at.ensures (omega arith) in omega arith

pub returns : goal.returns
returns c = sym (field-closed _ _ _ _ c.read_number.ensures _ _ c.in_ok-value.was (sym c.byte_at.ensures ∙ c.if-byte_at-from.false ∙ c.from.ensures))
