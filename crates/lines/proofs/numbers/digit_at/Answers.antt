-- No byte stands there, or one that is no digit, or a digit.
use native.Mathlib.Omega.{arith}
use mathlib.Core.Path.{sym, ◌∙◌}
use Rattle.lines.specs.Bytes.{byte_at}
use Rattle.lines.specs.Numbers.{is_digit}
use Rattle.lines.proofs.NumberCases.{digit_past, digit_not, digit_is}
use Rattle.lines.proofs.numbers.digit_at.Goals as goal

pub returns-in_err-byte : goal.returns-in_err-byte
returns-in_err-byte c = let l = c.in_err-byte.ensures.lookup in c.from_residual.ensures ∙ digit_past _ _ (omega arith)

pub returns-then-not-is_ascii_digit : goal.returns-then-not-is_ascii_digit
unfolding byte_at is_digit
returns-then-not-is_ascii_digit c = digit_not c.args.text.now c.args.at _ (sym (c.in_ok-byte.ensures.lookup.3.1 256)) (sym c.is_ascii_digit.ensures.value ∙ c.if-not-is_ascii_digit.true)

pub returns : goal.returns
unfolding byte_at is_digit
returns c = rw c.from.ensures (digit_is c.args.text.now c.args.at _ (sym (c.in_ok-byte.ensures.lookup.3.1 256)) (sym c.is_ascii_digit.ensures.value ∙ c.if-not-is_ascii_digit.false))
