-- By the number of digits left: the digits of the number without its last, and then the last.
use native.Mathlib.Omega.{arith}
use Rattle.lines.proofs.WriteLaws.{put_put, put_none}
use Rattle.lines.proofs.NumberCases.{digits-none, digits_one, digits_more, digits-length}
use Prim.Native.Nat.{◌-◌, ◌/◌}
use Rattle.lines.proofs.numbers.+put_digits.Goals as goal

pub returns-then-left-eq0 : goal.returns-then-left-eq0
returns-then-left-eq0 t c = rw (digits-none c.args.left c.args.value c.if-left-eq0.true) (put_none _ _)

pub returns-then-value-lt10 : goal.returns-then-value-lt10
returns-then-value-lt10 t c =
    let a = c.args in
    rw (digits_one a.left a.value (omega arith) (omega arith)) c.put_byte.ensures

pub put_byte-requires-2 : goal.put_byte-requires-2
put_byte-requires-2 t c =
    let a = c.args in
    omega (arith, c.put_digits-next.ensures.next_is, digits-length (a.left - 1) (a.value / 10))

pub returns : goal.returns
returns t c =
    let a = c.args in
    rw (digits_more a.left a.value (omega arith) (omega arith)) (put_put c.put_digits-next.ensures c.put_byte-2.ensures)
