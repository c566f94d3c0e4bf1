-- The number, then the byte.
use native.Mathlib.Omega.{arith}
use Rattle.lines.proofs.NumberCases.{digits-length}
use Rattle.lines.proofs.WriteLaws.{put_put}
use Rattle.lines.proofs.numbers.put_field.Goals as goal

pub put_byte-requires : goal.put_byte-requires
put_byte-requires c = omega (arith, c.put_number-end.ensures.next_is, digits-length 7 c.args.value, c.requires)

pub returns : goal.returns
returns c = put_put c.put_number-end.ensures c.put_byte.ensures
