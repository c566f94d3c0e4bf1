-- Three pieces, one after the other.
use native.Mathlib.Omega.{arith}
use Rattle.lines.proofs.NumberCases.{digits-length}
use Rattle.lines.proofs.WriteLaws.{put_put}
use Rattle.transcript.proofs.replies.put_plan.Goals as goal

pub put_byte-requires : goal.put_byte-requires
put_byte-requires c = omega (arith, c.put_number-b.ensures.next_is, digits-length 7 c.args.number, c.put_bytes-a.ensures.next_is, c.requires)

pub returns : goal.returns
returns c = put_put c.put_bytes-a.ensures (put_put c.put_number-b.ensures c.put_byte.ensures)
