use native.Mathlib.Omega.{arith}
use Rattle.lines.proofs.WriteLaws.{put_put}
use Rattle.lines.proofs.NumberCases.{digits-length}
use Rattle.text.proofs.writer.put_count.Goals as goal

pub put_byte-requires : goal.put_byte-requires
put_byte-requires c = omega (arith, c.put_number-feed.ensures.next_is, digits-length 7 c.args.value, c.put_bytes-number.ensures.next_is, c.requires)

pub returns : goal.returns
returns c = put_put c.put_bytes-number.ensures (put_put c.put_number-feed.ensures c.put_byte.ensures)
