-- Three pieces, one after the other.
use native.Mathlib.Omega.{arith}
use Rattle.lines.proofs.WriteLaws.{put_put}
use Rattle.transcript.proofs.ReplyCases.{key_short, value_short, answer_is}
use Rattle.transcript.proofs.replies.put_answer.Goals as goal

pub put_byte-requires : goal.put_byte-requires
put_byte-requires c = omega (arith, c.put_value-b.ensures.next_is, value_short c.args.kind c.args.answer.number c.args.answer.detail, c.put_key-a.ensures.next_is, key_short c.args.kind, c.requires)

pub returns : goal.returns
returns c = rw answer_is (put_put (put_put c.put_key-a.ensures c.put_value-b.ensures) c.put_byte.ensures)
