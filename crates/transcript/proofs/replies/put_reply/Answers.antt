-- The number, and after 23 the colon and the dependency.
use native.Mathlib.Omega.{arith}
use Rattle.lines.proofs.NumberCases.{digits-length}
use Rattle.lines.proofs.WriteLaws.{put_put}
use Rattle.transcript.proofs.ReplyCases.{reply_plain, reply_waits}
use Rattle.transcript.proofs.replies.put_reply.Goals as goal

pub returns-then-answer-ne23 : goal.returns-then-answer-ne23
returns-then-answer-ne23 c = rw (reply_plain _ _ c.if-answer-ne23.true, ← c.from.ensures) c.put_number-a.ensures

pub put_byte-b-requires : goal.put_byte-b-requires
put_byte-b-requires c = omega (arith, c.put_number-a.ensures.next_is, digits-length 7 c.from.result, c.requires)

pub put_number-requires : goal.put_number-requires
put_number-requires c = omega (arith, c.put_byte-b.ensures.next_is, c.put_number-a.ensures.next_is, digits-length 7 c.from.result, c.requires)

pub returns : goal.returns
returns c = rw (reply_waits _ _ c.if-answer-ne23.false, ← c.from.ensures) (put_put c.put_number-a.ensures (put_put c.put_byte-b.ensures c.put_number.ensures))
