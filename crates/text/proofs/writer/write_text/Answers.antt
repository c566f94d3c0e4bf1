use native.Mathlib.Omega.{arith}
use Rattle.text.proofs.WriteWhole.{says-short, says-length}
use Rattle.text.proofs.writer.write_text.Goals as goal

pub returns-then-buf-length : goal.returns-then-buf-length
returns-then-buf-length c = says-short c.args.buf.now c.put_text-length.ensures (omega (arith, c.if-buf-length.true))

pub returns : goal.returns
returns c = says-length c.args.buf.now c.put_text-length.ensures (omega (arith, c.if-buf-length.false)) c.put_text.ensures
