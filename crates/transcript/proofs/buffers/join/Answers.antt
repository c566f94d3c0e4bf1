-- What is put second goes on where the first ended, and both have room by their types.
use native.Mathlib.Omega.{arith}
use lib.ListN.{length-take}
use Rattle.transcript.proofs.BufferLaws.{joined}
use Rattle.transcript.proofs.buffers.join.Goals as goal

pub put_first-requires : goal.put_first-requires
put_first-requires c = omega (arith, c.put_first-next.ensures.next_is, length-take c.args.count c.args.first.now)

pub returns : goal.returns
returns c = joined _ _ _ _ _ _ _ _ _ (omega arith) (omega arith) (omega arith) c.put_first-next.ensures c.put_first.ensures
