use native.Mathlib.Omega.{arith}
use native.Mathlib.Numerals.{add-one}
use Rattle.copying.proofs.Copying.{copied_more}
use Rattle.copying.proofs.copies.copy.Goals as goal

pub loop-i-preserved : goal.loop-i-preserved
loop-i-preserved g c = let l = c.loop-i in
    rw (l.invariant, add-one) (copied_more l.i c.index-from-i.result c.args.from.now c.args.into.now c.loop-i-test.true (omega (arith, c.loop-i-test.true, c.requires)) c.index-from-i.is)
