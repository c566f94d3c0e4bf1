use native.Mathlib.Omega.{arith}
use Rattle.sound.proofs.Asking.{failing_more, failing_end}
use Rattle.sound.proofs.unused.is_zero.Goals as goal

pub loop-i-preserved : goal.loop-i-preserved
loop-i-preserved g c = failing_more _ _ _ _ _ _ _ _ _ _ c.loop-i-test.true c.requires.0 c.loop-i.invariant c.index-table-i.is c.ne.ensures c.from-total.ensures

pub returns : goal.returns
returns g c = failing_end _ _ _ _ _ _ _ (omega arith) c.loop-i.invariant
