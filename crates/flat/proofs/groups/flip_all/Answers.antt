-- The flag bytes of the dependencies before this one are flipped. Assumes nothing.
use native.Mathlib.Omega.{arith}
use native.Mathlib.Numerals.{add-one}
use Rattle.flat.proofs.GroupLaws.{flip-none, flip-more, flip_end}
use Rattle.flat.proofs.groups.flip_all.Goals as goal

pub loop-dependency-init : goal.loop-dependency-init
loop-dependency-init c = flip-none _ _

pub loop-dependency-preserved : goal.loop-dependency-preserved
loop-dependency-preserved c = rw c.from.ensures (flip-more _ _ _ _ _ _ (add-one _) c.loop-dependency.invariant (rw c.from.ensures at c.flipped.ensures))

pub returns : goal.returns
returns c = flip_end _ _ _ _ (omega arith) c.loop-dependency-test.false c.loop-dependency.invariant
