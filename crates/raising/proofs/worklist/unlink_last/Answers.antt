use mathlib.Core.Path.{refl}
use native.Mathlib.Omega.{arith}
use Rattle.raising.proofs.LinkLaws.{linked_less}
use Rattle.raising.proofs.worklist.unlink_last.Goals as goal

pub returns : goal.returns
returns c = linked_less _ _ _ _ _ _ _ _ c.requires.2 c.from-v.ensures (omega (arith, c.from-v.ensures, c.requires.1)) refl
