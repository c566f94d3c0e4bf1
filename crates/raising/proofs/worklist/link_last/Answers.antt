use mathlib.Core.Path.{refl}
use native.Mathlib.Omega.{arith}
use Rattle.below.proofs.Links.{linked_more}
use Rattle.raising.proofs.worklist.link_last.Goals as goal

pub returns : goal.returns
returns c = linked_more _ _ _ _ _ _ _ _ _ c.requires.2 c.requires.0 c.from-v.ensures (omega (arith, c.from-v.ensures, c.requires.1)) refl refl
