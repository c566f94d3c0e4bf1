use mathlib.Core.Path.{refl}
use native.Mathlib.Omega.{arith}
use Rattle.below.proofs.Links.{linked_none, linked_more}
use Rattle.cycles.proofs.linking.link.Goals as goal

pub loop-k-init : goal.loop-k-init
loop-k-init c = (omega arith, linked_none _ _ _ _ _ c.requires.head_len.0 c.requires.head_len.1 c.requires.head_len.2)

pub loop-k-preserved : goal.loop-k-preserved
loop-k-preserved c = (omega arith, linked_more _ _ _ _ _ _ _ _ _ c.loop-k.invariant.1 (omega arith) c.from-v.ensures (omega (arith, c.from-v.ensures, c.requires.m_le_dependencies.1 c.loop-k.k (omega arith))) refl refl)
