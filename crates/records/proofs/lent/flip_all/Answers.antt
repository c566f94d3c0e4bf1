-- `records::lent::flip_all` meets its contract: the records with the rest of the list flipped are those with the whole list flipped. Assumes nothing.
use mathlib.Core.Path.{refl}
use native.Mathlib.Omega.{arith}
use Rattle.records.proofs.Flips.{group_more, group_end}
use Rattle.records.proofs.lent.flip_all.Goals as goal

pub loop-i-preserved : goal.loop-i-preserved
loop-i-preserved c = let l = c.loop-i in group_more _ _ l.i-index _ l.invariant _ (omega arith) (rw c.from.ensures at c.flip_at.ensures)

pub returns : goal.returns
returns c = let l = c.loop-i in group_end _ _ l.i-index _ l.invariant _ refl (omega arith)
