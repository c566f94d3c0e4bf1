use mathlib.Core.Path.{refl}
use Rattle.cycles.proofs.NeedLaws.{read_last, read_next}
use Rattle.cycles.proofs.walk.can_move.Goals as goal

pub returns-then-from-v : goal.returns-then-from-v
returns-then-from-v c = read_last _ _ _ _ _ _ _ _ c.from-v.ensures c.from.ensures c.from-2.ensures c.if-from-v.true

pub returns : goal.returns
returns c = read_next _ _ _ _ _ _ _ _ c.from-v.ensures c.from.ensures c.from-2.ensures _ c.if-from-v.false refl
