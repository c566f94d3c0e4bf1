use Rattle.sound.proofs.Asking.{fixed_is}
use Rattle.sound.proofs.records.is_fixed.Goals as goal

pub returns : goal.returns
returns c = rw c.from-d.ensures (fixed_is _ _ _ _ _)
