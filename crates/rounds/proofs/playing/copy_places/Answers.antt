use native.Mathlib.Omega.{arith}
use Rattle.rounds.proofs.Copied.{fill_taken}
use Rattle.rounds.proofs.playing.copy_places.Goals as goal

pub returns : goal.returns
returns c = rw c.copy_from_slice.ensures.after (fill_taken _ _ _ (omega arith) (omega arith))
