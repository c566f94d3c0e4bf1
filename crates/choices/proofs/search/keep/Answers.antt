use native.Mathlib.Omega.{arith}
use Rattle.choices.proofs.SearchLoop.{fill_taken}
use Rattle.choices.proofs.search.keep.Goals as goal

pub returns : goal.returns
returns c = rw c.copy_from_slice.ensures.after (fill_taken _ _ _ (omega arith) (omega arith))
