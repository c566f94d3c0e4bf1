use native.Mathlib.Omega.{arith}
use Rattle.meetings.proofs.Steps.{before_key}
use Rattle.meetings.proofs.entries.is_before.Goals as goal

pub returns : goal.returns
returns c = rw (c.from.ensures, c.from-2.ensures, c.from-3.ensures, c.from-4.ensures) (before_key _ _ _ _ (omega arith) (omega arith))
