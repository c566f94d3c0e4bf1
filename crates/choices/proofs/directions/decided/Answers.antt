use mathlib.Core.Path.{sym}
use native.Mathlib.Omega.{arith}
use Rattle.choices.proofs.Directed.{choice_undecided, said_turned, said_left}
use Rattle.choices.proofs.directions.decided.Goals as goal

pub returns-then-depth-i : goal.returns-then-depth-i
returns-then-depth-i c = sym (choice_undecided _ _ _ c.if-depth-i.true)

pub returns-then-dirs-i : goal.returns-then-dirs-i
returns-then-dirs-i c = said_turned _ _ _ (omega arith) c.if-dirs-i.true

pub returns : goal.returns
returns c = said_left _ _ _ (omega arith) c.if-dirs-i.false
