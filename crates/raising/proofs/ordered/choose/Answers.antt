use mathlib.Core.Path.{sym}
use native.Mathlib.Omega.{arith}
use Rattle.raising.proofs.OrderLaws.{none_some, turn-skips, turn_takes}
use Rattle.raising.proofs.ordered.choose.Goals as goal

pub loop-d-preserved-then-n-u : goal.loop-d-preserved-then-n-u
loop-d-preserved-then-n-u c = (turn-skips c.args.low.now c.loop-d.invariant.0 c.from-u.ensures c.if-n-u.true, c.loop-d.invariant.1)

pub loop-d-preserved : goal.loop-d-preserved
loop-d-preserved c = (λ e. none_some (sym e), turn_takes c.args.low.now c.loop-d.invariant.1 (omega arith) (omega (arith, c.from-u.ensures, c.if-n-u.false)) c.with_drone.ensures)

pub returns : goal.returns
returns c = record { none_left_lem = λ e x l. c.loop-d.invariant.0 e x (omega arith); one_left = c.loop-d.invariant.1 }
