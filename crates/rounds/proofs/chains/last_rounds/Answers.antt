use borrow.Author.Rules.{rules}
use native.Mathlib.Omega.{arith}
use Rattle.below.proofs.Sum.{sum-none, sum-turn}
use Rattle.rounds.proofs.chains.last_rounds.Goals as goal

pub loop-d-init : goal.loop-d-init
loop-d-init c = (search rules, sum-none _ 0, search rules)

pub loop-d-preserved : goal.loop-d-preserved
loop-d-preserved c = (omega arith, sum-turn _ _ _ _ c.loop-d.invariant.1 c.last_round-sum.ensures, omega (arith, c.loop-d.invariant.2, c.requires.2 _ c.loop-d-test.true, c.last_round-sum.ensures))
