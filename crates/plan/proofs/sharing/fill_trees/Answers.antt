-- The trees hold the stops before w, which have their first stops.
use Rattle.plan.proofs.SharingLaws.{first_within}
use native.Mathlib.Omega.{arith}
use Rattle.below.specs.Below.{at}
use Rattle.below.proofs.Fill.{fill_none, fill_store}
use Rattle.plan.proofs.sharing.fill_trees.Goals as goal

pub loop-w-init : goal.loop-w-init
loop-w-init c = (c.requires.3, fill_none _ _)

pub overflow_cast-first : goal.overflow_cast-first
overflow_cast-first c = omega (arith, c.enter.ensures.0, first_within (at c.args.locations.now) c.loop-w.w)

pub loop-w-preserved : goal.loop-w-preserved
loop-w-preserved c = (c.enter.ensures.1, fill_store _ _ _ _ c.loop-w.invariant.1 _ c.enter.ensures.0)
