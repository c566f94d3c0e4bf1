use mathlib.Core.Path.{sym, ◌∙◌}
use native.Mathlib.Omega.{arith}
use Rattle.plan.proofs.StretchLaws.{skipping_on, skipping_next, skipping_end}
use Rattle.plan.proofs.sharing.fill_skips.Goals as goal
use Rattle.plan.proofs.sharing.fill_skips.Goals.{then-same_drone, else-same_drone}

pub loop-w-preserved : goal.loop-w-preserved
loop-w-preserved c = λ loc h. elim c.if-same_drone.branch [
  | then-same_drone w ↦ rw w.skip-is (skipping_on _ _ _ _ _ _ (c.loop-w.invariant loc h) (omega arith) _ _ (omega arith) (omega arith) (c.from-u.ensures ∙ h _ (omega arith)) (sym c.same_drone.ensures ∙ w.if-same_drone.true))
  | else-same_drone w ↦ rw w.skip-is (skipping_next _ _ _ _ _ _ (c.loop-w.invariant loc h) (omega arith) _ _ (omega arith) (omega arith) (c.from-u.ensures ∙ h _ (omega arith)) _ (sym c.from-u.ensures) (sym c.same_drone.ensures ∙ w.if-same_drone.false))
]

pub returns : goal.returns
returns c = λ loc h. skipping_end _ _ _ _ _ _ (c.loop-w.invariant loc h) (omega arith) (omega arith)
