-- No stop there before w clashes with v.
use native.Mathlib.Omega.{arith}
use mathlib.Core.Path.{sym, ◌∙◌}
use Rattle.plan.proofs.NearLists.{sought_start, sought_hit, sought_more}
use Rattle.plan.proofs.StretchLaws.{after-past}
use Rattle.plan.proofs.CheckLaws.{clash-lower}
use Rattle.plan.proofs.check.partner_from.Goals as goal

pub loop-w-init : goal.loop-w-init
loop-w-init c = λ g B. sought_start _ _ _ _ _ B

pub returns-then-clash_at : goal.returns-then-clash_at
returns-then-clash_at c = λ g B. sought_hit _ _ _ _ _ (c.loop-w.invariant g B) c.loop-w-test.true (sym c.clash_at.ensures ∙ c.if-clash_at.true)

pub loop-w-smaller : goal.loop-w-smaller
loop-w-smaller c = omega (arith, after-past _ _ _ _ _ _ c.requires.1.groups c.requires.1.stretches c.loop-w.w c.after_stop_in-w.result c.loop-w-test.true _ c.after_stop_in-w.ensures, c.loop-w-test.true)

pub loop-w-preserved : goal.loop-w-preserved
loop-w-preserved c = λ g B. sought_more _ _ _ _ _ (c.loop-w.invariant g B) _ _ _ _ c.requires.1 _ _ c.loop-w-test.true (sym c.clash_at.ensures ∙ c.if-clash_at.false) (clash-lower _ _ _ _ _) c.after_stop_in-w.ensures
