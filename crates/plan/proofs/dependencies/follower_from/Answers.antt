-- No stop there before w is later than v, of those not before `from`.
use native.Mathlib.Omega.{arith}
use mathlib.Core.Path.{sym, ◌∙◌}
use Rattle.plan.proofs.NearLists.{sought_start, sought_hit, sought_more}
use Rattle.plan.proofs.StretchLaws.{after-past}
use Rattle.plan.proofs.ColumnsLaws.{later_with}
use Rattle.plan.proofs.dependencies.follower_from.Goals as goal

pub loop-w-init : goal.loop-w-init
loop-w-init c = λ g B. sought_start _ _ _ _ _ B

pub returns-then-is_later : goal.returns-then-is_later
returns-then-is_later c = λ g B. sought_hit _ _ _ _ _ (c.loop-w.invariant g B) c.loop-w-test.true (sym c.is_later.ensures ∙ c.if-is_later.true)

pub loop-w-smaller : goal.loop-w-smaller
loop-w-smaller c = omega (arith, after-past _ _ _ _ _ _ c.requires.1.groups c.requires.1.stretches c.loop-w.w c.after_stop-w.result c.loop-w-test.true _ c.after_stop-w.ensures, c.loop-w-test.true)

pub loop-w-preserved : goal.loop-w-preserved
loop-w-preserved c = λ g B. sought_more _ _ _ _ _ (c.loop-w.invariant g B) _ _ _ _ c.requires.1 _ _ c.loop-w-test.true (sym c.is_later.ensures ∙ c.if-is_later.false) (later_with _ _ _ _ _) c.after_stop-w.ensures
