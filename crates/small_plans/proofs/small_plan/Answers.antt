-- The routes of the plan, from their tables; then one law for each return.
use Rattle.small_plans.proofs.Listed.{firsts, seconds, first_right, second_right}
use Rattle.small_plans.proofs.Writing.{no_such, gives_short, gives_length}
use Rattle.small_plans.proofs.small_plan.Goals as goal

pub returns-then-number-ge-PLANS : goal.returns-then-number-ge-PLANS
returns-then-number-ge-PLANS c = no_such _ _ c.if-number-ge-PLANS.true

pub put_plan-length-requires : goal.put_plan-length-requires
unfolding firsts seconds
put_plan-length-requires c = let k = c.if-number-ge-PLANS.false in ((first_right _ _ k c.from-first.ensures).0, (second_right _ _ k c.from-second.ensures).0)

pub put_plan-requires : goal.put_plan-requires
unfolding firsts seconds
put_plan-requires c = let k = c.if-number-ge-PLANS.false in ((first_right _ _ k c.from-first.ensures).0, (second_right _ _ k c.from-second.ensures).0)

pub returns-then-buf-length : goal.returns-then-buf-length
unfolding firsts seconds
returns-then-buf-length c = let k = c.if-number-ge-PLANS.false in gives_short _ _ _ k (first_right _ _ k c.from-first.ensures).1 (second_right _ _ k c.from-second.ensures).1 c.args.buf.now c.put_plan-length.ensures c.if-buf-length.true

pub returns : goal.returns
unfolding firsts seconds
returns c = let k = c.if-number-ge-PLANS.false in gives_length _ _ _ k (first_right _ _ k c.from-first.ensures).1 (second_right _ _ k c.from-second.ensures).1 c.args.buf.now c.put_plan-length.ensures c.if-buf-length.false c.put_plan.ensures
