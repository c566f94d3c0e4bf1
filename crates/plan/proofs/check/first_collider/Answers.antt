-- No stop before v has a partner.
use Rattle.below.specs.Below.{pick}
use Rattle.below.proofs.Search.{first_none, first_more}
use Rattle.plan.proofs.CheckLaws.{no_partner, collision_found, no_collision, clash-before}
use Rattle.plan.proofs.NearLists.{ahead_from, ahead_placed}
use Rattle.plan.proofs.check.first_collider.Goals as goal

pub loop-v-init : goal.loop-v-init
loop-v-init c = (λ numbers. first_none _, ahead_from _ _ _ c.args.rising _ c.requires.3)

pub partner_of-w-requires : goal.partner_of-w-requires
partner_of-w-requires c = (c.requires.0, c.requires.1, c.loop-v-test.true, ahead_placed _ _ _ (pick c.args.rising c.loop-v.v 0) _ _ _ (clash-before _ _ _ _ c.args.rising c.requires.2 c.loop-v-test.true) c.loop-v.invariant.1)

pub returns-then-w-walks : goal.returns-then-w-walks
returns-then-w-walks c = λ numbers. collision_found _ _ _ (c.partner_of-w.ensures numbers) c.if-w-walks.true c.loop-v-test.true (c.loop-v.invariant.0 numbers)

pub loop-v-preserved : goal.loop-v-preserved
loop-v-preserved c = (λ numbers. first_more _ _ (c.loop-v.invariant.0 numbers) (no_partner _ _ _ (c.partner_of-w.ensures numbers) c.if-w-walks.false), c.pass.ensures)

pub returns : goal.returns
returns c = λ numbers. no_collision _ _ c.loop-v.auto.v-end c.loop-v-test.false (c.loop-v.invariant.0 numbers)
