-- The least stop of those found collides with v; whoever collides and is before it is at a location still to come.
use native.Mathlib.Omega.{arith}
use mathlib.Core.Path.{sym, subst, ◌∙◌}
use Rattle.below.specs.Below.{at}
use Rattle.plan.proofs.NearLists.{leading_start, leading_more, leading_end, begun_own, number_later}
use Rattle.plan.specs.Check.{clash}
use Rattle.plan.proofs.CheckLaws.{partner_is}
use Rattle.near.proofs.NearLaws.{count_within}
use Rattle.plan.specs.Sharing.{other_end, MayBegin}
use Rattle.plan.proofs.check.partner_of.Goals as goal

pub loop-k-init : goal.loop-k-init
loop-k-init c = leading_start _ _ _ _ _ _ _ (λ z. c.from-k.ensures ∙ c.requires.1.linked.head c.args.v c.requires.2 z) (c.partner_from-m.ensures _ (begun_own _ _ _ _ _ c.requires.2 (c.from-first.ensures ∙ c.requires.1.gathered.groups.firsts _ c.requires.2)))

pub loop-k-smaller : goal.loop-k-smaller
loop-k-smaller c = omega (arith, number_later _ _ _ _ (omega (arith, c.requires.1.ended, c.loop-k-test.true)) (c.from-k-in-loop-k.ensures ∙ c.requires.1.linked.following c.loop-k.k (omega (arith, c.requires.1.ended, c.loop-k-test.true))), c.loop-k-test.true)

pub loop-k-preserved : goal.loop-k-preserved
loop-k-preserved c = leading_more _ _ _ _ _ _ _ _ _ _ c.loop-k.invariant (omega (arith, c.requires.1.ended, c.loop-k-test.true)) (c.partner_from-x.ensures _ (subst (MayBegin (at c.args.walks.now.stops.locations.now) c.args.walks.now.stops.count (at c.args.walks.now.pairs.now (other_end c.loop-k.k)) (clash (at c.args.walks.now.stops.owners.now) (at c.args.walks.now.stops.times.now) c.args.walks.now.stops.count c.args.v)) (sym c.from-place.ensures) (c.requires.3.begun c.loop-k.k (omega (arith, c.requires.1.ended, c.loop-k-test.true)) (c.loop-k.invariant.here (omega (arith, c.requires.1.ended, c.loop-k-test.true)))))) (c.from-k-in-loop-k.ensures ∙ c.requires.1.linked.following c.loop-k.k (omega (arith, c.requires.1.ended, c.loop-k-test.true))) c.min-m.ensures

pub returns : goal.returns
returns c = λ numbers. partner_is _ _ _ (leading_end _ _ _ _ _ _ _ c.loop-k.invariant (omega (arith, c.requires.1.ended, c.loop-k-test.false)))

pub bounds-places-k : goal.bounds-places-k
bounds-places-k c = omega (arith, c.requires.1.ended, c.loop-k-test.true, count_within c.args.walks.now.pairs.now)
