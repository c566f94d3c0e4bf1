-- The walks begin after v at the numbers across from those before k.
use native.Mathlib.Omega.{arith}
use mathlib.Core.Path.{◌∙◌}
use Rattle.below.specs.Below.{at}
use Rattle.near.specs.Near.{pair_count}
use Rattle.near.proofs.NearLaws.{count_within}
use Rattle.plan.proofs.NearLists.{other_in, number_first, number_next, number_later, ahead_go, ahead_more}
use Rattle.plan.proofs.check.pass.Goals as goal

pub loop-k-init : goal.loop-k-init
loop-k-init c = (ahead_go _ _ _ c.args.rising c.args.v _ (c.if-not-rising.false) c.requires.3, number_first _ (at c.args.walks.now.stops.locations.now) c.args.v _ (λ z. c.from-k.ensures ∙ c.requires.0.linked.head c.args.v c.requires.2 z))

pub loop-k-smaller : goal.loop-k-smaller
loop-k-smaller c = omega (arith, number_later _ _ _ _ (omega (arith, c.requires.0.ended, c.loop-k-test.true)) (c.from-k-in-loop-k.ensures ∙ c.requires.0.linked.following c.loop-k.k (omega (arith, c.requires.0.ended, c.loop-k-test.true))), c.loop-k-test.true)

pub loop-k-preserved : goal.loop-k-preserved
loop-k-preserved c = (ahead_more _ _ _ _ _ _ _ _ (omega (arith, c.requires.0.ended, c.loop-k-test.true)) (c.loop-k.invariant.1 (omega (arith, c.requires.0.ended, c.loop-k-test.true))) c.other_end.ensures (c.requires.0.gathered.groups.nexts _ c.requires.2) c.loop-k.invariant.0, number_next _ (at c.args.walks.now.stops.locations.now) c.args.v _ _ (c.from-k-in-loop-k.ensures ∙ c.requires.0.linked.following c.loop-k.k (omega (arith, c.requires.0.ended, c.loop-k-test.true))) (c.loop-k.invariant.1 (omega (arith, c.requires.0.ended, c.loop-k-test.true))))

pub offset_bounds-places-other_end : goal.offset_bounds-places-other_end
offset_bounds-places-other_end c = omega (arith, c.other_end.ensures, other_in c.loop-k.k (pair_count c.args.walks.now.pairs.now) (omega (arith, c.requires.0.ended, c.loop-k-test.true)), count_within c.args.walks.now.pairs.now)

pub bounds-places-other_end : goal.bounds-places-other_end
bounds-places-other_end c = omega (arith, c.other_end.ensures, other_in c.loop-k.k (pair_count c.args.walks.now.pairs.now) (omega (arith, c.requires.0.ended, c.loop-k-test.true)), count_within c.args.walks.now.pairs.now)
