-- The counter is the number of stops before w that follow v; w does too, if it is a stop, and the walks for the next one begin after it.
use native.Mathlib.Omega.{arith}
use mathlib.Core.Path.{◌∙◌}
use mathlib.Core.List.{[]}
use Prim.Native.Nat.{◌+◌}
use Rattle.below.specs.Below.{at}
use Rattle.below.proofs.Count.{count_end}
use Rattle.plan.proofs.Unread.{row_any}
use Rattle.plan.proofs.NearLists.{begun_own}
use Rattle.plan.proofs.RowWalks.{going_on, going_own}
use Rattle.plan.proofs.ColumnsLaws.{row_few, next-later, counting_start, counting_more}
use Rattle.plan.proofs.dependencies.count_row.Goals as goal

pub follower-w-requires : goal.follower-w-requires
follower-w-requires c = record { visits_room = (c.requires.0, c.requires.1, c.requires.2); own_value = ((c.follower_from-own.ensures (at c.args.walks.now.stops.locations.now c.args.v) (begun_own _ _ _ _ _ c.requires.2 (c.from-first.ensures ∙ c.requires.1.gathered.groups.firsts _ c.requires.2))), c.requires.3, λ z. absurd (omega (arith, z))) }

pub loop-w-init : goal.loop-w-init
loop-w-init c = (counting_start c.args.walks.now.pairs.now c.args.walks.now.stops.owners.now [] c.args.walks.now.stops.locations.now c.args.walks.now.stops.times.now c.args.walks.now.stops.count c.args.v _ c.follower-w.ensures.answer, going_on c.args.walks.now.pairs.now c.args.walks.now.stops.owners.now c.args.walks.now.stops.locations.now c.args.walks.now.stops.times.now c.args.walks.now.stops.count c.args.v 0 _ _ _ (omega arith) (c.follower_from-own.ensures (at c.args.walks.now.stops.locations.now c.args.v) (begun_own _ _ _ _ _ c.requires.2 (c.from-first.ensures ∙ c.requires.1.gathered.groups.firsts _ c.requires.2))) c.follower-w.ensures.placed)

pub follower-w-requires-in-loop-w : goal.follower-w-requires-in-loop-w
follower-w-requires-in-loop-w c = record { visits_room = (c.requires.0, c.requires.1, c.requires.2); own_value = ((c.follower_from-own-in-loop-w.ensures (at c.args.walks.now.stops.locations.now c.args.v) (going_own c.args.walks.now.pairs.now c.args.walks.now.stops.owners.now c.args.walks.now.stops.locations.now c.args.walks.now.stops.times.now c.args.walks.now.stops.count c.args.v _ _ _ c.args.walks.now.links.next.now _ c.loop-w.invariant.1 c.loop-w-test.true (c.requires.1.gathered.groups.nexts _ c.loop-w-test.true) c.resume-start.ensures)), c.loop-w.invariant.1.placed.size, λ z. c.loop-w.invariant.1.placed) }

pub loop-w-smaller : goal.loop-w-smaller
loop-w-smaller c = omega (arith, next-later c.args.walks.now.pairs.now c.args.walks.now.stops.owners.now [] c.args.walks.now.stops.locations.now c.args.walks.now.stops.times.now c.args.walks.now.stops.count c.args.v c.loop-w.w c.follower-w-in-loop-w.result c.loop-w-test.true c.follower-w-in-loop-w.ensures.answer, c.loop-w-test.true)

pub loop-w-preserved : goal.loop-w-preserved
loop-w-preserved c = (counting_more c.args.walks.now.pairs.now c.args.walks.now.stops.owners.now [] c.args.walks.now.stops.locations.now c.args.walks.now.stops.times.now c.args.walks.now.stops.count c.args.v _ c.loop-w.w _ c.loop-w.invariant.0 c.loop-w-test.true c.follower-w-in-loop-w.ensures.answer, going_on c.args.walks.now.pairs.now c.args.walks.now.stops.owners.now c.args.walks.now.stops.locations.now c.args.walks.now.stops.times.now c.args.walks.now.stops.count c.args.v (c.loop-w.w + 1) _ _ _ (omega (arith, next-later c.args.walks.now.pairs.now c.args.walks.now.stops.owners.now [] c.args.walks.now.stops.locations.now c.args.walks.now.stops.times.now c.args.walks.now.stops.count c.args.v c.loop-w.w c.follower-w-in-loop-w.result c.loop-w-test.true c.follower-w-in-loop-w.ensures.answer)) (c.follower_from-own-in-loop-w.ensures (at c.args.walks.now.stops.locations.now c.args.v) (going_own c.args.walks.now.pairs.now c.args.walks.now.stops.owners.now c.args.walks.now.stops.locations.now c.args.walks.now.stops.times.now c.args.walks.now.stops.count c.args.v _ _ _ c.args.walks.now.links.next.now _ c.loop-w.invariant.1 c.loop-w-test.true (c.requires.1.gathered.groups.nexts _ c.loop-w-test.true) c.resume-start.ensures)) c.follower-w-in-loop-w.ensures.placed)

pub returns : goal.returns
returns c = record { count = λ numbers. count_end _ _ _ _ c.loop-w.invariant.0.0 c.loop-w-test.false c.loop-w.invariant.0.1 ∙ row_any _ _ _ _ _; sized = c.loop-w.invariant.1.placed.size }

pub overflow_add-c : goal.overflow_add-c
overflow_add-c c = omega (arith, row_few _ _ _ c.loop-w.invariant.0.1, c.requires.0.few, c.loop-w-test)
