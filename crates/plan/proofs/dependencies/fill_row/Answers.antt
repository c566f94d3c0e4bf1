-- The columns hold the dependencies of v with a second stop before w, and the cursor stands after them; w follows v too, if it is a stop, and the walks for the next one begin after it.
use native.Mathlib.Omega.{arith}
use mathlib.Core.Path.{◌∙◌}
use Prim.Native.Nat.{◌+◌}
use Rattle.below.specs.Below.{at}
use Rattle.plan.proofs.NearLists.{begun_own}
use Rattle.plan.proofs.RowWalks.{going_on, going_own}
use Rattle.plan.proofs.ColumnsLaws.{next-later, rowing_start, rowing_more, cursor_none, cursor_take, row_none, row_take, row_room}
use Rattle.plan.proofs.dependencies.fill_row.Goals as goal

pub follower-w-requires : goal.follower-w-requires
follower-w-requires c = record { visits_room = (c.requires.plan_room.0, c.requires.plan_room.1, c.requires.plan_room.2); own_value = ((c.follower_from-own.ensures (at c.args.walks.now.stops.locations.now c.args.v) (begun_own _ _ _ _ _ c.requires.plan_room.2 (c.from-first.ensures ∙ c.requires.plan_room.1.gathered.groups.firsts _ c.requires.plan_room.2))), c.requires.plan_room.3, λ z. absurd (omega (arith, z))) }

pub loop-w-init : goal.loop-w-init
loop-w-init c = (rowing_start c.args.walks.now.pairs.now c.args.walks.now.stops.owners.now c.args.numbers.now c.args.walks.now.stops.locations.now c.args.walks.now.stops.times.now c.args.walks.now.stops.count c.args.v _ _ _ _ _ _ _ _ _ (cursor_none _ _, row_none _ _ _ _) c.follower-w.ensures.answer, going_on c.args.walks.now.pairs.now c.args.walks.now.stops.owners.now c.args.walks.now.stops.locations.now c.args.walks.now.stops.times.now c.args.walks.now.stops.count c.args.v 0 _ _ _ (omega arith) (c.follower_from-own.ensures (at c.args.walks.now.stops.locations.now c.args.v) (begun_own _ _ _ _ _ c.requires.plan_room.2 (c.from-first.ensures ∙ c.requires.plan_room.1.gathered.groups.firsts _ c.requires.plan_room.2))) c.follower-w.ensures.placed)

pub follower-w-requires-in-loop-w : goal.follower-w-requires-in-loop-w
follower-w-requires-in-loop-w c = record { visits_room = (c.requires.plan_room.0, c.requires.plan_room.1, c.requires.plan_room.2); own_value = ((c.follower_from-own-in-loop-w.ensures (at c.args.walks.now.stops.locations.now c.args.v) (going_own c.args.walks.now.pairs.now c.args.walks.now.stops.owners.now c.args.walks.now.stops.locations.now c.args.walks.now.stops.times.now c.args.walks.now.stops.count c.args.v _ _ _ c.args.walks.now.links.next.now _ c.loop-w.invariant.1 c.loop-w-test.true (c.requires.plan_room.1.gathered.groups.nexts _ c.loop-w-test.true) c.resume-start.ensures)), c.loop-w.invariant.1.placed.size, λ z. c.loop-w.invariant.1.placed) }

pub loop-w-smaller : goal.loop-w-smaller
loop-w-smaller c = omega (arith, next-later c.args.walks.now.pairs.now c.args.walks.now.stops.owners.now c.args.numbers.now c.args.walks.now.stops.locations.now c.args.walks.now.stops.times.now c.args.walks.now.stops.count c.args.v c.loop-w.w c.follower-w-in-loop-w.result c.loop-w-test.true c.follower-w-in-loop-w.ensures.answer, c.loop-w-test.true)

pub loop-w-preserved : goal.loop-w-preserved
loop-w-preserved c = (rowing_more c.args.walks.now.pairs.now c.args.walks.now.stops.owners.now c.args.numbers.now c.args.walks.now.stops.locations.now c.args.walks.now.stops.times.now c.args.walks.now.stops.count c.args.v _ _ _ _ _ _ _ _ c.loop-w.w _ c.loop-w-test.true (cursor_take _ _ _ _ c.loop-w.invariant.0.1.0 (c.loop-w.invariant.0.2 c.loop-w-test.true), row_take _ _ _ _ _ _ _ _ _ _ c.loop-w.invariant.0.1.1 _ c.loop-w.invariant.0.1.0 _ (c.loop-w.invariant.0.2 c.loop-w-test.true) c.flag_of.ensures) c.follower-w-in-loop-w.ensures.answer, going_on c.args.walks.now.pairs.now c.args.walks.now.stops.owners.now c.args.walks.now.stops.locations.now c.args.walks.now.stops.times.now c.args.walks.now.stops.count c.args.v (c.loop-w.w + 1) _ _ _ (omega (arith, next-later c.args.walks.now.pairs.now c.args.walks.now.stops.owners.now c.args.numbers.now c.args.walks.now.stops.locations.now c.args.walks.now.stops.times.now c.args.walks.now.stops.count c.args.v c.loop-w.w c.follower-w-in-loop-w.result c.loop-w-test.true c.follower-w-in-loop-w.ensures.answer)) (c.follower_from-own-in-loop-w.ensures (at c.args.walks.now.stops.locations.now c.args.v) (going_own c.args.walks.now.pairs.now c.args.walks.now.stops.owners.now c.args.walks.now.stops.locations.now c.args.walks.now.stops.times.now c.args.walks.now.stops.count c.args.v _ _ _ c.args.walks.now.links.next.now _ c.loop-w.invariant.1 c.loop-w-test.true (c.requires.plan_room.1.gathered.groups.nexts _ c.loop-w-test.true) c.resume-start.ensures)) c.follower-w-in-loop-w.ensures.placed)

pub bounds-first_drones-k : goal.bounds-first_drones-k
bounds-first_drones-k c = omega (arith, (row_room _ _ _ _ _ _ _ _ _ _ c.loop-w.invariant.0.1.1 _ c.loop-w.invariant.0.1.0 (c.loop-w.invariant.0.2 c.loop-w-test.true) c.loop-w-test.true c.requires.columns_room).has_first_drones)

pub offset_bounds-first_stops-k : goal.offset_bounds-first_stops-k
offset_bounds-first_stops-k c = omega (arith, (row_room _ _ _ _ _ _ _ _ _ _ c.loop-w.invariant.0.1.1 _ c.loop-w.invariant.0.1.0 (c.loop-w.invariant.0.2 c.loop-w-test.true) c.loop-w-test.true c.requires.columns_room).dependencies_fit)

pub bounds-first_stops-k : goal.bounds-first_stops-k
bounds-first_stops-k c = omega (arith, (row_room _ _ _ _ _ _ _ _ _ _ c.loop-w.invariant.0.1.1 _ c.loop-w.invariant.0.1.0 (c.loop-w.invariant.0.2 c.loop-w-test.true) c.loop-w-test.true c.requires.columns_room).has_first_stops)

pub bounds-second_drones-k : goal.bounds-second_drones-k
bounds-second_drones-k c = omega (arith, (row_room _ _ _ _ _ _ _ _ _ _ c.loop-w.invariant.0.1.1 _ c.loop-w.invariant.0.1.0 (c.loop-w.invariant.0.2 c.loop-w-test.true) c.loop-w-test.true c.requires.columns_room).has_second_drones)

pub offset_bounds-second_stops-k : goal.offset_bounds-second_stops-k
offset_bounds-second_stops-k c = omega (arith, (row_room _ _ _ _ _ _ _ _ _ _ c.loop-w.invariant.0.1.1 _ c.loop-w.invariant.0.1.0 (c.loop-w.invariant.0.2 c.loop-w-test.true) c.loop-w-test.true c.requires.columns_room).dependencies_fit)

pub bounds-second_stops-k : goal.bounds-second_stops-k
bounds-second_stops-k c = omega (arith, (row_room _ _ _ _ _ _ _ _ _ _ c.loop-w.invariant.0.1.1 _ c.loop-w.invariant.0.1.0 (c.loop-w.invariant.0.2 c.loop-w-test.true) c.loop-w-test.true c.requires.columns_room).has_second_stops)

pub bounds-flags-k : goal.bounds-flags-k
bounds-flags-k c = omega (arith, (row_room _ _ _ _ _ _ _ _ _ _ c.loop-w.invariant.0.1.1 _ c.loop-w.invariant.0.1.0 (c.loop-w.invariant.0.2 c.loop-w-test.true) c.loop-w-test.true c.requires.columns_room).has_flags)

pub overflow_add-k : goal.overflow_add-k
overflow_add-k c = omega (arith, (row_room _ _ _ _ _ _ _ _ _ _ c.loop-w.invariant.0.1.1 _ c.loop-w.invariant.0.1.0 (c.loop-w.invariant.0.2 c.loop-w-test.true) c.loop-w-test.true c.requires.columns_room).dependencies_fit)
