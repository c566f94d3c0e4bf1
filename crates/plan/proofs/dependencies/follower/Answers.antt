-- The least stop of those found follows v; whoever follows and is before it is at a location still to come. The walks of the numbers before k have come to their stops.
use Rattle.plan.specs.Sharing.{other_end}
use native.Mathlib.Omega.{arith}
use mathlib.Core.Path.{◌∙◌}
use Rattle.below.specs.Below.{at}
use Rattle.near.proofs.NearLaws.{count_within}
use Rattle.plan.specs.Dependencies.{later_from}
use Rattle.plan.proofs.NearLists.{leading_start, leading_more, leading_end, placing_start, placing_at, placing_more, placing_end, begun_found, number_later}
use Rattle.plan.proofs.dependencies.follower.Goals as goal

pub loop-k-init : goal.loop-k-init
loop-k-init c = (leading_start _ _ _ _ _ _ _ (λ z. c.from-k.ensures ∙ c.requires.visits_room.1.linked.head c.args.v c.requires.visits_room.2 z) c.requires.own_value.0, placing_start _ _ _ _ _ _ _ _ c.requires.own_value.1 c.requires.own_value.2 (λ z. c.from-k.ensures ∙ c.requires.visits_room.1.linked.head c.args.v c.requires.visits_room.2 z))

pub place-start-requires : goal.place-start-requires
place-start-requires c = omega (arith, c.requires.visits_room.1.ended, c.loop-k-test.true, count_within c.args.walks.now.pairs.now)

pub loop-k-smaller : goal.loop-k-smaller
loop-k-smaller c = omega (arith, number_later _ _ _ _ (omega (arith, c.requires.visits_room.1.ended, c.loop-k-test.true)) (c.from-k-in-loop-k.ensures ∙ c.requires.visits_room.1.linked.following c.loop-k.k (omega (arith, c.requires.visits_room.1.ended, c.loop-k-test.true))), c.loop-k-test.true)

pub loop-k-preserved : goal.loop-k-preserved
loop-k-preserved c = (leading_more _ _ _ _ _ _ _ _ _ _ c.loop-k.invariant.0 (omega (arith, c.requires.visits_room.1.ended, c.loop-k-test.true)) (c.follower_from-x.ensures _ (placing_at _ _ _ _ _ _ _ _ c.args.walks.now.near.starts.now _ c.loop-k.invariant.1 (omega (arith, c.requires.visits_room.1.ended, c.loop-k-test.true)) (c.loop-k.invariant.0.here (omega (arith, c.requires.visits_room.1.ended, c.loop-k-test.true))) (c.requires.visits_room.1.linked.opposite c.loop-k.k (omega (arith, c.requires.visits_room.1.ended, c.loop-k-test.true))) c.place-start.ensures)) (c.from-k-in-loop-k.ensures ∙ c.requires.visits_room.1.linked.following c.loop-k.k (omega (arith, c.requires.visits_room.1.ended, c.loop-k-test.true))) c.min-m.ensures, placing_more _ _ _ _ _ _ _ _ _ _ c.loop-k.invariant.1 (omega (arith, c.requires.visits_room.1.ended, c.loop-k-test.true)) (c.loop-k.invariant.0.here (omega (arith, c.requires.visits_room.1.ended, c.loop-k-test.true))) (c.follower_from-x.ensures _ (placing_at _ _ _ _ _ _ _ _ c.args.walks.now.near.starts.now _ c.loop-k.invariant.1 (omega (arith, c.requires.visits_room.1.ended, c.loop-k-test.true)) (c.loop-k.invariant.0.here (omega (arith, c.requires.visits_room.1.ended, c.loop-k-test.true))) (c.requires.visits_room.1.linked.opposite c.loop-k.k (omega (arith, c.requires.visits_room.1.ended, c.loop-k-test.true))) c.place-start.ensures)) (c.from-k-in-loop-k.ensures ∙ c.requires.visits_room.1.linked.following c.loop-k.k (omega (arith, c.requires.visits_room.1.ended, c.loop-k-test.true))))

pub returns : goal.returns
returns c = record { answer = leading_end _ _ _ _ _ _ _ c.loop-k.invariant.0 (omega (arith, c.requires.visits_room.1.ended, c.loop-k-test.false)); placed = placing_end _ _ _ _ _ _ _ _ c.loop-k.invariant.1 (omega (arith, c.requires.visits_room.1.ended, c.loop-k-test.false)) }

pub overflow_cast-places : goal.overflow_cast-places
overflow_cast-places c = omega (arith, (begun_found (at c.args.walks.now.stops.locations.now) c.args.walks.now.stops.count (at c.args.walks.now.pairs.now (other_end c.loop-k.k)) (later_from (at c.args.walks.now.stops.owners.now) (at c.args.walks.now.stops.times.now) c.args.from c.args.v) _ (c.follower_from-x.ensures _ (placing_at _ _ _ _ _ _ _ _ c.args.walks.now.near.starts.now _ c.loop-k.invariant.1 (omega (arith, c.requires.visits_room.1.ended, c.loop-k-test.true)) (c.loop-k.invariant.0.here (omega (arith, c.requires.visits_room.1.ended, c.loop-k-test.true))) (c.requires.visits_room.1.linked.opposite c.loop-k.k (omega (arith, c.requires.visits_room.1.ended, c.loop-k-test.true))) c.place-start.ensures))).within, c.requires.visits_room.0.few)

pub bounds-places-k : goal.bounds-places-k
bounds-places-k c = omega (arith, c.requires.visits_room.1.ended, c.loop-k-test.true, count_within c.args.walks.now.pairs.now)
