use Prim.Native.Nat.{◌<◌}
use native.Mathlib.Omega.{arith}
use Rattle.tables.specs.Limits.{limits}
use Rattle.tables.specs.Tables.{Tables, dependencies}
use Rattle.flat.specs.Lent.{holding_dependencies}
use Rattle.flat.proofs.Facts.{Facts, facts}
use Rattle.flat.proofs.TestLaws.{test_30, test_35, test_31, test_32, test_passes}
use Rattle.flat.proofs.turn_tests.turn_test.Goals.{Start}
use Rattle.flat.proofs.turn_tests.turn_test.Goals as goal

abbrev lent : Start → Tables → Tables
lent c = holding_dependencies c.args.plan.now.dependency_count.now c.args.visited.now c.args.drone_flags.now c.args.sides.now.first_drones.now c.args.sides.now.first_stops.now c.args.sides.now.second_drones.now c.args.sides.now.second_stops.now c.args.flags.now

abbrev given : Start → Tables
given c = lent c c.requires.others

known : (c : Start) → Facts limits (given c)
known c = facts limits (given c) c.requires.holds

pub bounds-plan-0 : goal.bounds-plan-0
bounds-plan-0 c = omega (arith, (known (goal.at.bounds-plan-0 c).Start).sizes.dependency_count)

pub returns-then-count-dependency : goal.returns-then-count-dependency
returns-then-count-dependency c = record { says = λ t p. test_30 limits _ p _ (omega arith) }

pub bounds-sides-dependency : goal.bounds-sides-dependency
bounds-sides-dependency c = omega (arith, (known (goal.at.bounds-sides-dependency c).Start).dependencies_few, (known (goal.at.bounds-sides-dependency c).Start).sizes.first_drones_lem)

pub bounds-sides-dependency-2 : goal.bounds-sides-dependency-2
bounds-sides-dependency-2 c = omega (arith, (known (goal.at.bounds-sides-dependency-2 c).Start).dependencies_few, (known (goal.at.bounds-sides-dependency-2 c).Start).sizes.second_drones_lem)

pub either_withdrawn-requires : goal.either_withdrawn-requires
either_withdrawn-requires c =
    let l : c.args.dependency < dependencies (given (goal.at.either_withdrawn-requires c).Start).plan = omega arith in
    (omega (arith, (known (goal.at.either_withdrawn-requires c).Start).first_in c.args.dependency l, (known (goal.at.either_withdrawn-requires c).Start).drones_few, (known (goal.at.either_withdrawn-requires c).Start).sizes.drone_flags), omega (arith, (known (goal.at.either_withdrawn-requires c).Start).second_in c.args.dependency l, (known (goal.at.either_withdrawn-requires c).Start).drones_few, (known (goal.at.either_withdrawn-requires c).Start).sizes.drone_flags))

pub returns-then-either_withdrawn : goal.returns-then-either_withdrawn
returns-then-either_withdrawn c = record { says = λ t p. test_35 limits _ p _ (omega arith) _ (rw (c.from-first_drone.ensures, c.from-second_drone.ensures) at c.either_withdrawn.ensures) c.if-either_withdrawn.true }

pub bounds-flags-dependency : goal.bounds-flags-dependency
bounds-flags-dependency c = omega (arith, (known (goal.at.bounds-flags-dependency c).Start).dependencies_few, (known (goal.at.bounds-flags-dependency c).Start).sizes.flags)

pub returns-then-is_fixed : goal.returns-then-is_fixed
returns-then-is_fixed c = record { says = λ t p. test_31 limits _ p _ (omega arith) _ (rw (c.from-first_drone.ensures, c.from-second_drone.ensures) at c.either_withdrawn.ensures) c.if-either_withdrawn.false _ c.is_fixed.ensures c.if-is_fixed.true }

pub side_entered-first-requires : goal.side_entered-first-requires
side_entered-first-requires c =
    let l : c.args.dependency < dependencies (given (goal.at.side_entered-first-requires c).Start).plan = omega arith in
    (omega (arith, (known (goal.at.side_entered-first-requires c).Start).dependencies_few, (known (goal.at.side_entered-first-requires c).Start).sizes.first_drones_lem), omega (arith, (known (goal.at.side_entered-first-requires c).Start).dependencies_few, (known (goal.at.side_entered-first-requires c).Start).sizes.first_stops_lem), omega (arith, (known (goal.at.side_entered-first-requires c).Start).first_in c.args.dependency l, (known (goal.at.side_entered-first-requires c).Start).drones_few, (known (goal.at.side_entered-first-requires c).Start).sizes.visited), omega (arith, (known (goal.at.side_entered-first-requires c).Start).first_in c.args.dependency l, (known (goal.at.side_entered-first-requires c).Start).drones_few, (known (goal.at.side_entered-first-requires c).Start).sizes.drone_flags))

pub side_entered-second-requires : goal.side_entered-second-requires
side_entered-second-requires c =
    let l : c.args.dependency < dependencies (given (goal.at.side_entered-second-requires c).Start).plan = omega arith in
    (omega (arith, (known (goal.at.side_entered-second-requires c).Start).dependencies_few, (known (goal.at.side_entered-second-requires c).Start).sizes.second_drones_lem), omega (arith, (known (goal.at.side_entered-second-requires c).Start).dependencies_few, (known (goal.at.side_entered-second-requires c).Start).sizes.second_stops_lem), omega (arith, (known (goal.at.side_entered-second-requires c).Start).second_in c.args.dependency l, (known (goal.at.side_entered-second-requires c).Start).drones_few, (known (goal.at.side_entered-second-requires c).Start).sizes.visited), omega (arith, (known (goal.at.side_entered-second-requires c).Start).second_in c.args.dependency l, (known (goal.at.side_entered-second-requires c).Start).drones_few, (known (goal.at.side_entered-second-requires c).Start).sizes.drone_flags))

pub returns-then-in_force : goal.returns-then-in_force
returns-then-in_force c = record { says = λ t p. test_32 limits _ p _ (omega arith) _ (rw (c.from-first_drone.ensures, c.from-second_drone.ensures) at c.either_withdrawn.ensures) c.if-either_withdrawn.false _ c.is_fixed.ensures c.if-is_fixed.false _ _ _ _ c.side_entered-first.ensures c.side_entered-second.ensures c.is_turned-turned.ensures c.in_force.ensures c.if-in_force.true }

pub returns : goal.returns
returns c = record { says = λ t p. test_passes limits _ p _ (omega arith) _ (rw (c.from-first_drone.ensures, c.from-second_drone.ensures) at c.either_withdrawn.ensures) c.if-either_withdrawn.false _ c.is_fixed.ensures c.if-is_fixed.false _ _ _ _ c.side_entered-first.ensures c.side_entered-second.ensures c.is_turned-turned.ensures c.in_force.ensures c.if-in_force.false }
