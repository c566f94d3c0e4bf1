-- The drone is one of the plan's, so its entries are there, and every dependency is between drones of the plan.
use native.Mathlib.Omega.{arith}
use Rattle.tables.specs.Limits.{limits}
use Rattle.tables.specs.Tables.{Tables}
use Rattle.tables.specs.Lent.{lent_tables}
use Rattle.flat.proofs.Facts.{Facts, facts, waits_room}
use Rattle.flat.proofs.Answers.{grants_20, grants_25, grants_21, grants_22, grants_23, grants_0}
use Rattle.flat.proofs.cores.grant_sound.Goals.{Start}
use Rattle.flat.proofs.cores.grant_sound.Goals as goal

abbrev given : Start → Tables
given c = lent_tables c.args.plan.now c.args.visited.now c.args.drone_flags.now c.args.sides.now c.args.flags.now

known : (c : Start) → Facts limits (given c)
known c = facts limits (given c) c.requires

pub bounds-plan-0 : goal.bounds-plan-0
bounds-plan-0 c = omega (arith, (known (goal.at.bounds-plan-0 c).Start).sizes.drone_count_lem)

pub returns-then-drones-drone : goal.returns-then-drones-drone
returns-then-drones-drone c = grants_20 limits _ c.requires _ (omega arith)

pub bounds-drone_flags-drone : goal.bounds-drone_flags-drone
bounds-drone_flags-drone c = omega (arith, (known (goal.at.bounds-drone_flags-drone c).Start).drones_few, (known (goal.at.bounds-drone_flags-drone c).Start).sizes.drone_flags)

pub returns-then-is_withdrawn : goal.returns-then-is_withdrawn
returns-then-is_withdrawn c = grants_25 limits _ c.requires _ (omega arith) _ c.is_withdrawn.ensures c.if-is_withdrawn.true

pub bounds-plan-drone : goal.bounds-plan-drone
bounds-plan-drone c = omega (arith, (known (goal.at.bounds-plan-drone c).Start).drones_few, (known (goal.at.bounds-plan-drone c).Start).sizes.stop_counts_lem)

pub overflow_sub-last : goal.overflow_sub-last
overflow_sub-last c = omega (arith, (known (goal.at.overflow_sub-last c).Start).has_stops c.args.drone (omega arith))

pub bounds-visited-drone : goal.bounds-visited-drone
bounds-visited-drone c = omega (arith, (known (goal.at.bounds-visited-drone c).Start).drones_few, (known (goal.at.bounds-visited-drone c).Start).sizes.visited)

pub returns-then-last-visited : goal.returns-then-last-visited
returns-then-last-visited c = grants_21 limits _ c.requires _ (omega arith) _ c.is_withdrawn.ensures c.if-is_withdrawn.false c.if-last-visited.true

pub returns-then-is_under_way : goal.returns-then-is_under_way
returns-then-is_under_way c = grants_22 limits _ c.requires _ (omega arith) _ c.is_withdrawn.ensures c.if-is_withdrawn.false c.if-last-visited.false _ c.is_under_way.ensures c.if-is_under_way.true

pub bounds-plan-0-2 : goal.bounds-plan-0-2
bounds-plan-0-2 c = omega (arith, (known (goal.at.bounds-plan-0-2 c).Start).sizes.dependency_count)

pub first_unmet-unmet-requires : goal.first_unmet-unmet-requires
first_unmet-unmet-requires c = rw c.from-count.ensures (waits_room limits _ (known (goal.at.first_unmet-unmet-requires c).Start) (omega arith) _ (omega arith))

pub returns-then-unmet-count : goal.returns-then-unmet-count
returns-then-unmet-count c = grants_23 limits _ c.requires _ (omega arith) _ c.is_withdrawn.ensures c.if-is_withdrawn.false c.if-last-visited.false _ c.is_under_way.ensures c.if-is_under_way.false _ (rw c.from-count.ensures at c.first_unmet-unmet.ensures) (omega arith)

pub bounds-drone_flags-drone-2 : goal.bounds-drone_flags-drone-2
bounds-drone_flags-drone-2 c = omega (arith, (known (goal.at.bounds-drone_flags-drone-2 c).Start).drones_few, (known (goal.at.bounds-drone_flags-drone-2 c).Start).sizes.drone_flags)

pub returns : goal.returns
returns c = grants_0 limits _ c.requires _ (omega arith) _ c.is_withdrawn.ensures c.if-is_withdrawn.false c.if-last-visited.false _ c.is_under_way.ensures c.if-is_under_way.false _ (rw c.from-count.ensures at c.first_unmet-unmet.ensures) (omega arith) _ c.with_under_way.ensures
