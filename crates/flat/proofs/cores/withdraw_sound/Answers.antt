-- The drone is one of the plan's, so its flag byte is there.
use native.Mathlib.Omega.{arith}
use Rattle.tables.specs.Limits.{limits}
use Rattle.tables.specs.Tables.{Tables}
use Rattle.tables.specs.Lent.{lent_tables}
use Rattle.flat.proofs.Facts.{Facts, facts}
use Rattle.flat.proofs.Answers.{withdraws_20, withdraws_25, withdraws_0}
use Rattle.flat.proofs.cores.withdraw_sound.Goals.{Start}
use Rattle.flat.proofs.cores.withdraw_sound.Goals as goal

abbrev given : Start → Tables
given c = lent_tables c.args.plan.now c.args.visited.now c.args.drone_flags.now c.args.sides.now c.args.flags.now

known : (c : Start) → Facts limits (given c)
known c = facts limits (given c) c.requires

pub bounds-plan-0 : goal.bounds-plan-0
bounds-plan-0 c = omega (arith, (known (goal.at.bounds-plan-0 c).Start).sizes.drone_count_lem)

pub returns-then-drones-drone : goal.returns-then-drones-drone
returns-then-drones-drone c = withdraws_20 limits _ c.requires _ (omega arith)

pub bounds-drone_flags-drone : goal.bounds-drone_flags-drone
bounds-drone_flags-drone c = omega (arith, (known (goal.at.bounds-drone_flags-drone c).Start).drones_few, (known (goal.at.bounds-drone_flags-drone c).Start).sizes.drone_flags)

pub returns-then-is_withdrawn : goal.returns-then-is_withdrawn
returns-then-is_withdrawn c = withdraws_25 limits _ c.requires _ (omega arith) _ c.is_withdrawn.ensures c.if-is_withdrawn.true

pub bounds-drone_flags-drone-2 : goal.bounds-drone_flags-drone-2
bounds-drone_flags-drone-2 c = omega (arith, (known (goal.at.bounds-drone_flags-drone-2 c).Start).drones_few, (known (goal.at.bounds-drone_flags-drone-2 c).Start).sizes.drone_flags)

pub returns : goal.returns
returns c = withdraws_0 limits _ c.requires _ (omega arith) _ c.is_withdrawn.ensures c.if-is_withdrawn.false _ c.with_withdrawn.ensures
