-- The drone is one of the plan's, and under way to a next stop of its own, so its entries are there and its last visited stop stays small.
use mathlib.Core.Bool.{not}
use mathlib.Core.Path.{ap}
use mathlib.Core.Path.{sym, ◌∙◌}
use native.Mathlib.Omega.{arith}
use borrow.Author.Tests.{not-false}
use Rattle.tables.specs.Limits.{limits}
use Rattle.tables.specs.Tables.{Tables}
use Rattle.tables.specs.Lent.{lent_tables}
use Rattle.flat.proofs.Facts.{Facts, facts}
use Rattle.flat.proofs.Answers.{arrives_20, arrives_25, arrives_24, arrives_0}
use Rattle.flat.proofs.cores.arrive_sound.Goals.{Start}
use Rattle.flat.proofs.cores.arrive_sound.Goals as goal

abbrev given : Start → Tables
given c = lent_tables c.args.plan.now c.args.visited.now c.args.drone_flags.now c.args.sides.now c.args.flags.now

known : (c : Start) → Facts limits (given c)
known c = facts limits (given c) c.requires

pub bounds-plan-0 : goal.bounds-plan-0
bounds-plan-0 c = omega (arith, (known (goal.at.bounds-plan-0 c).Start).sizes.drone_count_lem)

pub returns-then-drones-drone : goal.returns-then-drones-drone
returns-then-drones-drone c = arrives_20 limits _ c.requires _ (omega arith)

pub bounds-drone_flags-drone : goal.bounds-drone_flags-drone
bounds-drone_flags-drone c = omega (arith, (known (goal.at.bounds-drone_flags-drone c).Start).drones_few, (known (goal.at.bounds-drone_flags-drone c).Start).sizes.drone_flags)

pub returns-then-is_withdrawn : goal.returns-then-is_withdrawn
returns-then-is_withdrawn c = arrives_25 limits _ c.requires _ (omega arith) _ c.is_withdrawn.ensures c.if-is_withdrawn.true

pub returns-then-not-is_under_way : goal.returns-then-not-is_under_way
returns-then-not-is_under_way c = arrives_24 limits _ c.requires _ (omega arith) _ c.is_withdrawn.ensures c.if-is_withdrawn.false _ c.is_under_way.ensures (ap not c.if-not-is_under_way.true)

pub bounds-visited-drone : goal.bounds-visited-drone
bounds-visited-drone c = omega (arith, (known (goal.at.bounds-visited-drone c).Start).drones_few, (known (goal.at.bounds-visited-drone c).Start).sizes.visited)

pub overflow_add-visited : goal.overflow_add-visited
overflow_add-visited c = omega (arith, (known (goal.at.overflow_add-visited c).Start).next_in c.args.drone (omega arith) (sym c.is_under_way.ensures ∙ not-false c.is_under_way.result (ap not c.if-not-is_under_way.false)), (known (goal.at.overflow_add-visited c).Start).stops_few c.args.drone (omega arith))

pub bounds-visited-drone-2 : goal.bounds-visited-drone-2
bounds-visited-drone-2 c = omega (arith, (known (goal.at.bounds-visited-drone-2 c).Start).drones_few, (known (goal.at.bounds-visited-drone-2 c).Start).sizes.visited)

pub bounds-drone_flags-drone-2 : goal.bounds-drone_flags-drone-2
bounds-drone_flags-drone-2 c = omega (arith, (known (goal.at.bounds-drone_flags-drone-2 c).Start).drones_few, (known (goal.at.bounds-drone_flags-drone-2 c).Start).sizes.drone_flags)

pub returns : goal.returns
returns c = arrives_0 limits _ c.requires _ (omega arith) _ c.is_withdrawn.ensures c.if-is_withdrawn.false _ c.is_under_way.ensures (ap not c.if-not-is_under_way.false) _ c.without_under_way.ensures
