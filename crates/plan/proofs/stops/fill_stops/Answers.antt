-- The stop to come is not before the first stop of the cursor's drone; the drones and numbers of the stops before it are filled.
use borrow.Author.Rules.{rules}
use Prim.Native.Nat.{◌<◌}
use mathlib.Core.Path.{refl}
use native.Mathlib.Omega.{arith}
use Rattle.below.specs.Below.{fill_below}
use Rattle.below.proofs.Fill.{fill_store}
use Rattle.plan.proofs.StopsLaws.{start-turn, start-below, cursor_owner, cursor_number}
use Rattle.plan.proofs.Numbering.{start_none}
use mathlib.Core.Path.{sym}
use Rattle.plan.proofs.stops.fill_stops.Goals.{In-loop-v}
use Rattle.plan.proofs.stops.fill_stops.Goals as goal

-- the loop goes on, so the drone is one of the drones
in_drones : (c : In-loop-v) → c.loop-v.d < c.args.drones
in_drones c = start-below c.args.counts.now _ _ c.loop-v.invariant.1 _ c.loop-v.v c.loop-v.invariant.2 (omega (arith, c.requires.owned, c.loop-v-test.true))

pub loop-v-init : goal.loop-v-init
unfolding fill_below
loop-v-init c = (search rules, sym (start_none _), search rules, refl, refl)

pub offset_bounds-counts-d : goal.offset_bounds-counts-d
offset_bounds-counts-d c = omega (arith, in_drones (goal.at.offset_bounds-counts-d c).In-loop-v)

pub bounds-counts-d : goal.bounds-counts-d
bounds-counts-d c = omega (arith, in_drones (goal.at.bounds-counts-d c).In-loop-v)

pub overflow_add-d : goal.overflow_add-d
overflow_add-d c = omega (arith, in_drones (goal.at.overflow_add-d c).In-loop-v)

pub loop-v-smaller-then-next-v : goal.loop-v-smaller-then-next-v
loop-v-smaller-then-next-v c = omega (arith, in_drones (goal.at.loop-v-smaller-then-next-v c).In-loop-v)

pub loop-v-preserved-then-next-v : goal.loop-v-preserved-then-next-v
loop-v-preserved-then-next-v c = (omega arith, rw c.from.ensures (start-turn _ _ _ c.loop-v.invariant.1), c.if-next-v.true, c.loop-v.invariant.3, c.loop-v.invariant.4)

pub overflow_cast-owners : goal.overflow_cast-owners
overflow_cast-owners c = omega (arith, in_drones (goal.at.overflow_cast-owners c).In-loop-v)

pub loop-v-preserved : goal.loop-v-preserved
loop-v-preserved c = (
  omega arith,
  c.loop-v.invariant.1,
  omega arith,
  fill_store _ _ _ _ c.loop-v.invariant.3 _ (cursor_owner _ _ _ c.loop-v.invariant.1 _ _ (in_drones (goal.at.loop-v-preserved c).In-loop-v) c.loop-v.invariant.2 (omega (arith, c.if-next-v.false, c.from.ensures))),
  fill_store _ _ _ _ c.loop-v.invariant.4 _ (cursor_number _ _ _ c.loop-v.invariant.1 _ _ (in_drones (goal.at.loop-v-preserved c).In-loop-v) c.loop-v.invariant.2 (omega (arith, c.if-next-v.false, c.from.ensures))),
)
