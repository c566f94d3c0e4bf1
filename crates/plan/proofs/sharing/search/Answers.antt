-- The search of the location l has come to the slot.
use Prim.Native.Nat.{◌-◌}
use native.Mathlib.Omega.{arith}
use Rattle.plan.proofs.SharingLaws.{searching_start, searching_node, searching_more, searching_found, searching_end}
use Rattle.plan.proofs.sharing.search.Goals as goal

pub loop-slot-init : goal.loop-slot-init
loop-slot-init c = searching_start _ _ _ _ c.requires.0 _ _ c.from-location.ensures c.root-slot.ensures.0

pub returns-then-locations-u : goal.returns-then-locations-u
returns-then-locations-u c = searching_found _ _ _ _ c.requires.0 _ _ (c.from-u.result - 1) c.loop-slot.invariant (omega (arith, c.from-u.ensures, c.loop-slot-test.true)) c.if-locations-u.true

pub loop-slot-preserved : goal.loop-slot-preserved
loop-slot-preserved c = searching_more _ _ _ _ c.requires.0 _ _ (c.from-u.result - 1) c.loop-slot.invariant (omega (arith, c.from-u.ensures, c.loop-slot-test.true)) c.if-locations-u.false

pub returns : goal.returns
returns c = searching_end _ _ _ _ c.requires.0 _ _ c.loop-slot.invariant c.loop-slot-test.false

pub bounds-locations-u : goal.bounds-locations-u
bounds-locations-u c = omega (arith, (searching_node _ _ _ _ c.requires.0 _ _ (c.from-u.result - 1) c.loop-slot.invariant (omega (arith, c.from-u.ensures, c.loop-slot-test.true))).known, c.requires.1, c.requires.2)
