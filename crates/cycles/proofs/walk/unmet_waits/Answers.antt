use Prim.Native.Nat.{ℕ}
use mathlib.Core.Path.{refl}
use native.Mathlib.Omega.{arith}
use lib.ListN.{length-replicate}
use Rattle.below.proofs.Index.{zeros-at}
use Rattle.tables.specs.Limits.{limits}
use Rattle.cycles.proofs.NeedLaws.{counted_none, counted_le, counted-more}
use Rattle.cycles.proofs.walk.unmet_waits.Goals as goal

pub loop-k-init : goal.loop-k-init
loop-k-init c = (omega arith, counted_none _ _ _ _ (length-replicate {A = ℕ} limits.stops 0) (zeros-at limits.stops))

pub overflow_add-need : goal.overflow_add-need
overflow_add-need c = omega (arith, c.unmet_one.ensures.1, counted_le _ _ _ c.loop-k.invariant.1 c.from-v.result (omega (arith, c.from-v.ensures, (c.requires.1 c.loop-k.k (omega arith)).into_small)))

pub loop-k-preserved : goal.loop-k-preserved
loop-k-preserved c = (omega arith, counted-more _ _ _ _ _ _ _ _ c.loop-k.invariant.1 c.from-v.ensures (omega (arith, c.from-v.ensures, (c.requires.1 c.loop-k.k (omega arith)).into_small)) c.unmet_one.ensures.0 refl)
