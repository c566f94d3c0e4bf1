use Prim.Native.Nat.{ℕ}
use native.Mathlib.Omega.{arith}
use lib.ListN.{length-replicate}
use Rattle.below.proofs.Index.{zeros-at}
use Rattle.plan.specs.Sharing.{slots}
use Rattle.plan.proofs.SharingLaws.{trees_none}
use Rattle.plan.proofs.sharing.fill_firsts.Goals as goal

pub fill_trees-requires : goal.fill_trees-requires
fill_trees-requires c = (c.requires.0, c.requires.1, omega arith, trees_none _ _ (length-replicate {A = ℕ} slots 0) (zeros-at slots))
