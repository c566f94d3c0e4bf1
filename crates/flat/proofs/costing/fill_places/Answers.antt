-- The places of the first d drones are filled. Assumes nothing.
use native.Mathlib.Omega.{arith}
use Rattle.below.proofs.Fill.{fill_store, fill_end}
use Rattle.sound.proofs.Asking.{fill_none}
use Rattle.flat.proofs.PlacesLaws.{stands, standing}
use Rattle.flat.proofs.costing.fill_places.Goals as goal

pub loop-d-init : goal.loop-d-init
loop-d-init c = fill_none _ _

pub loop-d-preserved : goal.loop-d-preserved
loop-d-preserved c = fill_store _ _ _ _ c.loop-d.invariant _ (stands _ _ _ _ _ _ c.is_withdrawn-withdrawn.ensures c.pick16.ensures)

pub returns : goal.returns
returns c = standing _ _ _ _ _ _ _ (fill_end _ _ _ _ c.loop-d.invariant _ (omega arith) (omega arith)) c.requires.3 c.requires.2
