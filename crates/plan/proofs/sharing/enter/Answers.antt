use mathlib.Core.Path.{refl}
use Rattle.plan.proofs.SharingLaws.{entered_found, entered_new}
use Rattle.plan.proofs.sharing.enter.Goals as goal

pub returns-in-Ok : goal.returns-in-Ok
returns-in-Ok c = entered_found _ _ _ c.requires.0 _ c.in-Ok.ensures

pub returns-in-Err : goal.returns-in-Err
returns-in-Err c = entered_new _ _ _ c.requires.0 _ _ c.in-Err.ensures refl c.requires.2
