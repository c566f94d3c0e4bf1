use mathlib.Core.Path.{◌∙◌}
use Rattle.sound.proofs.Asking.{records_all}
use Rattle.sound.proofs.records.records_sound.Goals as goal

pub returns : goal.returns
returns c = c.are_right.ensures ∙ records_all _ _ _ _ _ _ _ _ _
