use mathlib.Core.Path.{◌∙◌}
use Rattle.below.proofs.Ranges.{same_over_first}
use Rattle.joining.specs.Joining.{same_pairs}
use Rattle.joining.proofs.tests.same_pairs.Goals as goal

pub returns : goal.returns
unfolding same_pairs
returns c = c.eq.ensures ∙ same_over_first _ _ _ c.requires.0 c.requires.1
