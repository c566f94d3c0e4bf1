use mathlib.Core.Path.{◌∙◌}
use lib.Dec.{leb}
use lib.ListN.{take}
use Rattle.std.proofs.Common.{rules, tests}
use Rattle.std.proofs.lemmas.Iterator.{YieldsList-from_slice}
use Rattle.std.proofs.lemmas.Iterator.Search.{all_from_yields_List}
use Rattle.below.proofs.Ranges.{all_over_first}
use Rattle.sound.proofs.counts.have_stops.Goals as goal

pub returns : goal.returns
returns c =
    all_from_yields_List (leb 1) _ _ _ c.all.ensures.ran (YieldsList-from_slice (take c.args.drones c.args.stop_counts.now) cc) (λ x b q k. search (rules, tests))
    ∙ all_over_first (leb 1) _ _ c.requires
