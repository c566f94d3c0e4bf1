use mathlib.Core.Path.{refl, ◌∙◌}
use Rattle.std.proofs.Common.{arith, rules, tests}
use Rattle.std.proofs.lemmas.Iterator.{YieldsList-from_range}
use Rattle.std.proofs.lemmas.Iterator.Search.{all_from_yields_List}
use Rattle.below.proofs.Ranges.{all_over_range}
use Rattle.tables.specs.Limits.{limits}
use Rattle.sound.specs.Sound.{name_sound}
use Rattle.sound.proofs.names.are_names.Goals as goal

pub returns : goal.returns
returns c =
    let test = name_sound limits c.args.names.now in
    all_from_yields_List test _ _ _ c.all.ensures.ran (YieldsList-from_range 0 _ _ refl (omega arith)) (λ x b q k. search (rules, tests))
    ∙ all_over_range test _
