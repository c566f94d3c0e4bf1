use mathlib.Core.Path.{refl, ap, ◌∙◌}
use Rattle.std.proofs.Common.{arith, rules, tests}
use Rattle.std.proofs.lemmas.Iterator.{YieldsList-from_range}
use Rattle.std.proofs.lemmas.Iterator.Search.{all_from_yields_List}
use Rattle.below.specs.Below.{all_below}
use Rattle.below.proofs.Ranges.{all_over_range}
use Rattle.tables.specs.Limits.{limits}
use Rattle.near.specs.Near.{pair_sound, pairs_sound}
use Rattle.near.proofs.pairs_sound.Goals as goal

pub returns : goal.returns
unfolding pairs_sound
returns c =
    let sound = pair_sound limits c.args.pairs.now in
    all_from_yields_List sound _ _ _ c.all.ensures.ran (YieldsList-from_range 0 _ c.pair_count.result refl (omega arith)) (λ x b q k. search (rules, tests))
    ∙ all_over_range sound _
    ∙ ap (λ n. all_below n sound) c.pair_count.ensures.0
