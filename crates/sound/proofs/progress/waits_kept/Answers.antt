use mathlib.Core.Path.{refl, ◌∙◌}
use Rattle.std.proofs.Common.{arith, rules, tests}
use Rattle.std.proofs.lemmas.Iterator.{YieldsList-from_range}
use Rattle.std.proofs.lemmas.Iterator.Search.{all_from_yields_List}
use Rattle.below.proofs.Ranges.{all_over_range}
use Rattle.sound.specs.Parts.{kept_at}
use Rattle.sound.proofs.progress.waits_kept.Goals as goal

pub returns : goal.returns
returns c =
    let test = kept_at c.args.visited.now c.args.drone_flags.now c.args.sides.now.first_drones.now c.args.sides.now.first_stops.now c.args.sides.now.second_drones.now c.args.sides.now.second_stops.now c.args.flags.now in
    all_from_yields_List test _ _ _ c.all.ensures.ran (YieldsList-from_range 0 _ _ refl (omega arith)) (λ x b q k. search (rules, tests))
    ∙ all_over_range test _
