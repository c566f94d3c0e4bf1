use mathlib.Core.Path.{refl, ◌∙◌}
use mathlib.Core.List.{[]}
use Rattle.std.proofs.Common.{arith, rules, tests}
use Rattle.std.proofs.lemmas.Iterator.{YieldsList-from_range}
use Rattle.std.proofs.lemmas.Iterator.Search.{all_from_yields_List}
use Rattle.below.specs.Below.{at}
use Rattle.below.proofs.Ranges.{all_over_range}
use Rattle.tables.specs.Limits.{limits}
use Rattle.plan.specs.Visits.{same_location, visits_of}
use Rattle.sound.specs.Parts.{stop_sound}
use Rattle.sound.proofs.Asking.{stops_any}
use Rattle.sound.proofs.single.stops_sound.Goals as goal

pub returns : goal.returns
returns c = λ meets owners.
    let test = stop_sound limits c.args.form (visits_of same_location [] c.args.numbers.now c.args.plan.now.locations.now c.args.plan.now.times.now c.args.n) (at c.args.plan.now.legs.now) in
    all_from_yields_List test _ _ _ c.all.ensures.ran (YieldsList-from_range 0 _ _ refl (omega arith)) (λ x b q k. search (rules, tests))
    ∙ all_over_range test _
    ∙ stops_any _ _ _ _ _ _ _
