use mathlib.Core.Path.{refl, ◌∙◌}
use Rattle.std.proofs.Common.{arith, rules, tests}
use Rattle.std.proofs.lemmas.Iterator.{YieldsList-from_range}
use Rattle.std.proofs.lemmas.Iterator.Search.{all_from_yields_List}
use Rattle.below.specs.Below.{at}
use Rattle.below.proofs.Ranges.{all_over_range}
use Rattle.near.specs.Near.{meets_in}
use Rattle.meetings.specs.Meetings.{entry_right}
use Rattle.meetings.proofs.entries.are_right.Goals as goal

pub returns : goal.returns
returns c =
    let stops = c.args.stops.now in
    let right = entry_right (meets_in c.args.pairs.now) (at stops.owners.now) (at stops.locations.now) (at stops.times.now) stops.count (at c.args.firsts.now) (at c.args.seconds.now) in
    all_from_yields_List right _ _ _ c.all.ensures.ran (YieldsList-from_range 0 _ c.args.m refl (omega arith)) (λ x b q k. search (rules, tests))
    ∙ all_over_range right _
