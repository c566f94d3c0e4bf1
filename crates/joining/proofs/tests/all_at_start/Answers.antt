use mathlib.Core.Path.{refl, ◌∙◌}
use Rattle.std.proofs.Common.{arith, rules, tests}
use Rattle.std.proofs.lemmas.Iterator.{YieldsList-from_range}
use Rattle.std.proofs.lemmas.Iterator.Search.{all_from_yields_List}
use Rattle.below.proofs.Ranges.{all_over_range}
use Rattle.joining.proofs.Cases.{home}
use Rattle.joining.proofs.tests.all_at_start.Goals as goal

pub returns : goal.returns
returns c =
    let home = home c.args.visited.now c.args.drone_flags.now in
    all_from_yields_List home _ _ _ c.all.ensures.ran (YieldsList-from_range 0 _ c.args.drones refl (omega arith)) (λ x b q k. search (rules, tests))
    ∙ all_over_range home _
