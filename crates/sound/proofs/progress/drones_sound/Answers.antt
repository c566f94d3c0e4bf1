use mathlib.Core.Path.{refl, ◌∙◌}
use Rattle.std.proofs.Common.{arith, rules, tests}
use Rattle.std.proofs.lemmas.Iterator.{YieldsList-from_range}
use Rattle.std.proofs.lemmas.Iterator.Search.{all_from_yields_List}
use Rattle.below.proofs.Ranges.{all_over_range}
use Prim.Native.Nat.{ℕ, ◌-◌}
use Rattle.below.specs.Below.{at}
use Rattle.sound.specs.Parts.{drone_sound}
use Rattle.sound.proofs.progress.drones_sound.Goals as goal

pub returns : goal.returns
returns c =
    let test = λ (d : ℕ). drone_sound (at c.args.stop_counts.now d - 1) (at c.args.visited.now d) (at c.args.drone_flags.now d) in
    all_from_yields_List test _ _ _ c.all.ensures.ran (YieldsList-from_range 0 _ _ refl (omega arith)) (λ x b q k. search (rules, tests))
    ∙ all_over_range test _
