use mathlib.Core.Path.{refl, ◌∙◌}
use Rattle.std.proofs.Common.{arith, rules, tests}
use Rattle.std.proofs.lemmas.Iterator.{YieldsList-from_range}
use Rattle.std.proofs.lemmas.Iterator.Search.{all_from_yields_List}
use Rattle.below.proofs.Ranges.{all_over_range}
use Prim.Native.Nat.{ℕ}
use mathlib.Core.Bool.{not}
use Rattle.tables.specs.Limits.{limits}
use Rattle.below.specs.Below.{all_below}
use Rattle.sound.specs.Sound.{same_name}
use Rattle.sound.proofs.Asking.{differ_is}
use Rattle.sound.proofs.names.are_new.Goals as goal

pub returns : goal.returns
returns c =
    let test = λ (d : ℕ). all_below d (λ e. not (same_name limits c.args.names.now d e)) in
    all_from_yields_List test _ _ _ c.all.ensures.ran (YieldsList-from_range 0 _ _ refl (omega arith)) (λ x b q k. search (rules, tests))
    ∙ all_over_range test _
    ∙ differ_is limits c.args.names.now _
