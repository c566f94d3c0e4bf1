use mathlib.Core.Bool.{Bool, not}
use Prim.Native.Nat.{ℕ}
use mathlib.Core.Path.{◌∙◌}
use Rattle.std.proofs.Common.{rules, tests}
use Rattle.std.proofs.lemmas.Iterator.{YieldsList-from_slice}
use Rattle.std.proofs.lemmas.Iterator.Search.{all_from_yields_List}
use Rattle.below.proofs.Ranges.{all_over_first}
use Rattle.tables.specs.Flags.{turned_bit}
use Rattle.joining.proofs.tests.none_turned.Goals as goal

pub returns : goal.returns
returns c =
    let unturned : ℕ → Bool = λ f. not (turned_bit f) in
    all_from_yields_List unturned _ _ _ c.all.ensures.ran (YieldsList-from_slice _ cc) (λ x b q k. search (rules, tests))
    ∙ all_over_first unturned _ _ c.requires
