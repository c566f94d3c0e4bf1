use mathlib.Core.Path.{refl, ◌∙◌}
use native.Mathlib.Omega.{arith}
use Prim.Native.Nat.{ℕ, ◌+◌}
use lib.Dec.{leb}
use Rattle.std.proofs.Common.{rules, tests}
use Rattle.std.proofs.lemmas.Iterator.{YieldsList-from_range}
use Rattle.std.proofs.lemmas.Iterator.Search.{all_from_yields_List}
use Rattle.below.specs.Below.{at}
use Rattle.below.proofs.Ranges.{all_over_range}
use Rattle.cycles.proofs.walk.all_last.Goals as goal

pub returns : goal.returns
returns c =
    let last = λ (d : ℕ). leb (at c.args.stops.now.starts.now d + at c.args.stops.now.lasts.now d) (at c.args.cur.now d) in
    all_from_yields_List last _ _ _ c.all.ensures.ran (YieldsList-from_range 0 _ _ refl (omega arith)) (λ x b q k. search (rules, tests))
    ∙ all_over_range last _
