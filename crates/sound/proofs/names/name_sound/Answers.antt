use mathlib.Core.Path.{refl, ◌∙◌}
use Rattle.std.proofs.Common.{arith, rules, tests}
use Rattle.std.proofs.lemmas.Iterator.{YieldsList-from_range}
use Rattle.std.proofs.lemmas.Iterator.Search.{all_from_yields_List}
use Rattle.below.proofs.Ranges.{all_over_range}
use Prim.Native.Nat.{◌*◌}
use Rattle.tables.specs.Limits.{limits}
use Rattle.sound.proofs.Asking.{name_empty, byte_sound, name_bytes_lem}
use Rattle.sound.proofs.names.name_sound.Goals as goal

pub returns-then-used-lt1 : goal.returns-then-used-lt1
returns-then-used-lt1 c = name_empty _ _ _ _ c.name_length-used.ensures c.if-used-lt1.true

pub returns : goal.returns
returns c =
    let test = byte_sound limits c.args.names.now c.args.d (c.args.d * limits.name) refl c.name_length-used.result in
    all_from_yields_List test _ _ _ c.all.ensures.ran (YieldsList-from_range 0 _ limits.name refl (omega arith)) (λ x b q k. search (rules, tests))
    ∙ all_over_range test _
    ∙ name_bytes_lem _ _ _ _ refl _ c.name_length-used.ensures c.if-used-lt1.false
