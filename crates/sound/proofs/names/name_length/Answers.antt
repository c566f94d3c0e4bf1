use mathlib.Core.Path.{◌≡◌, refl, ◌∙◌}
use mathlib.Core.List.{List}
use Prim.Native.Nat.{ℕ, ◌+◌, ◌-◌, ◌*◌}
use native.Mathlib.Omega.{arith}
use lib.Dec.{eqb}
use lib.ListN.{length, take, drop}
use lib.Seq.{get_or-take, get_or-drop, length-take-le}
use Rattle.std.proofs.Common.{rules, tests, length-drop}
use Rattle.std.proofs.lemmas.Iterator.{YieldsList-from_slice}
use Rattle.std.proofs.lemmas.Iterator.Search.{position_from_yields_List}
use Rattle.below.specs.Below.{at}
use Rattle.below.proofs.Search.{first_below_ext}
use Rattle.tables.specs.Limits.{limits}
use Rattle.sound.proofs.Asking.{length_is}
use Rattle.sound.proofs.FirstZero.{place_or}
use Rattle.sound.proofs.names.name_length.Goals as goal

pub returns : goal.returns
returns c =
    let names = c.args.names.now in
    let row = c.args.d * limits.name in
    let bytes : List ℕ = take limits.name (drop row names) in
    let n : row + limits.name - row ≡ limits.name = omega arith in
    let size : length bytes ≡ limits.name = length-take-le limits.name (drop row names) (omega (arith, length-drop row names)) in
    let p = position_from_yields_List (λ b. eqb b 0) _ _ c.position.result c.position.ensures.ran (YieldsList-from_slice (take (row + limits.name - row) (drop row names)) cc) (λ x b q k. search (rules, tests)) in
    c.unwrap_or.ensures ∙ rw (p, n) (
    place_or (λ b. eqb b 0) bytes limits.name size
    ∙ first_below_ext limits.name (λ i. eqb (at bytes i) 0) (λ i. eqb (at names (row + i)) 0) (λ i l. rw (get_or-take limits.name (drop row names) i 0 l, get_or-drop row names i 0) refl)
    ∙ length_is limits names c.args.d row refl
    )
