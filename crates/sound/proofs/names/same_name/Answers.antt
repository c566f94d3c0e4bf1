use mathlib.Core.Path.{◌≡◌, refl, ap, ◌∙◌}
use Prim.Native.Nat.{ℕ, ◌+◌, ◌-◌, ◌*◌}
use native.Mathlib.Omega.{arith}
use lib.Dec.{eqb}
use lib.ListN.{drop}
use lib.Seq.{get_or-drop}
use Rattle.std.proofs.Common.{length-drop}
use Rattle.below.specs.Below.{at}
use Rattle.below.proofs.Every.{all_below_ext}
use Rattle.below.proofs.Ranges.{same_over_first}
use Rattle.tables.specs.Limits.{limits}
use Rattle.sound.proofs.Asking.{same_is}
use Rattle.sound.proofs.names.same_name.Goals as goal

pub returns : goal.returns
returns c =
    let names = c.args.names.now in
    let row = c.args.d * limits.name in
    let other = c.args.e * limits.name in
    let here : row + limits.name - row ≡ limits.name = omega arith in
    let there : other + limits.name - other ≡ limits.name = omega arith in
    (rw (here, there) at c.eq.ensures)
    ∙ same_over_first limits.name (drop row names) (drop other names) (omega (arith, length-drop row names)) (omega (arith, length-drop other names))
    ∙ all_below_ext limits.name _ (λ i. eqb (at names (row + i)) (at names (other + i))) (λ i l. ap (eqb (at (drop row names) i)) (get_or-drop other names i 0) ∙ ap (λ (x : ℕ). eqb x (at names (other + i))) (get_or-drop row names i 0))
    ∙ same_is limits names c.args.d row refl c.args.e other refl
