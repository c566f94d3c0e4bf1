use mathlib.Core.Path.{refl, sym, ◌∙◌}
use native.Mathlib.Omega.{arith}
use Prim.Native.Nat.{◌*◌, ◌+◌}
use Rattle.tables.specs.Limits.{limits}
use Rattle.sound.proofs.Asking.{key_is, sum-start, sum_more, sum_end}
use Rattle.sound.proofs.names.name_key.Goals as goal

pub loop-i-init : goal.loop-i-init
loop-i-init c = (refl, omega arith, omega arith, sym (sum-start _))

pub loop-i-preserved : goal.loop-i-preserved
loop-i-preserved c = (c.loop-i.invariant.0, omega arith, omega (arith, c.loop-i.invariant.2, c.from-key.ensures, c.type_inv.names (c.args.d * limits.name + c.loop-i.i)), sum_more _ _ _ _ c.loop-i.invariant.3 c.from-key.ensures)

pub returns : goal.returns
returns c = sum_end _ _ _ (omega arith) (omega arith) c.loop-i.invariant.3 ∙ key_is _ _ _ _ c.loop-i.invariant.0
