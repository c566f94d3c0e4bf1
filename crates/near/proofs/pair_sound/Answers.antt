use native.Mathlib.Omega.{arith}
use Prim.Native.Nat.{◌-◌, ◌+◌, ◌*◌}
use Rattle.near.proofs.NearLaws.{pair_level, pair-zero, pair-after}
use Rattle.near.proofs.pair_sound.Goals as goal

pub returns-then-pairs-i : goal.returns-then-pairs-i
returns-then-pairs-i c = pair_level _ _ _ c.if-pairs-i.true

pub returns-then-i-eq0 : goal.returns-then-i-eq0
returns-then-i-eq0 c = pair-zero _ _ _ c.if-pairs-i.false (omega arith) c.if-i-eq0.true

pub returns : goal.returns
returns c = pair-after _ _ _ c.if-pairs-i.false (omega arith) _ _ c.if-i-eq0.false (omega (arith, c.type_inv.pairs (2 * (c.args.i - 1) + 1))) (omega arith) c.key_at.ensures c.key_at-2.ensures
