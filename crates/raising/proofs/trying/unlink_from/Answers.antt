use Prim.Native.Nat.{◌+◌, ◌-◌}
use mathlib.Core.Path.{◌≡◌, sym}
use native.Mathlib.Omega.{arith}
use Rattle.raising.proofs.trying.unlink_from.Goals as goal

pub unlink_last-requires : goal.unlink_last-requires
unlink_last-requires c = let e : c.loop-k.k - 1 + 1 ≡ c.loop-k.k = omega arith in (omega (arith, c.loop-k.invariant.1, c.requires.1), c.requires.2 (c.loop-k.k - 1) (omega (arith, c.loop-k.invariant.1)), rw e c.loop-k.invariant.2)

pub loop-k-preserved : goal.loop-k-preserved
loop-k-preserved c = (omega arith, omega (arith, c.loop-k.invariant.1), c.unlink_last.ensures)

pub returns : goal.returns
returns c = let e : c.loop-k.k ≡ c.args.m = omega (arith, c.loop-k.invariant.0) in rw (sym e) c.loop-k.invariant.2
