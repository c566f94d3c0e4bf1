-- The small forms that are left, written from here on, give what all of them give from the start.
use native.Mathlib.Omega.{arith}
use mathlib.Core.Path.{◌≡◌, sym, ◌∙◌}
use lib.ListN.{length}
use Rattle.lines.proofs.Letters.{small-length, small_done, small-step}
use Rattle.lines.proofs.names.put_small.Goals as goal

pub loop-i-preserved : goal.loop-i-preserved
loop-i-preserved c = let l = c.loop-i in
    let p = c.put_byte in
    rw p.ensures.written (sym (small-step _ _ _ _ _ c.loop-i-test.true c.small_byte.ensures) ∙ l.invariant)

pub returns : goal.returns
returns c = let l = c.loop-i in
    let e : l.i ≡ length c.args.name.now = omega arith in
    record { next_is = rw small-length; written = sym (small_done _ _ _ _ e) ∙ l.invariant }
