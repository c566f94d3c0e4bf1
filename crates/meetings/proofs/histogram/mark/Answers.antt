use mathlib.Core.Path.{ap, ◌∙◌}
use Prim.Native.Nat.{◌+◌}
use native.Mathlib.Omega.{arith}
use Rattle.below.specs.Below.{at}
use Rattle.meetings.proofs.Tallies.{tally_on, tally_bound, part_at}
use Rattle.meetings.proofs.histogram.mark.Goals as goal

pub overflow_add-counts : goal.overflow_add-counts
overflow_add-counts c =
    let (l, e) = part_at c.args.firsts.now c.args.lo c.args.hi c.loop-f.f-index (omega (arith, c.requires.0.has_firsts)) c.loop-f-test.true in
    omega (arith, ap (at c.loop-f.counts) (c.from.ensures ∙ e), tally_bound _ _ _ _ (c.args.lo + c.loop-f.f-index) c.requires.0 c.loop-f.invariant (omega arith), c.requires.0.few)

pub loop-f-preserved : goal.loop-f-preserved
loop-f-preserved c =
    let (l, e) = part_at c.args.firsts.now c.args.lo c.args.hi c.loop-f.f-index (omega (arith, c.requires.0.has_firsts)) c.loop-f-test.true in
    tally_on _ _ _ _ _ _ c.loop-f.invariant (omega arith) (c.from.ensures ∙ e)
