use Prim.Native.Nat.{ℕ}
use lib.ListN.{length-replicate}
use Rattle.below.proofs.Index.{zeros-at}
use mathlib.Core.Path.{ap}
use native.Mathlib.Omega.{arith}
use Rattle.below.specs.Below.{at}
use Rattle.tables.specs.Limits.{limits}
use Rattle.plan.specs.Visits.{same_location}
use Rattle.meetings.proofs.Tallies.{tally_none, run_none, run_meetings, meetings_none, meetings_more, meetings_bound, tally_bound}
use Rattle.meetings.proofs.histogram.count_meetings.Goals as goal

pub loop-w-init : goal.loop-w-init
loop-w-init c = (tally_none _ _ _ (length-replicate {A = ℕ} limits.stops 0) (zeros-at limits.stops), run_none _, meetings_none _ _ _)

pub loop-w-preserved : goal.loop-w-preserved
loop-w-preserved c = (c.settle-lo.ensures.tally, c.settle-lo.ensures.run, rw (c.from-total.ensures, c.from-f.ensures) (meetings_more _ _ _ _ _ _ c.loop-w.invariant.2 (run_meetings c.args.owners.now c.args.firsts.now _ _ _ _ c.requires.0 c.settle-lo.ensures.run c.settle-lo.ensures.from c.settle-lo.ensures.tally (omega arith))))

pub overflow_add-total : goal.overflow_add-total
overflow_add-total c = omega (arith, c.from-total.ensures, ap (at c.settle-lo.new.counts) c.from-f.ensures, tally_bound _ _ _ _ c.loop-w.w c.requires.0 c.settle-lo.ensures.tally (omega arith), c.settle-lo.ensures.from, c.requires.0.few, c.loop-w.invariant.2, meetings_bound same_location (at c.args.owners.now) (at c.args.firsts.now) c.loop-w.w limits.stops (omega (arith, c.requires.0.few)))
