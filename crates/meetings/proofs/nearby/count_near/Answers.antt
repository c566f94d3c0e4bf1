-- The histogram holds the drones before that of w, and the total the meetings of the stops before w.
use mathlib.Core.Path.{◌∙◌}
use Prim.Native.Nat.{ℕ, ◌*◌}
use native.Mathlib.Omega.{arith}
use lib.ListN.{length-replicate}
use Rattle.below.specs.Below.{at}
use Rattle.below.proofs.Index.{zeros-at}
use Rattle.tables.specs.Limits.{limits, most_pairs}
use Rattle.near.specs.Near.{near}
use Rattle.plan.proofs.SharingLaws.{first_within, of_within}
use Rattle.meetings.proofs.Tallies.{tally_none, run_none, meetings_none, meetings_more, meetings_bound}
use Rattle.meetings.proofs.NearCounts.{ends_few, ends_indexed, ends_linked, near_meetings, row_bound}
use Rattle.meetings.proofs.nearby.count_near.Goals as goal

pub fill_nexts-requires : goal.fill_nexts-requires
fill_nexts-requires c = (omega (arith, ends_few c.requires.0), c.requires.4.has_firsts, omega (arith, length-replicate {A = ℕ} (2 * most_pairs) 0, ends_few c.requires.0), λ v l. omega (arith, c.requires.4.firsts v l, first_within (at c.args.pairs.now) v))

pub loop-w-init : goal.loop-w-init
loop-w-init c = (tally_none _ _ _ (length-replicate {A = ℕ} limits.stops 0) (zeros-at limits.stops), run_none _, meetings_none _ _ _)

pub settle-lo-requires : goal.settle-lo-requires
settle-lo-requires c = record { indexed = (ends_indexed {L = limits} c.requires.4 (omega (arith, ends_few c.requires.0)) c.requires.3, c.loop-w.invariant.0, c.loop-w.invariant.1, c.requires.1); w_lt_n = (c.loop-w-test.true, c.requires.2) }

pub near_row-total-requires : goal.near_row-total-requires
near_row-total-requires c = (ends_linked _ _ _ _ _ c.requires.4.firsts (omega (arith, length-replicate {A = ℕ} (2 * most_pairs) 0, ends_few c.requires.0)) c.fill_nexts.ensures, omega (arith, ends_few c.requires.0), omega (arith, c.from-head.ensures, c.requires.4.heads_are c.loop-w.w c.loop-w-test.true, of_within (at c.args.pairs.now) (2 * c.args.count) (at c.args.stops.now.locations.now c.loop-w.w)))

pub loop-w-preserved : goal.loop-w-preserved
loop-w-preserved c = (c.settle-lo.ensures.tally, c.settle-lo.ensures.run, meetings_more _ _ _ _ _ _ c.loop-w.invariant.2 (c.near_row-total.ensures _ (c.from-head.ensures ∙ c.requires.4.heads_are c.loop-w.w c.loop-w-test.true) ∙ near_meetings c.requires.0 (omega arith) (omega (arith, ends_few c.requires.0)) c.args.stops.now.owners.now c.args.stops.now.locations.now _ _ _ _ _ _ c.requires.4.firsts c.requires.4.heads_are c.settle-lo.ensures.tally c.settle-lo.ensures.run c.settle-lo.ensures.from c.loop-w-test.true))

pub overflow_add-total : goal.overflow_add-total
overflow_add-total c = omega (arith, row_bound _ _ _ _ (c.near_row-total.ensures _ (c.from-head.ensures ∙ c.requires.4.heads_are c.loop-w.w c.loop-w-test.true) ∙ near_meetings c.requires.0 (omega arith) (omega (arith, ends_few c.requires.0)) c.args.stops.now.owners.now c.args.stops.now.locations.now _ _ _ _ _ _ c.requires.4.firsts c.requires.4.heads_are c.settle-lo.ensures.tally c.settle-lo.ensures.run c.settle-lo.ensures.from c.loop-w-test.true), c.loop-w.invariant.2, meetings_bound (near c.args.pairs.now) (at c.args.stops.now.owners.now) (at c.args.stops.now.locations.now) c.loop-w.w limits.stops (omega (arith, c.loop-w-test.true, c.requires.3)), c.loop-w-test.true, c.requires.3)
