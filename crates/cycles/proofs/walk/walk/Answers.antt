use Prim.Native.Nat.{ℕ}
use mathlib.Core.Path.{refl}
use native.Mathlib.Omega.{arith}
use lib.ListN.{length-replicate}
use Rattle.below.specs.Below.{at}
use Rattle.below.proofs.Index.{zeros-at}
use Rattle.tables.specs.Limits.{limits}
use Rattle.cycles.proofs.Fits.{left-fits}
use Rattle.cycles.proofs.StackLaws.{stacked_few}
use Rattle.cycles.proofs.WalkLaws.{walking_start, walking_end}
use Rattle.cycles.proofs.StepLaws.{advance_next, advance_stop, advance_left, advance_meeting, waiter_in, waiter_drone, waiter_needs, waiter_room, meeting_more, meeting_end, meeting_falls}
use Rattle.cycles.proofs.walk.walk.Goals as goal

pub link-requires-clause-head_len : goal.link-requires-clause-head_len
link-requires-clause-head_len c = (length-replicate {A = ℕ} limits.stops 0, length-replicate {A = ℕ} limits.dependencies 0, zeros-at limits.stops)

pub loop-top-init : goal.loop-top-init
loop-top-init c = walking_start _ c.requires.flat_tables.0.placed c.requires.flat_tables.1 (record { size = c.unmet_waits-need.ensures.0; counted = λ v l. c.unmet_waits-need.ensures.1 v (omega (arith, c.requires.flat_tables.0.few_stops)) }) c.stack_movers-top.ensures c.requires.table_len.0 c.requires.table_len.1 (omega (arith, left-fits _ _ _ _ _ c.requires.flat_tables.0.placed.shape (at c.args.cur.now) c.requires.flat_tables.1.low limits.stops c.requires.flat_tables.0.few_stops))

pub bounds-stack-top : goal.bounds-stack-top
bounds-stack-top c = omega (arith, c.requires.flat_tables.0.few_drones, c.loop-top.invariant.stacked.size, stacked_few _ c.loop-top.invariant.stacked (omega arith))

pub advance-v-requires-clause-d_bound : goal.advance-v-requires-clause-d_bound
advance-v-requires-clause-d_bound c = (omega (arith, c.requires.flat_tables.0.few_stops, advance_next _ c.requires.flat_tables.0.placed c.requires.flat_tables.0.few_stops c.requires.flat_tables.0.few_drones c.requires.table_len.3 c.loop-top.invariant (omega arith) _ c.from-d.ensures), omega (arith, c.requires.table_len.2, advance_next _ c.requires.flat_tables.0.placed c.requires.flat_tables.0.few_stops c.requires.flat_tables.0.few_drones c.requires.table_len.3 c.loop-top.invariant (omega arith) _ c.from-d.ensures), λ v. omega (arith, c.loop-top.invariant.entries.small v))

pub bounds-head-v : goal.bounds-head-v
bounds-head-v c = omega (arith, c.requires.flat_tables.0.few_stops, advance_stop _ c.requires.flat_tables.0.placed c.requires.flat_tables.0.few_stops c.requires.flat_tables.0.few_drones c.requires.table_len.3 c.loop-top.invariant (omega arith) _ c.from-d.ensures c.advance-v.ensures _ c.top_after-top.ensures, c.link.ensures.head_size)

pub loop-top-smaller : goal.loop-top-smaller
loop-top-smaller c = advance_left _ c.requires.flat_tables.0.placed c.requires.flat_tables.0.few_stops c.requires.flat_tables.0.few_drones c.requires.table_len.3 c.loop-top.invariant (omega arith) _ c.from-d.ensures c.advance-v.ensures _ c.top_after-top.ensures

pub loop-top-preserved : goal.loop-top-preserved
loop-top-preserved c = meeting_end _ c.requires.flat_tables.0.placed c.requires.flat_tables.0.few_stops c.requires.flat_tables.0.few_drones (omega arith) (c.loop-wait.invariant _ (advance_meeting _ c.requires.flat_tables.0.placed c.requires.flat_tables.0.few_stops c.requires.flat_tables.0.few_drones c.requires.table_len.3 c.loop-top.invariant (omega arith) _ c.from-d.ensures c.advance-v.ensures _ c.top_after-top.ensures _ _ c.link.ensures _ c.from-wait.ensures))

pub offset_bounds-waits-wait : goal.offset_bounds-waits-wait
offset_bounds-waits-wait c = omega (arith, c.requires.flat_tables.0.few_waits, (c.loop-wait.invariant _ (advance_meeting _ c.requires.flat_tables.0.placed c.requires.flat_tables.0.few_stops c.requires.flat_tables.0.few_drones c.requires.table_len.3 c.loop-top.invariant (omega arith) _ c.from-d.ensures c.advance-v.ensures _ c.top_after-top.ensures _ _ c.link.ensures _ c.from-wait.ensures)).within)

pub bounds-waits-wait : goal.bounds-waits-wait
bounds-waits-wait c = omega (arith, c.requires.flat_tables.0.few_waits, (c.loop-wait.invariant _ (advance_meeting _ c.requires.flat_tables.0.placed c.requires.flat_tables.0.few_stops c.requires.flat_tables.0.few_drones c.requires.table_len.3 c.loop-top.invariant (omega arith) _ c.from-d.ensures c.advance-v.ensures _ c.top_after-top.ensures _ _ c.link.ensures _ c.from-wait.ensures)).within)

pub bounds-table-v : goal.bounds-table-v
bounds-table-v c = omega (arith, c.requires.flat_tables.0.few_stops, (c.loop-wait.invariant _ (advance_meeting _ c.requires.flat_tables.0.placed c.requires.flat_tables.0.few_stops c.requires.flat_tables.0.few_drones c.requires.table_len.3 c.loop-top.invariant (omega arith) _ c.from-d.ensures c.advance-v.ensures _ c.top_after-top.ensures _ _ c.link.ensures _ c.from-wait.ensures)).stop_in, (c.loop-wait.invariant _ (advance_meeting _ c.requires.flat_tables.0.placed c.requires.flat_tables.0.few_stops c.requires.flat_tables.0.few_drones c.requires.table_len.3 c.loop-top.invariant (omega arith) _ c.from-d.ensures c.advance-v.ensures _ c.top_after-top.ensures _ _ c.link.ensures _ c.from-wait.ensures)).walking.entries.size)

pub meet-top-requires : goal.meet-top-requires
meet-top-requires c = record { w_lt_stops = (omega (arith, c.requires.flat_tables.0.few_stops, waiter_in _ c.requires.flat_tables.0.placed c.requires.flat_tables.0.few_stops c.requires.flat_tables.0.few_drones (c.loop-wait.invariant _ (advance_meeting _ c.requires.flat_tables.0.placed c.requires.flat_tables.0.few_stops c.requires.flat_tables.0.few_drones c.requires.table_len.3 c.loop-top.invariant (omega arith) _ c.from-d.ensures c.advance-v.ensures _ c.top_after-top.ensures _ _ c.link.ensures _ c.from-wait.ensures)) (λ e. omega arith) c.from-w.result c.from-w.ensures), omega (arith, c.requires.flat_tables.0.has_owners, waiter_in _ c.requires.flat_tables.0.placed c.requires.flat_tables.0.few_stops c.requires.flat_tables.0.few_drones (c.loop-wait.invariant _ (advance_meeting _ c.requires.flat_tables.0.placed c.requires.flat_tables.0.few_stops c.requires.flat_tables.0.few_drones c.requires.table_len.3 c.loop-top.invariant (omega arith) _ c.from-d.ensures c.advance-v.ensures _ c.top_after-top.ensures _ _ c.link.ensures _ c.from-wait.ensures)) (λ e. omega arith) c.from-w.result c.from-w.ensures), omega (arith, c.requires.flat_tables.0.few_drones, waiter_drone _ c.requires.flat_tables.0.placed c.requires.flat_tables.0.few_stops c.requires.flat_tables.0.few_drones (c.loop-wait.invariant _ (advance_meeting _ c.requires.flat_tables.0.placed c.requires.flat_tables.0.few_stops c.requires.flat_tables.0.few_drones c.requires.table_len.3 c.loop-top.invariant (omega arith) _ c.from-d.ensures c.advance-v.ensures _ c.top_after-top.ensures _ _ c.link.ensures _ c.from-wait.ensures)) (λ e. omega arith) c.from-w.result c.from-w.ensures), waiter_needs _ c.requires.flat_tables.0.placed c.requires.flat_tables.0.few_stops c.requires.flat_tables.0.few_drones (c.loop-wait.invariant _ (advance_meeting _ c.requires.flat_tables.0.placed c.requires.flat_tables.0.few_stops c.requires.flat_tables.0.few_drones c.requires.table_len.3 c.loop-top.invariant (omega arith) _ c.from-d.ensures c.advance-v.ensures _ c.top_after-top.ensures _ _ c.link.ensures _ c.from-wait.ensures)) (λ e. omega arith) c.from-w.result c.from-w.ensures, waiter_room _ c.requires.flat_tables.0.placed c.requires.flat_tables.0.few_stops c.requires.flat_tables.0.few_drones (c.loop-wait.invariant _ (advance_meeting _ c.requires.flat_tables.0.placed c.requires.flat_tables.0.few_stops c.requires.flat_tables.0.few_drones c.requires.table_len.3 c.loop-top.invariant (omega arith) _ c.from-d.ensures c.advance-v.ensures _ c.top_after-top.ensures _ _ c.link.ensures _ c.from-wait.ensures)) (λ e. omega arith) c.from-w.result c.from-w.ensures _ refl); need_len = ((c.loop-wait.invariant _ (advance_meeting _ c.requires.flat_tables.0.placed c.requires.flat_tables.0.few_stops c.requires.flat_tables.0.few_drones c.requires.table_len.3 c.loop-top.invariant (omega arith) _ c.from-d.ensures c.advance-v.ensures _ c.top_after-top.ensures _ _ c.link.ensures _ c.from-wait.ensures)).walking.needs.size, (c.loop-wait.invariant _ (advance_meeting _ c.requires.flat_tables.0.placed c.requires.flat_tables.0.few_stops c.requires.flat_tables.0.few_drones c.requires.table_len.3 c.loop-top.invariant (omega arith) _ c.from-d.ensures c.advance-v.ensures _ c.top_after-top.ensures _ _ c.link.ensures _ c.from-wait.ensures)).walking.stacked.size, (c.loop-wait.invariant _ (advance_meeting _ c.requires.flat_tables.0.placed c.requires.flat_tables.0.few_stops c.requires.flat_tables.0.few_drones c.requires.table_len.3 c.loop-top.invariant (omega arith) _ c.from-d.ensures c.advance-v.ensures _ c.top_after-top.ensures _ _ c.link.ensures _ c.from-wait.ensures)).walking.entries.size) }

pub offset_bounds-next-wait : goal.offset_bounds-next-wait
offset_bounds-next-wait c = omega (arith, c.requires.flat_tables.0.few_waits, (c.loop-wait.invariant _ (advance_meeting _ c.requires.flat_tables.0.placed c.requires.flat_tables.0.few_stops c.requires.flat_tables.0.few_drones c.requires.table_len.3 c.loop-top.invariant (omega arith) _ c.from-d.ensures c.advance-v.ensures _ c.top_after-top.ensures _ _ c.link.ensures _ c.from-wait.ensures)).within)

pub bounds-next-wait : goal.bounds-next-wait
bounds-next-wait c = omega (arith, c.requires.flat_tables.0.few_waits, (c.loop-wait.invariant _ (advance_meeting _ c.requires.flat_tables.0.placed c.requires.flat_tables.0.few_stops c.requires.flat_tables.0.few_drones c.requires.table_len.3 c.loop-top.invariant (omega arith) _ c.from-d.ensures c.advance-v.ensures _ c.top_after-top.ensures _ _ c.link.ensures _ c.from-wait.ensures)).within, c.link.ensures.next_size)

pub loop-wait-smaller : goal.loop-wait-smaller
loop-wait-smaller c = omega (arith, c.from-wait-in-loop-wait.ensures, meeting_falls _ c.requires.flat_tables.0.placed c.requires.flat_tables.0.few_stops c.requires.flat_tables.0.few_drones (c.loop-wait.invariant _ (advance_meeting _ c.requires.flat_tables.0.placed c.requires.flat_tables.0.few_stops c.requires.flat_tables.0.few_drones c.requires.table_len.3 c.loop-top.invariant (omega arith) _ c.from-d.ensures c.advance-v.ensures _ c.top_after-top.ensures _ _ c.link.ensures _ c.from-wait.ensures)) (omega arith) _ _ c.link.ensures)

pub loop-wait-preserved : goal.loop-wait-preserved
loop-wait-preserved c = λ start M. meeting_more _ c.requires.flat_tables.0.placed c.requires.flat_tables.0.few_stops c.requires.flat_tables.0.few_drones (c.loop-wait.invariant start M) (λ e. omega arith) c.from-w.result c.from-w.ensures _ refl c.args.stops.now.owners.now refl c.meet-top.ensures _ _ c.link.ensures _ c.from-wait-in-loop-wait.ensures

pub returns : goal.returns
returns c = walking_end _ c.requires.flat_tables.0.placed (omega arith) c.loop-top.invariant
