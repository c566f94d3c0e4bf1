use Rattle.std.proofs.lemmas.Result.{err_from_is_err_and}
use Prim.Native.Nat.{◌-◌}
use mathlib.Core.Path.{refl, sym, ◌∙◌}
use native.Mathlib.Omega.{arith}
use Rattle.tables.specs.Limits.{limits}
use Rattle.raising.proofs.LogLaws.{log_now}
use Rattle.raising.proofs.LiftLaws.{none-marked, lift_ended, lift_cycle}
use Rattle.raising.proofs.OrderLaws.{offer_room, begun_logs}
use Rattle.raising.proofs.GoLaws.{raise_begun, raise_taken, raised_full, raised_cyclic, raised_settled}
use Rattle.raising.proofs.worklist.raise.Goals as goal

pub offer-requires : goal.offer-requires
offer-requires c = let room = offer_room c.requires.raisable.0 c.requires.raisable.1 c.from-a.ensures c.from-b.ensures in (room.0, room.1, room.2, room.3, room.4, c.requires.log_at)

pub returns-in_err-end : goal.returns-in_err-end
returns-in_err-end c = let p = err_from_is_err_and c.from_residual.result c.from_residual.ensures.1 in rw (p.1, p.2) (raised_full c.requires.raisable.0 (begun_logs c.requires.raisable.0 c.requires.raisable.1 c.from-b.ensures c.in_err-end.ensures))

pub loop-h-init : goal.loop-h-init
loop-h-init c = ((λ base t₀ G. G), raise_begun c.requires.raisable.0 (c.args.edges.now.waits.count - 1) (omega (arith, c.requires.raisable.1)) c.requires.log_at c.requires.round_table c.from-a.ensures c.from-b.ensures c.in_ok-end.ensures refl)

pub offset_bounds-log_stops-h : goal.offset_bounds-log_stops-h
offset_bounds-log_stops-h c = omega (arith, (log_now limits c.loop-h.invariant.0 (log_now limits (begun_logs c.requires.raisable.0 c.requires.raisable.1 c.from-b.ensures c.in_ok-end.ensures) c.requires.log_at)).in_room)

pub bounds-log_stops-h : goal.bounds-log_stops-h
bounds-log_stops-h c = omega (arith, (log_now limits c.loop-h.invariant.0 (log_now limits (begun_logs c.requires.raisable.0 c.requires.raisable.1 c.from-b.ensures c.in_ok-end.ensures) c.requires.log_at)).in_room)

pub returns-then-u-a : goal.returns-then-u-a
returns-then-u-a c = raised_cyclic c.requires.raisable.0 (λ base t₀ G. c.loop-h.invariant.0 base t₀ (begun_logs c.requires.raisable.0 c.requires.raisable.1 c.from-b.ensures c.in_ok-end.ensures base t₀ G)) (lift_cycle _ c.requires.raisable.0.tables.placed _ _ c.requires.raisable.0.stands c.loop-h.invariant.1 (omega arith) (c.args.edges.now.waits.count - 1) (omega (arith, c.requires.raisable.1)) (sym c.from-a.ensures ∙ sym c.if-u-a.true ∙ c.from-u.ensures) (sym c.from-b.ensures))

pub offer_out-requires : goal.offer_out-requires
offer_out-requires c = record { raisable = (c.requires.raisable.0, omega (arith, c.from-u.ensures, (c.loop-h.invariant.1.reached c.loop-h.h c.loop-h.invariant.1.from_base (omega arith)).0), c.requires.raisable.2); log_at = (log_now limits c.loop-h.invariant.0 (log_now limits (begun_logs c.requires.raisable.0 c.requires.raisable.1 c.from-b.ensures c.in_ok-end.ensures) c.requires.log_at)) }

pub returns-in_err-end-2 : goal.returns-in_err-end-2
returns-in_err-end-2 c = let p = err_from_is_err_and c.from_residual-in_err-end-2.result c.from_residual-in_err-end-2.ensures.1 in rw (p.1, p.2) (raised_full c.requires.raisable.0 (λ base t₀ G. c.in_err-end-2.ensures.logs base t₀ (c.loop-h.invariant.0 base t₀ (begun_logs c.requires.raisable.0 c.requires.raisable.1 c.from-b.ensures c.in_ok-end.ensures base t₀ G))))

pub overflow_add-h : goal.overflow_add-h
overflow_add-h c = omega (arith, (log_now limits c.loop-h.invariant.0 (log_now limits (begun_logs c.requires.raisable.0 c.requires.raisable.1 c.from-b.ensures c.in_ok-end.ensures) c.requires.log_at)).in_room)

pub returns-then-gives_up : goal.returns-then-gives_up
returns-then-gives_up c = raised_full c.requires.raisable.0 (λ base t₀ G. c.in_ok-end-2.ensures.logs base t₀ (c.loop-h.invariant.0 base t₀ (begun_logs c.requires.raisable.0 c.requires.raisable.1 c.from-b.ensures c.in_ok-end.ensures base t₀ G)))

pub loop-h-smaller : goal.loop-h-smaller
loop-h-smaller c = omega (arith, (log_now limits c.loop-h.invariant.0 (log_now limits (begun_logs c.requires.raisable.0 c.requires.raisable.1 c.from-b.ensures c.in_ok-end.ensures) c.requires.log_at)).in_room)

pub loop-h-preserved : goal.loop-h-preserved
loop-h-preserved c = ((λ base t₀ G. c.in_ok-end-2.ensures.logs base t₀ (c.loop-h.invariant.0 base t₀ G)), raise_taken c.requires.raisable.0 c.loop-h.invariant.1 (omega arith) c.from-u.ensures c.in_ok-end-2.ensures refl)

pub returns : goal.returns
returns c = raised_settled c.requires.raisable.0 (λ base t₀ G. c.loop-h.invariant.0 base t₀ (begun_logs c.requires.raisable.0 c.requires.raisable.1 c.from-b.ensures c.in_ok-end.ensures base t₀ G)) (lift_ended _ c.requires.raisable.0.tables.placed _ _ c.requires.raisable.0.stands c.loop-h.invariant.1 (omega arith) none-marked)
