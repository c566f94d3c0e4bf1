use Rattle.std.proofs.lemmas.Result.{err_from_is_err_and}
use Prim.Native.Nat.{ℕ, ◌-◌, ◌≤◌, ◌<◌}
use mathlib.Core.Path.{refl, sym, ap, ◌∙◌}
use Rattle.raising.specs.Answers.{turn_of}
use native.Mathlib.Omega.{arith}
use lib.ListN.{replicate, length-replicate}
use Rattle.below.specs.Below.{at}
use Rattle.below.proofs.Index.{zeros-at}
use Rattle.tables.specs.Limits.{limits}
use Rattle.raising.proofs.LogLaws.{log_now}
use Rattle.raising.proofs.LiftLaws.{from_cycle}
use Rattle.raising.proofs.GoLaws.{raise_begun, raised_full, raised_cyclic, raised_settled}
use Rattle.raising.proofs.OrderLaws.{none_some, offer_room, begun_logs, marked_begun, reached_begun, marks_ended, at_first_lem}
use Rattle.raising.proofs.ordered.raise_in_order.Goals as goal

pub offer-requires : goal.offer-requires
offer-requires c = let room = offer_room c.requires.raisable.0 c.requires.raisable.1 c.from-a.ensures c.from-b.ensures in (room.0, room.1, room.2, room.3, room.4, c.requires.log_at)

pub returns-in_err-end : goal.returns-in_err-end
returns-in_err-end c = let p = err_from_is_err_and c.from_residual.result c.from_residual.ensures.1 in rw (p.1, p.2) (raised_full c.requires.raisable.0 (begun_logs c.requires.raisable.0 c.requires.raisable.1 c.from-b.ensures c.in_err-end.ensures))

pub note_all-requires : goal.note_all-requires
note_all-requires c =
    let logs = begun_logs c.requires.raisable.0 c.requires.raisable.1 c.from-b.ensures c.in_ok-end.ensures _ _ c.requires.log_at in
    let begun = raise_begun c.requires.raisable.0 (c.args.edges.now.waits.count - 1) (omega (arith, c.requires.raisable.1)) c.requires.log_at c.requires.round_table c.from-a.ensures c.from-b.ensures c.in_ok-end.ensures refl in
    (c.requires.raisable.0.tables.few_stops, c.requires.raisable.0.tables.has_owners, (λ v l. omega (arith, c.requires.raisable.0.tables.few_drones, c.requires.raisable.0.tables.placed.shape.own_in v l)), logs.from_base, logs.in_room, (λ j a l. (begun.reached j a l).0), record { marks_size = length-replicate {A = ℕ} limits.stops 0; was_size = length-replicate {A = ℕ} limits.stops 0; low_size = length-replicate {A = ℕ} limits.drones 2048 })

pub loop-init : goal.loop-init
loop-init c =
    let begun = raise_begun c.requires.raisable.0 (c.args.edges.now.waits.count - 1) (omega (arith, c.requires.raisable.1)) c.requires.log_at c.requires.round_table c.from-a.ensures c.from-b.ensures c.in_ok-end.ensures refl in
    let none_low : (d : ℕ) → d < c.args.edges.now.stops.drones → c.args.edges.now.stops.count ≤ at (replicate limits.drones 2048) d = λ d l. omega (arith, at_first_lem limits.drones 2048 d (omega (arith, c.requires.raisable.0.tables.few_drones)), c.requires.raisable.0.tables.few_stops) in
    ((λ base t₀ G. G), marked_begun c.requires.raisable.0 begun (zeros-at limits.stops) none_low c.note_all.ensures, reached_begun c.requires.raisable.0 begun (zeros-at limits.stops) none_low c.note_all.ensures, c.note_all.ensures.tables, λ d q. none_some q)

pub on_turn-requires : goal.on_turn-requires
on_turn-requires c = (c.requires.raisable.0.tables.few_drones, c.requires.raisable.0.tables.few_stops, c.loop.invariant.4)

pub returns-in_default : goal.returns-in_default
returns-in_default c = raised_settled c.requires.raisable.0 (λ base t₀ G. c.loop.invariant.0 base t₀ (begun_logs c.requires.raisable.0 c.requires.raisable.1 c.from-b.ensures c.in_ok-end.ensures base t₀ G)) (marks_ended c.requires.raisable.0 c.loop.invariant.1 c.loop.invariant.2 (c.on_turn.ensures.none_left_lem (ap turn_of c.in_default.is)))

pub offset_bounds-low-d : goal.offset_bounds-low-d
offset_bounds-low-d c = omega (arith, (c.on_turn.ensures.one_left _ (ap turn_of c.in-Some.is)).0, c.requires.raisable.0.tables.few_drones)

pub bounds-low-d : goal.bounds-low-d
bounds-low-d c = omega (arith, (c.on_turn.ensures.one_left _ (ap turn_of c.in-Some.is)).0, c.requires.raisable.0.tables.few_drones)

pub returns-then-u-a : goal.returns-then-u-a
returns-then-u-a c = raised_cyclic c.requires.raisable.0 (λ base t₀ G. c.loop.invariant.0 base t₀ (begun_logs c.requires.raisable.0 c.requires.raisable.1 c.from-b.ensures c.in_ok-end.ensures base t₀ G)) (from_cycle _ c.requires.raisable.0.tables.placed (at c.args.edges.now.legs.now) (at c.args.edges.now.cur.now) c.requires.raisable.0.stands (c.args.edges.now.waits.count - 1) (omega (arith, c.requires.raisable.1)) (sym c.from-a.ensures ∙ sym c.if-u-a.true ∙ c.from-u.ensures) (sym c.from-b.ensures) (c.loop.invariant.2.first _ (c.on_turn.ensures.one_left _ (ap turn_of c.in-Some.is)).0 (c.on_turn.ensures.one_left _ (ap turn_of c.in-Some.is)).1))

pub look_at-requires : goal.look_at-requires
look_at-requires c = record { raisable = (c.requires.raisable.0, omega (arith, c.from-u.ensures, (c.on_turn.ensures.one_left _ (ap turn_of c.in-Some.is)).1), (c.on_turn.ensures.one_left _ (ap turn_of c.in-Some.is)).0, c.from-u.ensures, c.requires.raisable.2); log_at = (log_now limits c.loop.invariant.0 (log_now limits (begun_logs c.requires.raisable.0 c.requires.raisable.1 c.from-b.ensures c.in_ok-end.ensures) c.requires.log_at), c.loop.invariant.3); marks_reached = (c.loop.invariant.2, c.loop.invariant.1) }

pub returns-in_err-looked : goal.returns-in_err-looked
returns-in_err-looked c = let p = err_from_is_err_and c.from_residual-in_err-looked.result c.from_residual-in_err-looked.ensures.1 in rw (p.1, p.2) (raised_full c.requires.raisable.0 (λ base t₀ G. c.in_err-looked.ensures.logs base t₀ (c.loop.invariant.0 base t₀ (begun_logs c.requires.raisable.0 c.requires.raisable.1 c.from-b.ensures c.in_ok-end.ensures base t₀ G))))

pub loop-preserved : goal.loop-preserved
loop-preserved c = ((λ base t₀ G. c.in_ok-looked.ensures.logs base t₀ (c.loop.invariant.0 base t₀ G)), c.in_ok-looked.ensures.lifts refl, c.in_ok-looked.ensures.reached refl, c.in_ok-looked.ensures.tables refl, λ e q. (c.on_turn.ensures.one_left e (ap turn_of c.in-Some.is ∙ q)).0)

pub returns : goal.returns
returns c = raised_full c.requires.raisable.0 (λ base t₀ G. c.loop.invariant.0 base t₀ (begun_logs c.requires.raisable.0 c.requires.raisable.1 c.from-b.ensures c.in_ok-end.ensures base t₀ G))
