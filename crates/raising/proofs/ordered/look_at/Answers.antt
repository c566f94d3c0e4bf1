use Rattle.std.proofs.lemmas.Result.{err_from_is_err_and}
use mathlib.Core.Path.{refl, ◌∙◌}
use native.Mathlib.Omega.{arith}
use lib.ListN.{length-set}
use Rattle.below.specs.Below.{at}
use Rattle.below.proofs.Tests.{true_or_false}
use Rattle.raising.proofs.OrderLaws.{looked_in, looked_at}
use Rattle.raising.proofs.ordered.look_at.Goals as goal

pub offer_out-requires : goal.offer_out-requires
offer_out-requires c = record { raisable = (c.requires.raisable.0, c.requires.raisable.1, c.requires.raisable.4); log_at = c.requires.log_at.0 }

pub returns-in_err-now_end : goal.returns-in_err-now_end
returns-in_err-now_end c = let p = err_from_is_err_and c.from_residual.result c.from_residual.ensures.1 in rw (p.1, p.2) (record { logs = c.in_err-now_end.ensures.logs; tables = λ e. true_or_false refl e; lifts = λ e. true_or_false refl e; reached = λ e. true_or_false refl e })

pub note_all-least-requires : goal.note_all-least-requires
note_all-least-requires c = (c.requires.raisable.0.tables.few_stops, c.requires.raisable.0.tables.has_owners, (λ v l. omega (arith, c.requires.raisable.0.tables.few_drones, c.requires.raisable.0.tables.placed.shape.own_in v l)), (c.in_ok-now_end.ensures.logs _ _ c.requires.log_at.0).from_base, (c.in_ok-now_end.ensures.logs _ _ c.requires.log_at.0).in_room, looked_in c.requires.raisable.0 _ _ (omega (arith, c.requires.raisable.1, c.requires.raisable.0.tables.few_stops, c.requires.log_at.1.marks_size)) (omega (arith, c.requires.raisable.2, c.requires.raisable.0.tables.few_drones, c.requires.log_at.1.low_size)) c.requires.raisable.1 c.requires.raisable.2 c.requires.raisable.3 c.in_ok-now_end.ensures _ _ c.requires.marks_reached.0 c.requires.marks_reached.1, record { marks_size = length-set c.args.marks.now c.args.u 0 ∙ c.requires.log_at.1.marks_size; was_size = c.requires.log_at.1.was_size; low_size = c.requires.log_at.1.low_size })

pub next_marked-requires : goal.next_marked-requires
next_marked-requires c = omega (arith, c.from.ensures, c.from-2.ensures, c.requires.raisable.0.tables.few_stops, c.requires.raisable.0.tables.placed.shape.place_in c.args.d (at c.args.edges.now.stops.lasts.now c.args.d) c.requires.raisable.2 (omega arith))

pub returns : goal.returns
returns c = looked_at c.requires.raisable.0 _ _ (omega (arith, c.requires.raisable.1, c.requires.raisable.0.tables.few_stops, c.requires.log_at.1.marks_size)) (omega (arith, c.requires.raisable.2, c.requires.raisable.0.tables.few_drones, c.requires.log_at.1.low_size)) c.requires.raisable.1 c.requires.raisable.2 c.requires.raisable.3 c.in_ok-now_end.ensures _ _ c.requires.marks_reached.0 c.requires.marks_reached.1 c.note_all-least.ensures _ _ c.from-3.ensures (omega (arith, c.from.ensures, c.from-2.ensures)) c.next_marked.ensures refl
