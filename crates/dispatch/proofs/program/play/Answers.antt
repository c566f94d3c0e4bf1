-- What was read is what is run, and each way out writes the output of its case.
use native.Mathlib.Omega.{arith}
use mathlib.Core.Path.{sym, ap}
use Prim.Native.Nat.{ℕ}
use lib.ListN.{take}
use lib.Seq.{length-take-le}
use Rattle.tables.specs.Limits.{limits}
use Rattle.transcript.proofs.PlanEnd.{plan_within}
use Rattle.dispatch.proofs.ProgramLaws.{plan_short, asked_inside, asked-length, requests_room, answers_room, ending-room, calls_written, long_written, refused-written, taken_written}
use Rattle.dispatch.proofs.RunLaws.{run_read, run_made}
use Rattle.dispatch.proofs.program.play.Goals as goal

pub returns-then-input-gt-INPUT : goal.returns-then-input-gt-INPUT
returns-then-input-gt-INPUT c = long_written _ _ c.if-input-gt-INPUT.true c.put_plan.ensures

pub read_requests-read-requires : goal.read_requests-read-requires
read_requests-read-requires c = (omega (arith, c.plan_end-end.ensures, plan_within c.args.input.now), omega (arith, c.if-input-gt-INPUT.false, c.requires.has_requests))

pub slice_bounds-asked-end : goal.slice_bounds-asked-end
slice_bounds-asked-end c = asked_inside limits c.args.input.now _ _ _ _ _ c.read_requests-read.ensures _ (omega (arith, c.plan_end-end.ensures, plan_within c.args.input.now)) c.if-input-gt-INPUT.false c.requires

pub slice_bounds-asked-end-2 : goal.slice_bounds-asked-end-2
slice_bounds-asked-end-2 c = sym (asked-length limits c.args.input.now _ _ _ _ _ c.read_requests-read.ensures _ (omega (arith, c.plan_end-end.ensures, plan_within c.args.input.now)) c.if-input-gt-INPUT.false c.requires)

pub slice_bounds-run-end : goal.slice_bounds-run-end
slice_bounds-run-end c = sym (length-take-le _ _ (omega (arith, c.plan_end-end.ensures, plan_within c.args.input.now)))

pub run-reading-requires : goal.run-reading-requires
run-reading-requires c = requests_room limits c.args.input.now _ _ _ _ _ c.read_requests-read.ensures _ (omega (arith, c.plan_end-end.ensures, plan_within c.args.input.now)) c.if-input-gt-INPUT.false c.requires

pub returns-then-number-ne0 : goal.returns-then-number-ne0
returns-then-number-ne0 c = refused-written limits _ _ _ c.if-input-gt-INPUT.false _ c.plan_end-end.ensures (ap (λ (k : ℕ). take k c.args.input.now) c.plan_end-end.ensures) _ _ (run_read limits _ _ _ _ _ c.run-reading.ensures) _ c.reading_number-number.ensures c.put_plan-next.ensures c.if-number-ne0.true

pub put_answers-after-requires : goal.put_answers-after-requires
put_answers-after-requires c = let made = run_made limits _ _ _ _ _ c.run-reading.ensures _ c.reading_number-number.ensures c.if-number-ne0.false in
    answers_room limits c.args.input.now _ _ _ _ _ c.read_requests-read.ensures _ (omega (arith, c.plan_end-end.ensures, plan_within c.args.input.now)) c.if-input-gt-INPUT.false c.requires
    _ _ _ made.1 _ (omega (arith, c.put_plan-next.ensures.next_is, plan_short c.reading_number-number.result))

pub put_ending-requires : goal.put_ending-requires
put_ending-requires c = let made = run_made limits _ _ _ _ _ c.run-reading.ensures _ c.reading_number-number.ensures c.if-number-ne0.false in
    ending-room limits c.args.input.now _ _ _ _ _ c.read_requests-read.ensures _ (omega (arith, c.plan_end-end.ensures, plan_within c.args.input.now)) c.if-input-gt-INPUT.false c.requires
    _ _ _ made.1 (omega (arith, c.put_plan-next.ensures.next_is, plan_short c.reading_number-number.result)) c.put_answers-after.ensures

pub returns : goal.returns
returns c = let made = run_made limits _ _ _ _ _ c.run-reading.ensures _ c.reading_number-number.ensures c.if-number-ne0.false in
    taken_written limits _ _ _ c.if-input-gt-INPUT.false _ c.plan_end-end.ensures (ap (λ (k : ℕ). take k c.args.input.now) c.plan_end-end.ensures) _ _ (run_read limits _ _ _ _ _ c.run-reading.ensures) _ c.reading_number-number.ensures c.put_plan-next.ensures c.if-number-ne0.false
    (calls_written limits c.args.input.now _ _ _ _ _ c.read_requests-read.ensures _ (omega (arith, c.plan_end-end.ensures, plan_within c.args.input.now)) c.if-input-gt-INPUT.false c.requires _ _ _ made.1 c.put_answers-after.ensures c.put_ending.ensures)
