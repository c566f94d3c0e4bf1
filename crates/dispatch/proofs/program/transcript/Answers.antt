-- Two buffers are one input.
use native.Mathlib.Omega.{arith}
use Rattle.dispatch.proofs.ProgramLaws.{two-within, two-taken, two-joined}
use Rattle.dispatch.proofs.program.transcript.Goals as goal

pub slice_bounds-input-end : goal.slice_bounds-input-end
slice_bounds-input-end c = two-within _ _ _ _ _ _ c.join-end.ensures

pub slice_bounds-transcribe-end : goal.slice_bounds-transcribe-end
slice_bounds-transcribe-end c = two-taken _ _ _ _ _ _ c.join-end.ensures

pub returns : goal.returns
returns c = two-joined _ _ _ _ _ _ c.join-end.ensures _ _ _ (omega arith) c.transcribe.ensures
