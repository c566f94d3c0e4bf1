-- The lines of the entries below i are written; a turn adds one.
use Prim.Native.Nat.{◌+◌, ◌*◌, ◌≤◌}
use mathlib.Core.Path.{◌≡◌}
use lib.ListN.{length}
use Rattle.lines.specs.Bytes.{Put}
use Rattle.transcript.specs.Output.{lines_in}
use Rattle.transcript.proofs.replies.put_answers.Given as goal

abbrev pub invariant-loop-i : goal.invariant-loop-i
invariant-loop-i l = (l.next ≤ l.at + 23 * l.i) × (length l.buf ≡ length l.initial.buf) × Put l.initial.buf l.at (lines_in l.i l.requests l.answers) l.buf l.next
