-- The buffer stays as long as it was.
use Rattle.std.proofs.Common.{length, ◌≡◌}
use Rattle.flights.proofs.fill.Given as goal

abbrev pub invariant-loop-i : goal.invariant-loop-i
invariant-loop-i l = length l.buffer ≡ length l.initial.buffer
