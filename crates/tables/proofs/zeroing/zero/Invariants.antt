-- The loop's invariant: the entries before the turn's are zero, and the others as they were. Assumes nothing.
use mathlib.Core.Path.{◌≡◌}
use mathlib.Core.List.{◌++◌}
use lib.ListN.{replicate, drop}
use Rattle.tables.proofs.zeroing.zero.Given as goal

abbrev pub invariant-loop-entry : goal.invariant-loop-entry
invariant-loop-entry g l = l.entry-items ≡ replicate l.entry-index l.zero ++ drop l.entry-index l.initial.entry-items
