use Rattle.below.specs.Below.{at}
use Rattle.tables.specs.Limits.{limits}
use Rattle.raising.specs.Marked.{NotedAll}
use Rattle.raising.proofs.ordered.note_all.Given as goal

abbrev pub invariant-loop-j : goal.invariant-loop-j
invariant-loop-j l = NotedAll limits (at l.owners) l.n l.log_stops l.h l.j l.initial.marks l.initial.low l.marks l.was l.low
