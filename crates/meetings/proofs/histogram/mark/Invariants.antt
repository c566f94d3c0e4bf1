use Prim.Native.Nat.{◌+◌}
use Rattle.tables.specs.Limits.{limits}
use Rattle.meetings.specs.Histogram.{Tally}
use Rattle.meetings.proofs.histogram.mark.Given as goal

abbrev pub invariant-loop-f : goal.invariant-loop-f
invariant-loop-f l = Tally limits l.firsts l.counts l.n (l.lo + l.f-index)
