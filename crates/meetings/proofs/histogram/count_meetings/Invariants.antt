use mathlib.Core.Path.{◌≡◌}
use Rattle.below.specs.Below.{at}
use Rattle.tables.specs.Limits.{limits}
use Rattle.plan.specs.Visits.{same_location}
use Rattle.meetings.specs.Meetings.{meeting_total}
use Rattle.meetings.specs.Histogram.{Tally, Run}
use Rattle.meetings.proofs.histogram.count_meetings.Given as goal

abbrev pub invariant-loop-w : goal.invariant-loop-w
invariant-loop-w l = Tally limits l.firsts l.counts l.n l.lo × Run (at l.owners) l.lo l.w × (l.total ≡ meeting_total same_location (at l.owners) (at l.firsts) l.w)
