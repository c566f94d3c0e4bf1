-- The histogram holds the drones before that of w, and the total the meetings of the stops before w.
use mathlib.Core.Path.{◌≡◌}
use Rattle.below.specs.Below.{at}
use Rattle.tables.specs.Limits.{limits}
use Rattle.near.specs.Near.{near}
use Rattle.meetings.specs.Meetings.{meeting_total}
use Rattle.meetings.specs.Histogram.{Tally, Run}
use Rattle.meetings.proofs.nearby.count_near.Given as goal

abbrev pub invariant-loop-w : goal.invariant-loop-w
invariant-loop-w l = Tally limits l.heads l.counts l.stops.count l.lo × Run (at l.stops.owners.now) l.lo l.w × (l.total ≡ meeting_total (near l.pairs) (at l.stops.owners.now) (at l.stops.locations.now) l.w)
