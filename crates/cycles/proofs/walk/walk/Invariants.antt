use Prim.Native.Nat.{ℕ, ◌*◌, ◌-◌}
use mathlib.Core.List.{List}
use Rattle.below.specs.Below.{at}
use Rattle.tables.specs.Limits.{limits}
use Rattle.cycles.specs.Walk.{course_with, met_at, left, Walking, MeetingWaits}
use Rattle.cycles.proofs.walk.walk.Given as goal

abbrev pub invariant-loop-wait : goal.invariant-loop-wait
invariant-loop-wait l = (start : List ℕ) → MeetingWaits limits (course_with l.stops.owners.now l.stops.starts.now l.stops.lasts.now l.stops.drones l.stops.count l.waits.from.now l.waits.into.now l.waits.count) (at l.legs) limits.leg (limits.leg * (limits.stops - 1)) start l.cur l.v l.initial.wait l.initial.need l.initial.stack l.initial.top l.initial.table → MeetingWaits limits (course_with l.stops.owners.now l.stops.starts.now l.stops.lasts.now l.stops.drones l.stops.count l.waits.from.now l.waits.into.now l.waits.count) (at l.legs) limits.leg (limits.leg * (limits.stops - 1)) start l.cur l.v l.wait l.need l.stack l.top l.table

abbrev pub decreases-loop-wait : goal.decreases-loop-wait
decreases-loop-wait l = l.wait

abbrev pub invariant-loop-top : goal.invariant-loop-top
invariant-loop-top l = Walking limits (course_with l.stops.owners.now l.stops.starts.now l.stops.lasts.now l.stops.drones l.stops.count l.waits.from.now l.waits.into.now l.waits.count) (at l.legs) limits.leg (limits.leg * (limits.stops - 1)) l.initial.cur (met_at (at l.stops.owners.now) (at l.waits.from.now) (at l.cur)) l.cur l.need l.stack l.top l.table

abbrev pub decreases-loop-top : goal.decreases-loop-top
decreases-loop-top l = left (course_with l.stops.owners.now l.stops.starts.now l.stops.lasts.now l.stops.drones l.stops.count l.waits.from.now l.waits.into.now l.waits.count) (at l.cur)
