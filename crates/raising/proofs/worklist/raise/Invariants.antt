use Prim.Native.Nat.{◌-◌}
use mathlib.Core.List.{[]}
use Rattle.below.specs.Below.{at}
use Rattle.tables.specs.Limits.{limits}
use Rattle.raising.specs.Lent.{course_over}
use Rattle.raising.specs.Lifting.{log_room, LogsOn, none_left, Lifting}
use Rattle.raising.proofs.worklist.raise.Given as goal

abbrev pub invariant-loop-h : goal.invariant-loop-h
invariant-loop-h l = LogsOn limits l.initial.end l.initial.table l.initial.log_stops l.initial.log_olds l.end l.table l.log_stops l.log_olds × Lifting (course_over l.edges) (at l.edges.legs.now) (at l.edges.cur.now) [] l.b l.top l.h l.end none_left none_left l.table l.log_stops

abbrev pub decreases-loop-h : goal.decreases-loop-h
decreases-loop-h l = log_room - l.h
