use Prim.Native.Nat.{ℕ, ◌<◌}
use mathlib.Core.Path.{◌≡◌}
use Rattle.std.specs.Prelude.{Some}
use Rattle.raising.specs.Answers.{turn_of}
use Rattle.below.specs.Below.{at}
use Rattle.tables.specs.Limits.{limits}
use Rattle.raising.specs.Lent.{course_over}
use Rattle.raising.specs.Lifting.{LogsOn, none_left, Lifting}
use Rattle.raising.specs.Marked.{MarkTables, MarksReached}
use Rattle.raising.proofs.ordered.raise_in_order.Given as goal

abbrev pub invariant-loop : goal.invariant-loop
invariant-loop l = LogsOn limits l.initial.end l.initial.table l.initial.log_stops l.initial.log_olds l.end l.table l.log_stops l.log_olds × Lifting (course_over l.edges) (at l.edges.legs.now) (at l.edges.cur.now) l.marks l.b l.top l.end l.end none_left none_left l.table l.log_stops × MarksReached (course_over l.edges) l.b l.marks l.low × MarkTables limits l.marks l.was l.low × ((d : ℕ) → turn_of l.turn ≡ Some d → d < l.edges.stops.drones)
