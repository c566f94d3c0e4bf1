-- The stops that are left, stored from here on, give what all of them give from the start.
use Prim.Native.Nat.{◌+◌, ◌-◌}
use Rattle.tables.specs.Limits.{limits}
use Rattle.lines.proofs.StopCases.{Going}
use Rattle.lines.specs.Stops.{stops_at}
use Rattle.lines.proofs.stops.go_lines.Given as goal

abbrev pub invariant-loop-i : goal.invariant-loop-i
invariant-loop-i l = Going (stops_at limits l.form l.i (l.count - l.i) l.text l.here) (stops_at limits l.form 0 l.count l.text l.at) (l.from + l.i) l.from l.locations l.times l.legs l.initial.locations l.initial.times l.initial.legs
