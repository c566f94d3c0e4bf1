-- The lines that are left, written from here on, give what all of them give from the start.
use Prim.Native.Nat.{◌+◌, ◌*◌, ◌-◌, ◌≤◌}
use lib.ListN.{take, drop}
use Rattle.lines.proofs.WriteLaws.{Rest}
use Rattle.lines.specs.Stops.{stop_lines}
use Rattle.lines.proofs.stops.put_stops.Given as goal

abbrev pub invariant-loop-i : goal.invariant-loop-i
invariant-loop-i l = (l.next ≤ l.at + 27 * l.i) × Rest l.buf l.next (stop_lines l.form (take (l.count - l.i) (drop (l.from + l.i) l.locations)) (take (l.count - l.i) (drop (l.from + l.i) l.times)) (take (l.count - l.i) (drop (l.from + l.i) l.legs))) l.initial.buf l.at (stop_lines l.form (take l.count (drop l.from l.locations)) (take l.count (drop l.from l.times)) (take l.count (drop l.from l.legs)))
