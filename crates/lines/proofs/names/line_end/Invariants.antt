-- The first line feed from here on is the first from the start on.
use Prim.Native.Nat.{◌≤◌, max}
use mathlib.Core.Path.{◌≡◌}
use lib.ListN.{length}
use Rattle.lines.specs.Names.{line_end}
use Rattle.lines.proofs.names.line_end.Given as goal

abbrev pub invariant-loop-i : goal.invariant-loop-i
invariant-loop-i l = (l.i ≤ max l.at (length l.text)) × (line_end l.text l.at ≡ line_end l.text l.i)
