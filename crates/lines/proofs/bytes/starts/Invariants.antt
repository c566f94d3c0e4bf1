-- A key that is longer than what is left of the text does not stand there; of another the bytes that are left stand at the next position exactly when the whole key stands at the first.
use Prim.Native.Nat.{◌+◌}
use mathlib.Core.Path.{◌≡◌}
use lib.ListN.{drop}
use Rattle.lines.specs.Bytes.{is_at}
use Rattle.lines.proofs.bytes.starts.Given as goal

abbrev pub invariant-loop-i : goal.invariant-loop-i
invariant-loop-i l = (is_at l.text l.at l.key ≡ is_at l.text (l.at + l.i) (drop l.i l.key))
