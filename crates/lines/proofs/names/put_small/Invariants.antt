-- The small forms that are left, written from here on, give what all of them give from the start.
use Prim.Native.Nat.{◌+◌}
use mathlib.Core.Path.{◌≡◌}
use lib.ListN.{drop}
use lib.Seq.{sets}
use Rattle.lines.specs.Names.{small_form}
use Rattle.lines.proofs.names.put_small.Given as goal

abbrev pub invariant-loop-i : goal.invariant-loop-i
invariant-loop-i l = (sets l.buf (l.at + l.i) (drop l.i (small_form l.name)) ≡ sets l.initial.buf l.at (small_form l.name))
