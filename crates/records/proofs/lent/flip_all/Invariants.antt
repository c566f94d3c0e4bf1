-- `records::lent::flip_all` meets its contract: the records with the rest of the list flipped are those with the whole list flipped. Assumes nothing.
use mathlib.Core.Path.{◌≡◌}
use mathlib.Core.Bool.{true}
use lib.ListN.{drop}
use Rattle.records.specs.Records.{flip_all_if}
use Rattle.records.proofs.lent.flip_all.Given as goal

abbrev pub invariant-loop-i : goal.invariant-loop-i
invariant-loop-i l = flip_all_if true (drop l.i-index l.list) l.deps ≡ flip_all_if true l.list l.initial.deps
