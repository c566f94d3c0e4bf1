-- `records::lent::zero_between` meets its contract: the sum is 0 just where every record so far is zero. Assumes nothing.
use mathlib.Core.Path.{◌≡◌}
use Prim.Native.Nat.{◌≤◌, ◌+◌, ◌*◌}
use lib.Dec.{eqb}
use Rattle.below.specs.Below.{all_below}
use Rattle.records.proofs.Unused.{clear}
use Rattle.records.proofs.lent.zero_between.Given as goal

abbrev pub invariant-loop-d : goal.invariant-loop-d
invariant-loop-d l = record {
  few : l.sum ≤ l.d-index * 131835;
  clear_so_far : eqb l.sum 0 ≡ all_below (l.from + l.d-index) (clear l.from l.deps);
}
