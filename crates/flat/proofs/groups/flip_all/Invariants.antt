-- The flag bytes of the dependencies before this one are flipped.
use mathlib.Core.Path.{◌≡◌}
use Rattle.call_log.proofs.FlipLaws.{flips_to}
use Rattle.flat.proofs.groups.flip_all.Given as goal

abbrev pub invariant-loop-dependency : goal.invariant-loop-dependency
invariant-loop-dependency l = l.flags ≡ flips_to l.dependency-index l.list l.initial.flags
