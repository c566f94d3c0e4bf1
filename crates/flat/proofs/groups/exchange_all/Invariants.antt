-- The waits of the dependencies before this one are turned round.
use mathlib.Core.Path.{◌≡◌}
use Rattle.flat.specs.Exchanging.{waits_from, exchanges_to}
use Rattle.flat.proofs.groups.exchange_all.Given as goal

abbrev pub invariant-loop-dependency : goal.invariant-loop-dependency
invariant-loop-dependency l = waits_from l.from l.into ≡ exchanges_to l.dependency-index l.list (waits_from l.initial.from l.initial.into)
