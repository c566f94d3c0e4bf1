-- The dependencies before this one pass.
use Rattle.tables.specs.Lent.{lent_tables}
use Rattle.flat.proofs.WalkLaws.{AllPass}
use Rattle.flat.proofs.groups.list_test.Given as goal

abbrev pub invariant-loop-dependency : goal.invariant-loop-dependency
invariant-loop-dependency l = AllPass (lent_tables l.plan l.visited l.drone_flags l.sides l.flags) l.list l.dependency-index
