-- A list that is not empty rises where each two neighbours do. Assumes nothing.
use Prim.Native.Nat.{◌<◌}
use native.Mathlib.Omega.{arith}
use borrow.Author.Rules.{rules}
use lib.Dec.{ltb}
use lib.ListN.{length}
use Rattle.std.proofs.lemmas.Fn.{answers_by}
use Rattle.std.proofs.lemmas.Grind.{common_steps}
use Rattle.flat.proofs.RisingLaws.{rises_is}
use Rattle.flat.proofs.groups.is_group.Goals as goal

pub returns-then-not-is_empty : goal.returns-then-not-is_empty
returns-then-not-is_empty c =
    let some : 0 < length c.args.list.now = grind (arith, common_steps) in
    rises_is c.args.list.now _ some (c.is_sorted_by.ensures.cases ltb (answers_by _ _ (λ _. Unit {0}) (λ f a r f2 q _. (search rules, tt)) _ tt))
