-- The walks begin at their starts, the first stops of all.
use native.Mathlib.Omega.{arith}
use Prim.Native.Nat.{ℕ, ◌*◌}
use lib.ListN.{replicate, length-replicate}
use Rattle.tables.specs.Limits.{most_pairs}
use Rattle.near.proofs.NearLaws.{count_within}
use Rattle.plan.proofs.NearLists.{ahead_start}
use Rattle.plan.proofs.check.near_collider.Goals as goal

pub place_all-requires : goal.place_all-requires
place_all-requires c = omega (arith, c.link-ends.ensures.0, count_within c.args.pairs.now)

pub first_collider-requires : goal.first_collider-requires
first_collider-requires c = (c.requires.1, record { ended = c.link-ends.ensures.0; few_ends = c.link-ends.ensures.1; gathered = c.requires.2; linked = c.link-ends.ensures.2 }, c.are_rising.ensures, ahead_start _ _ _ _ _ _ _ (replicate {A = ℕ} (2 * most_pairs) 0) _ c.link-ends.ensures.0 c.link-ends.ensures.2 (omega arith) (length-replicate {A = ℕ} (2 * most_pairs) 0) c.place_all.ensures)
