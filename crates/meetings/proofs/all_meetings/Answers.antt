-- The meetings at one location are counted over the first stops, those at near ones over the numbers of the pairs.
use native.Mathlib.Omega.{arith}
use mathlib.Core.Path.{◌∙◌}
use Prim.Native.Nat.{ℕ}
use lib.ListN.{length-replicate}
use Rattle.tables.specs.Limits.{limits}
use Rattle.plan.proofs.SharingLaws.{firsts_at}
use Rattle.meetings.proofs.Tallies.{indexed_filled, meetings_shared}
use Rattle.meetings.proofs.NearCounts.{total-bound, total_split}
use Rattle.meetings.proofs.all_meetings.Goals as goal

pub count_meetings-total-requires : goal.count_meetings-total-requires
count_meetings-total-requires c = (indexed_filled _ _ _ _ (length-replicate {A = ℕ} limits.stops 0) c.requires.4 c.fill_firsts.ensures, c.requires.1, c.requires.2)

pub overflow_add-result : goal.overflow_add-result
overflow_add-result c = omega (arith, total-bound _ _ _ _ limits.stops c.count_meetings-total.ensures c.requires.4, total-bound _ _ _ _ limits.stops c.near_meetings.ensures c.requires.4, c.requires.4)

pub returns : goal.returns
returns c = total_split _ _ _ _ _ c.requires.0 (c.count_meetings-total.ensures ∙ meetings_shared _ _ _ _ (firsts_at _ _ _ _ (omega (arith, c.requires.4, length-replicate {A = ℕ} limits.stops 0)) c.fill_firsts.ensures)) c.near_meetings.ensures
