use native.Mathlib.Omega.{arith}
use mathlib.Core.Path.{◌∙◌}
use Rattle.tables.specs.Limits.{limits}
use Rattle.below.proofs.Fill.{fill_length}
use Rattle.near.proofs.NearLaws.{paired}
use Rattle.plan.proofs.NearLists.{linked_filled}
use Rattle.plan.proofs.groups.link.Goals as goal

pub fill_ends-requires : goal.fill_ends-requires
fill_ends-requires c = (paired limits _ _ c.requires.sound_pairs.0 c.pair_count-count.ensures.0, c.requires.sound_pairs.1, c.requires.sound_pairs.2, c.requires.heads_len.2, c.requires.heads_len.1)

pub fill_opposite-requires : goal.fill_opposite-requires
fill_opposite-requires c = (paired limits _ _ c.requires.sound_pairs.0 c.pair_count-count.ensures.0, c.requires.sound_pairs.1, c.requires.sound_pairs.2, fill_length _ _ _ _ c.fill_ends.ensures.firsts ∙ c.requires.heads_len.2)

pub returns : goal.returns
returns c = (omega (arith, c.pair_count-count.ensures.0), omega (arith, c.pair_count-count.ensures.1), linked_filled _ _ _ _ _ _ _ _ _ _ c.pair_count-count.ensures.0 (omega (arith, c.requires.sound_pairs.2, c.requires.heads_len.0)) (omega (arith, c.pair_count-count.ensures.1, c.requires.heads_len.1)) (omega (arith, c.pair_count-count.ensures.1, fill_length _ _ _ _ c.fill_ends.ensures.firsts, c.requires.heads_len.2)) c.fill_ends.ensures.heads c.fill_ends.ensures.nexts c.fill_opposite.ensures)
