use native.Mathlib.Omega.{arith}
use Rattle.plan.proofs.SharingLaws.{firsts_back}
use Rattle.plan.proofs.StretchLaws.{gathered-filled}
use Rattle.below.proofs.Fill.{fill_length}
use Rattle.plan.proofs.groups.gather.Goals as goal

pub fill_nexts-requires : goal.fill_nexts-requires
fill_nexts-requires c = (c.requires.n_in_bounds.2, omega (arith, fill_length _ _ _ _ c.fill_firsts.ensures, c.requires.n_in_bounds.2, c.requires.first_len.0), omega (arith, c.requires.n_in_bounds.2, c.requires.first_len.1), firsts_back _ _ _ _ (omega (arith, c.requires.n_in_bounds.2, c.requires.first_len.0)) c.fill_firsts.ensures)

pub returns : goal.returns
returns c = gathered-filled _ _ _ _ _ _ _ _ _ (omega (arith, c.requires.n_in_bounds.2, c.requires.first_len.0)) (omega (arith, c.requires.n_in_bounds.2, c.requires.first_len.1)) (omega (arith, c.requires.n_in_bounds.2, c.requires.first_len.2)) c.fill_firsts.ensures c.fill_nexts.ensures c.fill_skips.ensures
