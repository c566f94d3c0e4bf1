-- A law for each return; what a site text that is taken leaves is what reading the lines asks for. Assumes nothing.
use Rattle.tables.specs.Limits.{limits}
use Rattle.tables.specs.Zero.{zeroed}
use Rattle.reading.proofs.EntryCases.{sited_asked, site_refused, site_taken}
use Rattle.reading.proofs.entry.read_sited.Goals as goal

pub read_lines-requires : goal.read_lines-requires
read_lines-requires c = sited_asked limits _ _ _ _ _ _ _ _ _ c.requires.lines_asked c.requires.pairs_value _ c.read_pairs.ensures c.in_default.is

pub returns-in-Err : goal.returns-in-Err
unfolding zeroed
returns-in-Err c = λ visited drone_flags short zero. site_refused limits _ _ _ c.read_pairs.ensures zero _ c.in-Err.is _ _ c.from.ensures c.zero.ensures

pub returns : goal.returns
returns c = λ visited drone_flags short zero. site_taken limits _ _ _ c.read_pairs.ensures zero c.in_default.is short _ _ (c.read_lines.ensures visited drone_flags)
