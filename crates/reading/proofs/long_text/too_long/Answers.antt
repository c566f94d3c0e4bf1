-- A law for each return: 13 and 14 come before 1. Assumes nothing.
use Rattle.tables.specs.Limits.{limits}
use Rattle.reading.proofs.EntryCases.{long_taken, long_refused}
use Rattle.reading.proofs.long_text.too_long.Goals as goal

pub returns-in-Err : goal.returns-in-Err
returns-in-Err c = λ text long. long_refused limits _ text _ _ c.judge_site.ensures _ c.in-Err.is _ _ c.from.ensures c.zero_all.ensures

pub returns : goal.returns
returns c = λ text long. long_taken limits _ text _ _ c.judge_site.ensures long c.in_default.is
