-- What a refusal has left is zeroed, table by table, and the pairs. Assumes nothing.
use Rattle.tables.specs.Limits.{limits}
use Rattle.tables.specs.Zero.{zeroed}
use Rattle.reading.proofs.LinesCases.{lines_taken, lines_zeroed}
use Rattle.reading.proofs.entry.after_lines.Goals as goal

pub returns : goal.returns
returns c = λ text dc fm ns cs ls ts gs visited drone_flags w zero. lines_taken limits text _ _ _ (c.store_lines-stored.ensures text dc fm ns cs ls ts gs _ _ visited drone_flags w) c.in_default.is

pub returns-in-Err : goal.returns-in-Err
unfolding zeroed
returns-in-Err c = λ text dc fm ns cs ls ts gs visited drone_flags w zero. lines_zeroed limits text _ _ _ (c.store_lines-stored.ensures text dc fm ns cs ls ts gs _ _ visited drone_flags w) _ c.in-Err.is zero
    c.zero.ensures
    c.zero-in-Err.ensures
    c.zero-in-Err-2.ensures
    c.zero-in-Err-3.ensures
    c.zero-in-Err-4.ensures
    c.zero-in-Err-5.ensures
    c.zero-in-Err-6.ensures
    c.zero-in-Err-7.ensures
