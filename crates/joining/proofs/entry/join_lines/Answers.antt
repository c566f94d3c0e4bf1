use Rattle.tables.specs.Limits.{limits}
use Rattle.reading.proofs.LinesCases.{plan_asked}
use Rattle.joining.proofs.entry.join_lines.Goals as goal

pub after_lines-requires : goal.after_lines-requires
after_lines-requires c = λ n h. plan_asked limits _ _ _ _ _ _ _ _ _ _ _ c.requires.lines_asked c.copy_lines-answer.ensures n h

pub returns : goal.returns
returns c = λ visited drone_flags zero. c.after_lines.ensures _ _ _ _ _ _ _ _ visited drone_flags (rw (c.from.ensures, c.from-2.ensures) at c.copy_lines-answer.ensures) zero
