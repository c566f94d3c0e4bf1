-- A plan that was taken from the text keeps the limits that storing it asks. Assumes nothing.
use Rattle.tables.specs.Limits.{limits}
use Rattle.reading.proofs.LinesCases.{plan_asked}
use Rattle.reading.proofs.entry.read_lines.Goals as goal

pub after_lines-requires : goal.after_lines-requires
after_lines-requires c = λ n h. plan_asked limits _ _ _ _ _ _ _ _ _ _ _ c.requires c.read_text-answer.ensures n h
