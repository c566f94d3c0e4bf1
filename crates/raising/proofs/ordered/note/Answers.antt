use Rattle.tables.specs.Limits.{limits}
use Rattle.raising.proofs.OrderLaws.{lesser_one, noted_one}
use Rattle.raising.proofs.ordered.note.Goals as goal

pub returns-then-d-run : goal.returns-then-d-run
returns-then-d-run c = noted_one limits _ _ c.from-d.ensures (lesser_one _ _ c.min.ensures) c.requires.3

pub returns-else-d-run : goal.returns-else-d-run
returns-else-d-run c = noted_one limits _ _ c.from-d.ensures (lesser_one _ _ c.min.ensures) c.requires.3
