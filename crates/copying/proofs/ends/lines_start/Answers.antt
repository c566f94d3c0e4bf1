use Rattle.copying.proofs.CopyLaws.{from_is}
use Rattle.copying.proofs.ends.lines_start.Goals as goal

pub returns : goal.returns
returns c = from_is _ _ c.put_count.ensures.next_is
