use Rattle.flat.proofs.SignedLaws.{read_fits, read_difference}
use Rattle.flat.proofs.previewing.difference.Goals as goal

pub overflow_sub-result : goal.overflow_sub-result
overflow_sub-result c = read_fits _ _ c.requires.0 c.requires.1

pub returns : goal.returns
returns c = read_difference _ _ c.requires.0 c.requires.1
