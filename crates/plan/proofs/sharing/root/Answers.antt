use Rattle.plan.proofs.SharingLaws.{root_is}
use Rattle.plan.proofs.sharing.root.Goals as goal

pub returns : goal.returns
returns c = root_is _
