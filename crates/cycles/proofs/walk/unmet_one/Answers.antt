use mathlib.Core.Path.{refl, ap, ◌∙◌}
use native.Mathlib.Omega.{arith}
use Rattle.below.specs.Below.{at}
use Rattle.cycles.proofs.NeedLaws.{read_met, read_unmet}
use Rattle.cycles.proofs.walk.unmet_one.Goals as goal

pub returns-then-v-cur : goal.returns-then-v-cur
returns-then-v-cur c = (read_met _ _ _ _ _ _ _ refl (c.from-d.ensures ∙ ap (at c.args.stops.now.owners.now) c.from.ensures) refl c.if-v-cur.true, omega arith)

pub returns-else-v-cur : goal.returns-else-v-cur
returns-else-v-cur c = (read_unmet _ _ _ _ _ _ _ refl (c.from-d.ensures ∙ ap (at c.args.stops.now.owners.now) c.from.ensures) refl c.if-v-cur.false, omega arith)
