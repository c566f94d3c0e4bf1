use mathlib.Core.Path.{sym, ◌∙◌}
use Rattle.near.proofs.NearLaws.{near_none}
use Rattle.meetings.proofs.NearCounts.{meetings_never}
use Rattle.meetings.proofs.nearby.near_meetings.Goals as goal

pub returns-then-count-eq0 : goal.returns-then-count-eq0
returns-then-count-eq0 c = meetings_never _ _ _ _ (near_none _ (sym c.requires.0.counted ∙ c.if-count-eq0.true))
