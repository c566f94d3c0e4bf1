use mathlib.Core.Path.{◌∙◌}
use native.Mathlib.Omega.{arith}
use Rattle.near.proofs.NearLaws.{meets_equal, meets_upward, meets_downward}
use Rattle.near.proofs.meets.Goals as goal

pub returns-then-a-b : goal.returns-then-a-b
returns-then-a-b c = meets_equal c.requires _ _ c.if-a-b.true

pub returns-then-a-b-2 : goal.returns-then-a-b-2
returns-then-a-b-2 c = c.is_listed.ensures ∙ meets_upward c.requires _ _ c.if-a-b-2.true

pub returns : goal.returns
returns c = c.is_listed-2.ensures ∙ meets_downward c.requires _ _ (omega (arith, c.if-a-b.false, c.if-a-b-2.false))
