use Rattle.std.proofs.lemmas.List.Sorted.{non_decreasing_from_is_sorted}
use Rattle.plan.proofs.CheckLaws.{rising_sorted}
use Rattle.plan.proofs.check.are_rising.Goals as goal

pub returns : goal.returns
returns c = rising_sorted _ _ _ _ (non_decreasing_from_is_sorted _ _ c.is_sorted.ensures.cases) c.requires
