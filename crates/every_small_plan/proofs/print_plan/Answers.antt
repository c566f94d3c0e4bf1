-- A length that was answered is that of a part of the buffer.
use Rattle.small_plans.proofs.Writing.{given-fits, given-part}
use Rattle.every_small_plan.proofs.print_plan.Goals as goal

pub slice_bounds-buffer-end : goal.slice_bounds-buffer-end
slice_bounds-buffer-end g c = given-fits _ _ _ _ _ c.small_plan-answer.ensures c.in-Ok.is

pub slice_bounds-write_all-end : goal.slice_bounds-write_all-end
slice_bounds-write_all-end g c = given-part _ _ _ _ _ c.small_plan-answer.ensures c.in-Ok.is
