use mathlib.Core.Path.{◌≡◌}
use Rattle.choices.specs.Searching.{back_to}
use Rattle.choices.proofs.search.step_back.Given as goal

abbrev pub invariant-loop-last : goal.invariant-loop-last
invariant-loop-last l = back_to l.dirs l.depth ≡ back_to l.dirs l.last
