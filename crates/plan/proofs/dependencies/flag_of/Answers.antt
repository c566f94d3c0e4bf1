-- The byte of the fixed test is the definition's choice.
use mathlib.Core.Path.{ap, ◌∙◌}
use Rattle.tables.specs.Flags.{fixed_flag}
use Rattle.plan.specs.Dependencies.{flag_of}
use Rattle.plan.proofs.dependencies.flag_of.Goals as goal

pub returns : goal.returns
unfolding fixed_flag flag_of
returns c = c.fixed_flag.ensures ∙ ap fixed_flag c.is_fixed.ensures
