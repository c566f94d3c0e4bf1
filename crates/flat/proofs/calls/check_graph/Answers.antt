-- `flat::calls::check_graph` meets its contract: 41 first, then 40, and the graph of tables that are sound. Assumes nothing.
use mathlib.Core.Path.{sym, ◌∙◌}
use Rattle.tables.specs.Limits.{limits}
use Rattle.flat.proofs.CheckLaws.{too_small, not_sound, usable_now}
use Rattle.flat.proofs.calls.check_graph.Goals as goal

pub returns-then-not-full_size : goal.returns-then-not-full_size
returns-then-not-full_size c = record { checked = too_small limits _ (sym c.full_size.ensures ∙ c.if-not-full_size.true); in_force = tt }

pub check-requires : goal.check-requires
check-requires c = record { at_full_size = sym c.full_size.ensures ∙ c.if-not-full_size.false; room = c.requires }

pub returns-then-not-check : goal.returns-then-not-check
returns-then-not-check c = record { checked = not_sound limits _ (sym c.full_size.ensures ∙ c.if-not-full_size.false) (sym c.check.ensures.0 ∙ c.if-not-check.true); in_force = tt }

pub returns : goal.returns
returns c = record { checked = usable_now limits _ (sym c.full_size.ensures ∙ c.if-not-full_size.false) (sym c.check.ensures.0 ∙ c.if-not-check.false); in_force = c.check.ensures.1 c.if-not-check.false }
