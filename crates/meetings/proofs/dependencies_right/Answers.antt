-- The table is right exactly where its entries are and there are as many as meetings, in whichever order the two are tested.
use borrow.Author.Tests.{ne_eqb}
use mathlib.Core.Path.{sym, ◌∙◌}
use Rattle.tables.specs.Limits.{limits}
use Rattle.near.proofs.NearLaws.{paired, meets_symmetric}
use Rattle.meetings.proofs.Right.{right-not, right_count, right_miscounted, right-entries}
use Rattle.meetings.proofs.dependencies_right.Goals as goal

pub all_meetings-requires : goal.all_meetings-requires
all_meetings-requires c = (paired limits _ _ c.requires.0 c.pair_count-count.ensures.0, c.requires.1.grouped, c.requires.1.has_owners, c.requires.1.has_locations, c.requires.1.few)

pub are_right-requires : goal.are_right-requires
are_right-requires c = (paired limits _ _ c.requires.0 c.pair_count-count.ensures.0, c.requires.1, c.requires.2)

pub returns-then-all_meetings-m : goal.returns-then-all_meetings-m
returns-then-all_meetings-m c = λ numbers. right-entries _ (meets_symmetric _) _ _ _ _ _ c.requires.1.steady _ _ _ _ _ c.all_meetings.ensures c.if-all_meetings-m.true c.are_right.ensures

pub returns-else-all_meetings-m : goal.returns-else-all_meetings-m
returns-else-all_meetings-m c = λ numbers. ne_eqb _ _ c.if-all_meetings-m.false ∙ right_miscounted _ (meets_symmetric _) _ _ _ _ _ c.requires.1.steady _ _ _ _ c.all_meetings.ensures c.if-all_meetings-m.false

pub returns-then-are_right : goal.returns-then-are_right
returns-then-are_right c = λ numbers. right_count _ (meets_symmetric _) _ _ _ _ _ c.requires.1.steady _ _ _ _ (sym c.are_right-2.ensures ∙ c.if-are_right.true) c.all_meetings-then-are_right.ensures

pub returns-else-are_right : goal.returns-else-are_right
returns-else-are_right c = λ numbers. c.if-are_right.false ∙ right-not _ (meets_symmetric _) _ _ _ _ _ c.requires.1.steady _ _ _ (sym c.are_right-2.ensures ∙ c.if-are_right.false)
