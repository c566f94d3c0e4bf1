use mathlib.Core.Path.{◌∙◌}
use Rattle.std.proofs.Common.{rules, tests}
use borrow.Author.Tests.{le-leb, lt-ltb}
use Rattle.tables.specs.Limits.{limits}
use Rattle.site.specs.Site.{in_order}
use Rattle.site.proofs.SiteCases.{lex_before}
use Rattle.site.proofs.in_order.Goals as goal

pub returns-then-a-b : goal.returns-then-a-b
unfolding in_order
returns-then-a-b c = rw (le-leb c.args.b limits.location c.if-a-b.true.0, lt-ltb c.args.a c.args.b c.if-a-b.true.1) (c.lt.ensures ∙ lex_before _ _ _ _)

pub returns-else-a-b : goal.returns-else-a-b
unfolding in_order
returns-else-a-b c = search (rules, tests)
