-- The two tests of a board that knows both forms.
use native.Mathlib.Omega.{arith}
use mathlib.Core.Path.{sym, ◌∙◌}
use Rattle.tables.specs.Limits.{limits}
use Rattle.lines.proofs.FormLaws.{form_back, form_none}
use Rattle.lines.proofs.forms.read_form.Goals as goal

pub returns-then-starts : goal.returns-then-starts
returns-then-starts c = rw (form_back limits _ 1 (omega arith) (omega arith) (omega arith) (sym c.starts.ensures ∙ c.if-starts.true))

pub returns-then-starts-2 : goal.returns-then-starts-2
returns-then-starts-2 c = rw (form_back limits _ 2 (omega arith) (omega arith) (omega arith) (sym c.starts-2.ensures ∙ c.if-starts-2.true))

pub returns : goal.returns
returns c = rw (form_none limits _ (sym c.starts.ensures ∙ c.if-starts.false) (sym c.starts-2.ensures ∙ c.if-starts-2.false))
