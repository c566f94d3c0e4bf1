-- The key stands at the start of the last line, past the first test.
use native.Mathlib.Omega.{arith}
use mathlib.Core.Bool.{true}
use mathlib.Core.Path.{◌≡◌, refl, sym, ◌∙◌}
use Rattle.lines.specs.Bytes.{is_at}
use Rattle.lines.proofs.ByteLaws.{is_at_in}
use Rattle.site.specs.Site.{site_end}
use Rattle.site.proofs.ends.Goals.{Else-not-starts}
use Rattle.site.proofs.ends.Goals as goal

keyed : (c : Else-not-starts) → is_at c.args.text.now c.args.last site_end ≡ true
keyed c = sym c.starts.ensures ∙ c.if-not-starts.false

pub overflow_add-end : goal.overflow_add-end
overflow_add-end c = let h = is_at_in _ _ _ _ (keyed (goal.at.overflow_add-end c).Else-not-starts) refl in omega arith
