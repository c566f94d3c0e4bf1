-- The key stands at the line's start, past the first test.
use native.Mathlib.Omega.{arith}
use mathlib.Core.Bool.{true}
use mathlib.Core.Path.{◌≡◌, refl, sym, ◌∙◌}
use Rattle.lines.specs.Bytes.{is_at}
use Rattle.lines.proofs.ByteLaws.{is_at_in}
use Rattle.site.specs.Site.{near_key}
use Rattle.site.proofs.near_line.Goals.{Else-not-starts}
use Rattle.site.proofs.near_line.Goals as goal

keyed : (c : Else-not-starts) → is_at c.args.text.now c.args.at near_key ≡ true
keyed c = sym c.starts.ensures ∙ c.if-not-starts.false

pub overflow_add-at : goal.overflow_add-at
overflow_add-at c = let h = is_at_in _ _ _ _ (keyed (goal.at.overflow_add-at c).Else-not-starts) refl in omega arith
