-- A number of pairs that was read is in range.
use native.Mathlib.Omega.{arith}
use mathlib.Core.Path.{sym, ◌∙◌}
use Rattle.site.proofs.SiteCases.{count_range}
use Rattle.site.proofs.read_site.Goals as goal

pub near_lines-requires : goal.near_lines-requires
near_lines-requires c = let r = count_range _ _ _ _ _ (sym c.count_line.ensures ∙ c.in_ok-count.was) in (omega (arith, r, c.requires), r)
