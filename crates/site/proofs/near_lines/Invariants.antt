-- The pairs that are left, stored from here on, give what all of them give from the start.
use Prim.Native.Nat.{◌*◌, ◌-◌}
use mathlib.Core.Path.{◌≡◌}
use lib.ListN.{length}
use Rattle.tables.specs.Limits.{limits}
use Rattle.site.specs.Site.{pairs_at}
use Rattle.site.proofs.SiteCases.{Pairing}
use Rattle.site.proofs.near_lines.Given as goal

abbrev pub invariant-loop-i : goal.invariant-loop-i
invariant-loop-i l = (length l.pairs ≡ length l.initial.pairs) × Pairing (pairs_at limits (l.count - l.i) l.last.lower l.last.upper l.text l.last.next) (pairs_at limits l.count 0 0 l.text l.at) (2 * l.i) l.pairs l.initial.pairs
