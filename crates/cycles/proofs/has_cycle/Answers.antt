use mathlib.Core.Path.{ap, ◌∙◌}
use mathlib.Core.Bool.{not}
use Prim.Native.Nat.{ℕ}
use native.Mathlib.Omega.{arith}
use lib.ListN.{length-replicate}
use Rattle.below.proofs.Index.{zeros-at}
use Rattle.tables.specs.Limits.{limits}
use Rattle.cycles.proofs.CycleLaws.{walked_cyclic}
use Rattle.cycles.proofs.has_cycle.Goals as goal

pub walk-requires-clause-table_len : goal.walk-requires-clause-table_len
walk-requires-clause-table_len c = (length-replicate {A = ℕ} limits.stops 0, zeros-at limits.stops, omega (arith, length-replicate {A = ℕ} limits.stops 0, c.requires.few_stops), λ v l. omega (arith, zeros-at limits.stops v))

pub returns : goal.returns
returns c = ap not c.all_last.ensures ∙ walked_cyclic _ c.requires.placed c.walk.ensures (λ d l. c.at_first.ensures.1 d (omega (arith, c.requires.few_drones)))
