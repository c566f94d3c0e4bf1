use Prim.Native.Nat.{ℕ}
use lib.ListN.{length-replicate}
use Rattle.below.proofs.Index.{zeros-at}
use Rattle.tables.specs.Limits.{limits}
use mathlib.Core.Path.{◌∙◌}
use Rattle.rounds.proofs.Readiness.{last_in, last_small, last_sum}
use Rattle.rounds.proofs.chains.remaining_cost.Goals as goal

pub stop_rounds-requires-clause-table_len : goal.stop_rounds-requires-clause-table_len
stop_rounds-requires-clause-table_len c = (length-replicate {A = ℕ} limits.stops 0, zeros-at limits.stops)

pub last_rounds-requires : goal.last_rounds-requires
last_rounds-requires c = (c.requires.tables.few_drones, last_in _ _ _ _ _ _ _ _ _ _ c.requires _ c.stop_rounds.ensures, last_small _ _ _ _ _ _ _ _ _ _ c.requires _ c.stop_rounds.ensures)

pub returns : goal.returns
returns c = c.last_rounds.ensures ∙ last_sum _ _ _ _ _ _ _ _ _ _ c.requires _ c.stop_rounds.ensures
