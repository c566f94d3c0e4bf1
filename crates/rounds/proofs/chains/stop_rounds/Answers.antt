use Rattle.rounds.proofs.Readiness.{ready_begun, ready_table}
use Rattle.rounds.proofs.chains.stop_rounds.Goals as goal

pub walk-requires-clause-flat_tables : goal.walk-requires-clause-flat_tables
walk-requires-clause-flat_tables c = (c.requires.ready.tables, ready_begun _ _ _ _ _ _ _ _ _ _ c.requires.ready _ c.at_visited.ensures.0 c.at_visited.ensures.1)

pub returns : goal.returns
returns c = ready_table _ _ _ _ _ _ _ _ _ _ c.requires.ready _ c.at_visited.ensures.0 c.at_visited.ensures.1 _ _ _ c.walk.ensures
