use Rattle.sound.proofs.Local.{numbers_filled}
use Rattle.sound.proofs.graph.fill_tables.Goals as goal

pub returns : goal.returns
returns c = numbers_filled _ _ _ _ _ _ _ _ _ _ _ _ c.requires.0 c.requires.1 c.fill_stops.ensures.owners c.fill_stops.ensures.numbers c.fill_starts.ensures c.fill_lasts.ensures
