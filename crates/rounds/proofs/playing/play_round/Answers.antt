use Rattle.rounds.proofs.OneRound.{aloft_after, flew}
use Rattle.rounds.proofs.playing.play_round.Goals as goal

pub returns : goal.returns
returns c = (aloft_after _ _ _ _ _ _ _ _ c.requires.0 c.args.legs.now _ _ c.requires.1 _ _ _ c.look_all.ensures.1 _ _ _ c.go_on_all.ensures (c.requires.4.places_size, c.requires.4.flown_size, c.look_all.ensures.0) c.requires.4.short c.requires.3, flew _ _ _ _ _ _ _ _ c.requires.0 c.args.legs.now _ _ c.requires.1 _ _ _ c.look_all.ensures.1 _ _ _ c.go_on_all.ensures)
