-- The tables of requests and answers have the room that is asked.
use Rattle.dispatch.proofs.program.transcribe.Goals as goal

pub returns : goal.returns
returns c = c.play.ensures
