-- A turn keeps the reserved byte of every record.
use mathlib.Core.Path.{ap, ◌∙◌}
use Rattle.conductor.specs.Changes.{reserved_of}
use Rattle.conductor.proofs.Reserved.{reserved_flip}
use Rattle.board.proofs.exports.conductor_lent_turn.Goals as goal

pub returns-clause-past_full_kept : goal.returns-clause-past_full_kept
returns-clause-past_full_kept c = let turned = c.turn-reply.ensures in (turned.past_full_kept, ap reserved_of turned.dependencies_after ∙ reserved_flip _ _ _)
