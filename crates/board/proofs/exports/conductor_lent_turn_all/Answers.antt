-- A turn of a list keeps the reserved byte of every record.
use mathlib.Core.Path.{ap, ◌∙◌}
use Rattle.conductor.specs.Changes.{reserved_of}
use Rattle.conductor.proofs.Reserved.{reserved_flips}
use Rattle.board.proofs.exports.conductor_lent_turn_all.Goals as goal

pub returns-clause-past_full_kept : goal.returns-clause-past_full_kept
returns-clause-past_full_kept c = let turned = c.turn_all-reply.ensures in (turned.past_full_kept, ap reserved_of turned.dependencies_after ∙ reserved_flips _ _ _)
