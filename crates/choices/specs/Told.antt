-- The code's directions, one for one. Assumes nothing.
use Rattle.choices.specs.Directions.{Direction, as_it_is, turned, left_out}
use Rattle.choices.specs.declared.directions.Direction.{Direction as CodeDirection}
use Rattle.choices.specs.declared.directions.Direction.TheVariants.{AsItIs, Turned, LeftOut}

abbrev pub direction_told : CodeDirection → Direction
direction_told AsItIs = as_it_is
direction_told Turned = turned
direction_told LeftOut = left_out
