use mathlib.Core.Path.{ap}
use native.Mathlib.Omega.{arith}
use Rattle.raising.specs.Answers.{turn_of}
use Rattle.raising.proofs.ordered.on_turn.Goals as goal

pub offset_bounds-low-on : goal.offset_bounds-low-on
offset_bounds-low-on c = omega (arith, c.requires.2 _ (ap turn_of c.in-Some.is), c.requires.0)

pub bounds-low-on : goal.bounds-low-on
bounds-low-on c = omega (arith, c.requires.2 _ (ap turn_of c.in-Some.is), c.requires.0)
