use mathlib.Core.Path.{◌≡◌, refl, sym, ap, ◌∙◌}
use denote.Enum.Declared.{tag_of}
use Rattle.choices.specs.contracts.directions.Direction.{the_type}
use Rattle.choices.specs.declared.directions.Direction.{Direction}
use Rattle.choices.specs.declared.directions.Direction.TheVariants.{AsItIs, Turned, LeftOut}
use Rattle.choices.specs.Directions.{direction_number}
use Rattle.choices.specs.Told.{direction_told}
use native.Mathlib.Omega.{arith}
use Rattle.below.proofs.Fill.{fill_none, fill_store}
use Rattle.below.proofs.Count.{count_start, count_hit, count_miss}
use Rattle.choices.specs.Searching.{choice_in}
use Rattle.choices.proofs.Directed.{number_shut, number_open}
use borrow.Author.Tests.{eq-eqb, ne_eqb}
use Rattle.choices.proofs.directions.fill_directions.Goals as goal

-- the number of a direction in a table
number_told : (d : Direction) → tag_of the_type d ≡ direction_number (direction_told d)
number_told AsItIs = refl
number_told Turned = refl
number_told LeftOut = refl

pub loop-w-init : goal.loop-w-init
loop-w-init c = (fill_none _ _, sym (count_start _), omega arith)

pub loop-w-preserved-then-opens-w-ne1 : goal.loop-w-preserved-then-opens-w-ne1
loop-w-preserved-then-opens-w-ne1 c = (fill_store _ _ _ _ c.loop-w.invariant.0 _ (number_shut c.args.opens.now (choice_in c.args.dirs.now c.args.depth) c.loop-w.w c.if-opens-w-ne1.true), count_miss _ _ _ c.loop-w.invariant.1 (ne_eqb _ _ c.if-opens-w-ne1.true), omega arith)

pub loop-w-preserved : goal.loop-w-preserved
loop-w-preserved c = (fill_store _ _ _ _ c.loop-w.invariant.0 _ (number_open c.args.opens.now (choice_in c.args.dirs.now c.args.depth) c.loop-w.w c.if-opens-w-ne1.false c.loop-w.invariant.1 (number_told c.decided.result ∙ ap direction_number c.decided.ensures)), count_hit _ _ _ c.loop-w.invariant.1 (eq-eqb _ _ c.if-opens-w-ne1.false), omega arith)
