-- The tables have room for what the text's writer reads, and its two answers are the writer's replies.
use native.Mathlib.Omega.{arith}
use Rattle.tables.specs.Limits.{limits}
use Rattle.tables.specs.Tables.{Tables}
use Rattle.tables.specs.Lent.{lent_tables}
use Rattle.flat.proofs.Facts.{Facts, facts}
use Rattle.flat.proofs.WritingLaws.{writable, ok_written}
use Rattle.flat.proofs.cores.write_sound.Goals.{Start}
use Rattle.flat.proofs.cores.write_sound.Goals as goal

abbrev given : Start → Tables
given c = lent_tables c.args.plan.now c.args.visited.now c.args.drone_flags.now c.args.sides.now c.args.flags.now

known : (c : Start) → Facts limits (given c)
known c = facts limits (given c) c.requires

pub bounds-plan-0 : goal.bounds-plan-0
bounds-plan-0 c = omega (arith, (known (goal.at.bounds-plan-0 c).Start).sizes.drone_count_lem)

pub bounds-plan-0-2 : goal.bounds-plan-0-2
bounds-plan-0-2 c = omega (arith, (known (goal.at.bounds-plan-0-2 c).Start).sizes.form)

pub write_text-requires : goal.write_text-requires
write_text-requires c = rw c.from.ensures (writable limits _ c.requires)

pub returns : goal.returns
returns c = ok_written limits _ c.requires _ _ _ _ (rw c.from.ensures at c.write_text.ensures) c.ok_or.ensures.value
