use mathlib.Core.Path.{sym, ◌∙◌}
use native.Mathlib.Omega.{arith}
use Rattle.tables.specs.Limits.{limits}
use Rattle.joining.proofs.SoundWrites.{drones-room, flags_room}
use Rattle.joining.proofs.Cases.{counts_there}
use Rattle.joining.proofs.tests.tested.Goals as goal

pub bounds-plan-0 : goal.bounds-plan-0
bounds-plan-0 c = let z = counts_there limits _ (sym c.full_size.ensures ∙ c.if-not-full_size.false) in
    omega (arith, z.0)

pub all_at_start-requires : goal.all_at_start-requires
all_at_start-requires c = rw c.from.ensures (drones-room limits _ (sym c.full_size.ensures ∙ c.if-not-full_size.false) (sym c.is_sound.ensures ∙ c.if-not-is_sound.false))

pub bounds-plan-0-2 : goal.bounds-plan-0-2
bounds-plan-0-2 c = let z = counts_there limits _ (sym c.full_size.ensures ∙ c.if-not-full_size.false) in
    omega (arith, z.1)

pub none_turned-requires : goal.none_turned-requires
none_turned-requires c = rw c.from-2.ensures (flags_room limits _ (sym c.full_size.ensures ∙ c.if-not-full_size.false) (sym c.is_sound.ensures ∙ c.if-not-is_sound.false))
