use Rattle.tables.specs.Limits.{limits}
use Rattle.copying.proofs.LoopLaws.{Copying}
use Rattle.copying.proofs.drones.copy_drones.Given as goal

abbrev pub invariant-loop-i : goal.invariant-loop-i
invariant-loop-i l = Copying limits l.form l.drones l.plan.names.now l.plan.stop_counts.now l.plan.locations.now l.plan.times.now l.plan.legs.now l.at l.drone l.total l.i l.from l.copied.next l.copied.total l.into_names l.into_counts l.into_locations l.into_times l.into_legs l.initial.into_names l.initial.into_counts l.initial.into_locations l.initial.into_times l.initial.into_legs
