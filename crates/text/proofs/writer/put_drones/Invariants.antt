use Rattle.tables.specs.Limits.{limits}
use Rattle.text.proofs.WriteLoop.{Writing}
use Rattle.text.proofs.writer.put_drones.Given as goal

abbrev pub invariant-loop-drone : goal.invariant-loop-drone
invariant-loop-drone l = Writing limits l.form l.drones l.plan.names.now l.plan.stop_counts.now l.plan.locations.now l.plan.times.now l.plan.legs.now l.initial.buf l.at l.buf l.drone l.from l.next
