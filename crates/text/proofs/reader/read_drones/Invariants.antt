-- The drones that are left, read and stored from here on, give what all of them give from the start.
use mathlib.Core.List.{[]}
use Prim.Native.Nat.{◌≤◌}
use Rattle.text.proofs.DroneLoop.{Going, Lengths}
use Rattle.text.specs.LinesRead.{drones_at}
use Rattle.tables.specs.Limits.{limits}
use Rattle.tables.specs.Filled.{SameRoutes}
use Rattle.text.proofs.reader.read_drones.Given as goal

abbrev pub invariant-loop-drone : goal.invariant-loop-drone
invariant-loop-drone l = (l.read.total ≤ limits.stops) × Lengths l.routes.names.now l.routes.stop_counts.now l.routes.locations.now l.routes.times.now l.routes.legs.now l.initial.routes.names.now l.initial.routes.stop_counts.now l.initial.routes.locations.now l.initial.routes.times.now l.initial.routes.legs.now
    × SameRoutes l.initial.routes l.routes
    × Going limits l.form l.drones l.text (drones_at limits l.form l.drones l.text l.at [] 0) l.drone l.read.next l.read.total l.routes.names.now l.routes.stop_counts.now l.routes.locations.now l.routes.times.now l.routes.legs.now l.initial.routes.names.now l.initial.routes.stop_counts.now l.initial.routes.locations.now l.initial.routes.times.now l.initial.routes.legs.now
