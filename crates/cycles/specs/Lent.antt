-- The plan graph that lent tables of stops and waits hold. Assumes nothing.
use Rattle.below.specs.Below.{at}
use Rattle.tables.specs.Limits.{Limits}
use Rattle.precedence.specs.Graph.{Plan}
use Rattle.cycles.specs.Flat.{flat_plan, FlatTables}
use Rattle.cycles.specs.Walk.{Course, course_with}
use Rattle.cycles.specs.declared.lent.FlatStops.{FlatStops}
use Rattle.cycles.specs.declared.lent.FlatWaits.{FlatWaits}

-- the plan that they make
abbrev pub plan_held : FlatStops → FlatWaits → Plan
plan_held stops waits = flat_plan (at stops.owners.now) (at stops.starts.now) (at stops.lasts.now) stops.drones (at waits.from.now) (at waits.into.now) waits.count

-- .. as it is walked
abbrev pub course_held : FlatStops → FlatWaits → Course
course_held stops waits = course_with stops.owners.now stops.starts.now stops.lasts.now stops.drones stops.count waits.from.now waits.into.now waits.count

-- they are tables of such a plan, within the limits
abbrev pub TablesHeld : Limits → FlatStops → FlatWaits → Type 0
TablesHeld L stops waits = FlatTables L stops.owners.now stops.starts.now stops.lasts.now stops.drones stops.count waits.from.now waits.into.now waits.count
