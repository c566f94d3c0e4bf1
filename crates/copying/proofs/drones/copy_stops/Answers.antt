use Prim.Native.Nat.{◌+◌, ◌≤◌}
use native.Mathlib.Omega.{arith}
use Rattle.tables.specs.Limits.{limits}
use Rattle.copying.proofs.CopyLaws.{part_copied, stops_many, stops_copied}
use Rattle.copying.proofs.drones.copy_stops.Goals as goal

pub returns-then-total-count : goal.returns-then-total-count
returns-then-total-count c = stops_many limits _ _ _ _ _ _ _ _ _ c.requires.at_bound.4 c.if-total-count.true

pub returns : goal.returns
returns c = let a = c.args in
    let p = c.requires.at_bound in
    let q = c.requires.drones_in_bounds in
    let few : a.total + a.count ≤ limits.stops = omega (arith, c.if-total-count.false, p.2) in
    let locations = part_copied a.locations.now a.into_locations.now _ a.from a.total a.count p.4 (omega (arith, few, q)) c.copy.ensures in
    let times = part_copied a.times.now a.into_times.now _ a.from a.total a.count p.5 (omega (arith, few, q)) c.copy-2.ensures in
    let legs = part_copied a.legs.now a.into_legs.now _ a.from a.total a.count p.6 (omega (arith, few, q)) c.copy-3.ensures in
    stops_copied limits _ _ _ _ _ _ _ _ _ p.4 few locations times legs c.stops_end.ensures
