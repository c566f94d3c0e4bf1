-- `tables::zeroing::zero_all` meets its contract: one call zeroes each table and leaves the others alone. Assumes nothing.
use Rattle.tables.proofs.ZeroTables.{each-zeroed}
use Rattle.tables.specs.Limits.{limits}
use Rattle.tables.specs.Tables.{tables_of}
use Rattle.tables.specs.Zero.{zeroed}
use Rattle.tables.proofs.zeroing.zero_all.Goals as goal

pub returns : goal.returns
unfolding zeroed
returns c =
    let a = c.args in
    let before = tables_of a.drone_count.now a.dependency_count.now a.form.now a.names.now a.stop_counts.now a.locations.now a.times.now a.legs.now a.visited.now a.drone_flags.now a.first_drones.now a.first_stops.now a.second_drones.now a.second_stops.now a.flags.now a.pairs.now in
    each-zeroed limits before
    c.zero.ensures
    c.zero-2.ensures
    c.zero-3.ensures
    c.zero-4.ensures
    c.zero-5.ensures
    c.zero-6.ensures
    c.zero-7.ensures
    c.zero-8.ensures
    c.zero-9.ensures
    c.zero-10.ensures
    c.zero-11.ensures
    c.zero-12.ensures
    c.zero-13.ensures
    c.zero-14.ensures
    c.zero-15.ensures
    c.zero-16.ensures
