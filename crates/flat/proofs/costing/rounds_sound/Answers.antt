-- The local tables hold the graph now in force, and the places are where the drones stand. Assumes nothing.
use native.Mathlib.Omega.{arith}
use borrow.Author.Rules.{rules}
use Rattle.tables.specs.Limits.{limits}
use Rattle.flat.proofs.Facts.{facts}
use Rattle.flat.proofs.GraphLaws.{has_counts, places_room, now_ready, now_makespan}
use Rattle.flat.proofs.costing.rounds_sound.Goals as goal

pub flat_stops-stops-requires : goal.flat_stops-stops-requires
flat_stops-stops-requires c = has_counts limits _ c.requires.holds.usable (omega arith)

pub flat_waits-waits-requires : goal.flat_waits-waits-requires
flat_waits-waits-requires c = (facts limits _ c.requires.holds.usable).sizes.dependency_count

pub fill_places-requires : goal.fill_places-requires
fill_places-requires c =
    let room = places_room limits _ c.requires.holds.usable in
    rw c.flat_stops-stops.ensures.drones (room.0, room.1, room.2, search rules)

pub play_rounds-requires : goal.play_rounds-requires
play_rounds-requires c =
    let s = c.flat_stops-stops.ensures in
    let w = c.flat_waits-waits.ensures in
    rw (s.owners, s.starts, s.lasts, s.drones, w.from, w.into, w.count) (now_ready limits _ c.requires.holds.usable _ s.count _ _ _ _ _ c.requires.holds.in_force _ (rw s.drones at c.fill_places.ensures) (omega arith))

pub returns : goal.returns
returns c =
    let s = c.flat_stops-stops.ensures in
    let w = c.flat_waits-waits.ensures in
    record { says = λ t p. now_makespan limits _ p.usable _ s.count _ _ _ _ _ p.in_force _ (rw s.drones at c.fill_places.ensures) _ (rw (s.owners, s.starts, s.lasts, s.drones, w.from, w.into, w.count) at c.play_rounds.ensures.0) }
