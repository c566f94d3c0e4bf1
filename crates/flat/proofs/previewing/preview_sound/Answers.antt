-- As the turn, on a copy of the waits: the cost is reckoned before they are turned round and after it. Assumes nothing.
use native.Mathlib.Omega.{arith}
use borrow.Author.Rules.{rules}
use Rattle.std.proofs.lemmas.Result.{err_from_is_err_and}
use Rattle.tables.specs.Limits.{limits}
use Rattle.flat.proofs.Facts.{facts}
use Rattle.flat.proofs.GraphLaws.{has_counts, places_room, now_ready, now_cost}
use Rattle.flat.proofs.GroupLaws.{can_exchange, group_tables, group_cyclic_lem, group_in_force}
use Rattle.flat.proofs.PreviewLaws.{cost-small}
use Rattle.flat.proofs.TurnAnswers.{as_refused, lists_refused, all_pass, lists_34, usable_listed, list_previews_0}
use Rattle.flat.proofs.previewing.preview_sound.Goals as goal

pub returns-in_err-list_test : goal.returns-in_err-list_test
returns-in_err-list_test c =
    let p = err_from_is_err_and c.from_residual.result c.from_residual.ensures.1 in
    rw (p.1, p.2) (as_refused limits _ _ _ (lists_refused limits _ c.requires.tables.usable _ c.requires.group _ c.list_test.ensures c.in_err-list_test.was))

pub flat_stops-stops-requires : goal.flat_stops-stops-requires
flat_stops-stops-requires c = has_counts limits _ c.requires.tables.usable (omega arith)

pub flat_waits-waits-requires : goal.flat_waits-waits-requires
flat_waits-waits-requires c = (facts limits _ c.requires.tables.usable).sizes.dependency_count

pub fill_places-requires : goal.fill_places-requires
fill_places-requires c =
    let room = places_room limits _ c.requires.tables.usable in
    rw c.flat_stops-stops.ensures.drones (room.0, room.1, room.2, search rules)

pub remaining_cost-before-requires : goal.remaining_cost-before-requires
remaining_cost-before-requires c =
    let s = c.flat_stops-stops.ensures in
    let w = c.flat_waits-waits.ensures in
    rw (s.owners, s.starts, s.lasts, s.drones, w.from, w.into, w.count) (now_ready limits _ c.requires.tables.usable _ s.count _ _ _ _ _ c.requires.tables.in_force _ (rw s.drones at c.fill_places.ensures) (omega arith))

pub exchange_all-requires : goal.exchange_all-requires
exchange_all-requires c =
    let usable = c.requires.tables.usable in
    let held = c.requires.tables.in_force in
    let pass = all_pass limits _ usable _ c.requires.group _ c.list_test.ensures c.in_ok-list_test.was in
    (held.from_size, held.into_size, can_exchange limits _ usable _ pass _ _ _ _ _ held)

pub flat_waits-turned-requires : goal.flat_waits-turned-requires
flat_waits-turned-requires c = (facts limits _ c.requires.tables.usable).sizes.dependency_count

pub has_cycle-requires : goal.has_cycle-requires
has_cycle-requires c =
    let usable = c.requires.tables.usable in
    let pass = all_pass limits _ usable _ c.requires.group _ c.list_test.ensures c.in_ok-list_test.was in
    let s = c.flat_stops-stops.ensures in
    let w = c.flat_waits-turned.ensures in
    rw (s.owners, s.starts, s.lasts, s.drones, w.from, w.into, w.count) (group_tables limits _ usable _ pass _ _ _ _ _ c.requires.tables.in_force _ _ c.exchange_all.ensures _ s.count)

pub returns-then-has_cycle : goal.returns-then-has_cycle
returns-then-has_cycle c =
    let usable = c.requires.tables.usable in
    let pass = all_pass limits _ usable _ c.requires.group _ c.list_test.ensures c.in_ok-list_test.was in
    let s = c.flat_stops-stops.ensures in
    let w = c.flat_waits-turned.ensures in
    let cycle = group_cyclic_lem limits _ usable _ pass _ _ _ _ _ c.requires.tables.in_force _ _ c.exchange_all.ensures _ s.count c.requires.group _ (rw (s.owners, s.starts, s.lasts, s.drones, w.from, w.into, w.count) at c.has_cycle.ensures) in
    as_refused limits _ _ _ (lists_34 limits _ usable _ c.requires.group _ c.list_test.ensures c.in_ok-list_test.was _ cycle c.if-has_cycle.true)

pub remaining_cost-after-requires : goal.remaining_cost-after-requires
remaining_cost-after-requires c =
    let usable = c.requires.tables.usable in
    let pass = all_pass limits _ usable _ c.requires.group _ c.list_test.ensures c.in_ok-list_test.was in
    let s = c.flat_stops-stops.ensures in
    let w = c.flat_waits-turned.ensures in
    let cycle = group_cyclic_lem limits _ usable _ pass _ _ _ _ _ c.requires.tables.in_force _ _ c.exchange_all.ensures _ s.count c.requires.group _ (rw (s.owners, s.starts, s.lasts, s.drones, w.from, w.into, w.count) at c.has_cycle.ensures) in
    let usable_after = usable_listed limits _ usable _ c.requires.group _ c.list_test.ensures c.in_ok-list_test.was _ cycle c.if-has_cycle.false in
    let held_after = group_in_force limits _ usable _ pass _ _ _ _ _ c.requires.tables.in_force _ _ c.exchange_all.ensures in
    rw (s.owners, s.starts, s.lasts, s.drones, w.from, w.into, w.count) (now_ready limits _ usable_after _ s.count _ _ _ _ _ held_after _ (rw s.drones at c.fill_places.ensures) (omega arith))

pub difference-requires : goal.difference-requires
difference-requires c =
    let usable = c.requires.tables.usable in
    let pass = all_pass limits _ usable _ c.requires.group _ c.list_test.ensures c.in_ok-list_test.was in
    let s = c.flat_stops-stops.ensures in
    let w = c.flat_waits-turned.ensures in
    let v = c.flat_waits-waits.ensures in
    let cycle = group_cyclic_lem limits _ usable _ pass _ _ _ _ _ c.requires.tables.in_force _ _ c.exchange_all.ensures _ s.count c.requires.group _ (rw (s.owners, s.starts, s.lasts, s.drones, w.from, w.into, w.count) at c.has_cycle.ensures) in
    let usable_after = usable_listed limits _ usable _ c.requires.group _ c.list_test.ensures c.in_ok-list_test.was _ cycle c.if-has_cycle.false in
    let held_after = group_in_force limits _ usable _ pass _ _ _ _ _ c.requires.tables.in_force _ _ c.exchange_all.ensures in
    let stand = rw s.drones at c.fill_places.ensures in
    let after = now_cost limits _ usable_after _ s.count _ _ _ _ _ held_after _ stand _ (rw (s.owners, s.starts, s.lasts, s.drones, w.from, w.into, w.count) at c.remaining_cost-after.ensures) in
    let before = now_cost limits _ usable _ s.count _ _ _ _ _ c.requires.tables.in_force _ stand _ (rw (s.owners, s.starts, s.lasts, s.drones, v.from, v.into, v.count) at c.remaining_cost-before.ensures) in
    (cost-small _ _ after, cost-small _ _ before)

pub returns : goal.returns
returns c =
    let usable = c.requires.tables.usable in
    let pass = all_pass limits _ usable _ c.requires.group _ c.list_test.ensures c.in_ok-list_test.was in
    let s = c.flat_stops-stops.ensures in
    let w = c.flat_waits-turned.ensures in
    let v = c.flat_waits-waits.ensures in
    let cycle = group_cyclic_lem limits _ usable _ pass _ _ _ _ _ c.requires.tables.in_force _ _ c.exchange_all.ensures _ s.count c.requires.group _ (rw (s.owners, s.starts, s.lasts, s.drones, w.from, w.into, w.count) at c.has_cycle.ensures) in
    let usable_after = usable_listed limits _ usable _ c.requires.group _ c.list_test.ensures c.in_ok-list_test.was _ cycle c.if-has_cycle.false in
    let held_after = group_in_force limits _ usable _ pass _ _ _ _ _ c.requires.tables.in_force _ _ c.exchange_all.ensures in
    let stand = rw s.drones at c.fill_places.ensures in
    let after = now_cost limits _ usable_after _ s.count _ _ _ _ _ held_after _ stand _ (rw (s.owners, s.starts, s.lasts, s.drones, w.from, w.into, w.count) at c.remaining_cost-after.ensures) in
    let before = now_cost limits _ usable _ s.count _ _ _ _ _ c.requires.tables.in_force _ stand _ (rw (s.owners, s.starts, s.lasts, s.drones, v.from, v.into, v.count) at c.remaining_cost-before.ensures) in
    list_previews_0 limits _ usable _ c.requires.group _ c.list_test.ensures c.in_ok-list_test.was _ cycle c.if-has_cycle.false cost-small _ _ after before _ c.difference.ensures
