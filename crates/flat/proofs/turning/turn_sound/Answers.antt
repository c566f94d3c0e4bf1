-- The list's tests are those of the turn, its waits turned round are those of the turned tables, and its flipped flag bytes are what the turn leaves. Assumes nothing.
use native.Mathlib.Omega.{arith}
use Rattle.std.proofs.lemmas.Result.{err_from_is_err_and}
use Rattle.tables.specs.Limits.{limits}
use Rattle.flat.proofs.Facts.{facts}
use Rattle.flat.proofs.GraphLaws.{has_counts}
use Rattle.flat.proofs.GroupLaws.{flag_in, can_exchange, group_tables, group_cyclic_lem}
use Rattle.flat.proofs.TurnAnswers.{lists_refused, all_pass, lists_34, lists_0}
use Rattle.flat.proofs.turning.turn_sound.Goals as goal

pub returns-in_err-list_test : goal.returns-in_err-list_test
returns-in_err-list_test c =
    let p = err_from_is_err_and c.from_residual.result c.from_residual.ensures.1 in
    rw (p.1, p.2) (lists_refused limits _ c.requires.tables.usable _ c.requires.group _ c.list_test.ensures c.in_err-list_test.was)

pub exchange_all-requires : goal.exchange_all-requires
exchange_all-requires c =
    let usable = c.requires.tables.usable in
    let held = c.requires.tables.in_force in
    let pass = all_pass limits _ usable _ c.requires.group _ c.list_test.ensures c.in_ok-list_test.was in
    (held.from_size, held.into_size, can_exchange limits _ usable _ pass _ _ _ _ _ held)

pub flat_stops-stops-requires : goal.flat_stops-stops-requires
flat_stops-stops-requires c = has_counts limits _ c.requires.tables.usable (omega arith)

pub flat_waits-waits-requires : goal.flat_waits-waits-requires
flat_waits-waits-requires c = (facts limits _ c.requires.tables.usable).sizes.dependency_count

pub has_cycle-requires : goal.has_cycle-requires
has_cycle-requires c =
    let usable = c.requires.tables.usable in
    let pass = all_pass limits _ usable _ c.requires.group _ c.list_test.ensures c.in_ok-list_test.was in
    let s = c.flat_stops-stops.ensures in
    let w = c.flat_waits-waits.ensures in
    rw (s.owners, s.starts, s.lasts, s.drones, w.from, w.into, w.count) (group_tables limits _ usable _ pass _ _ _ _ _ c.requires.tables.in_force _ _ c.exchange_all.ensures _ s.count)

pub returns-then-has_cycle : goal.returns-then-has_cycle
returns-then-has_cycle c =
    let usable = c.requires.tables.usable in
    let pass = all_pass limits _ usable _ c.requires.group _ c.list_test.ensures c.in_ok-list_test.was in
    let s = c.flat_stops-stops.ensures in
    let w = c.flat_waits-waits.ensures in
    let cycle = group_cyclic_lem limits _ usable _ pass _ _ _ _ _ c.requires.tables.in_force _ _ c.exchange_all.ensures _ s.count c.requires.group _ (rw (s.owners, s.starts, s.lasts, s.drones, w.from, w.into, w.count) at c.has_cycle.ensures) in
    lists_34 limits _ usable _ c.requires.group _ c.list_test.ensures c.in_ok-list_test.was _ cycle c.if-has_cycle.true

pub flip_all-requires : goal.flip_all-requires
flip_all-requires c =
    let usable = c.requires.tables.usable in
    flag_in limits _ usable _ (all_pass limits _ usable _ c.requires.group _ c.list_test.ensures c.in_ok-list_test.was)

pub returns : goal.returns
returns c =
    let usable = c.requires.tables.usable in
    let pass = all_pass limits _ usable _ c.requires.group _ c.list_test.ensures c.in_ok-list_test.was in
    let s = c.flat_stops-stops.ensures in
    let w = c.flat_waits-waits.ensures in
    let cycle = group_cyclic_lem limits _ usable _ pass _ _ _ _ _ c.requires.tables.in_force _ _ c.exchange_all.ensures _ s.count c.requires.group _ (rw (s.owners, s.starts, s.lasts, s.drones, w.from, w.into, w.count) at c.has_cycle.ensures) in
    lists_0 limits _ usable _ c.requires.group _ c.list_test.ensures c.in_ok-list_test.was _ cycle c.if-has_cycle.false _ c.flip_all.ensures
