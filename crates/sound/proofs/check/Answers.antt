use mathlib.Core.Path.{refl, sym, ◌∙◌}
use native.Mathlib.Omega.{arith}
use Rattle.below.proofs.Tests.{true_or_false}
use Rattle.sound.proofs.Whole.{counts_say, counted, firsts_limited, seconds_limited, counts_wrong, names_wrong, graph-wrong, drones-wrong, waits_wrong, unused_wrong, progress_last, pairs_say}
use Rattle.tables.proofs.SizeLaws.{full_sizes}
use Rattle.sound.proofs.check.Goals as goal

pub bounds-plan-0 : goal.bounds-plan-0
bounds-plan-0 c = omega (arith, (full_sizes _ _ c.requires.at_full_size).drone_count_lem)

pub bounds-plan-0-2 : goal.bounds-plan-0-2
bounds-plan-0-2 c = omega (arith, (full_sizes _ _ c.requires.at_full_size).dependency_count)

pub bounds-plan-0-3 : goal.bounds-plan-0-3
bounds-plan-0-3 c = omega (arith, (full_sizes _ _ c.requires.at_full_size).form)

pub counts_sound-requires : goal.counts_sound-requires
counts_sound-requires c = (full_sizes _ _ c.requires.at_full_size).stop_counts_lem

pub returns-then-not-counts_sound : goal.returns-then-not-counts_sound
returns-then-not-counts_sound c = (counts_wrong _ _ _ c.from-drones.ensures _ c.from-m.ensures _ c.counts_sound.ensures (c.if-not-counts_sound.true), λ e. true_or_false e refl)

pub stop_total-n-requires : goal.stop_total-n-requires
stop_total-n-requires c = record { has_counts = omega (arith, (full_sizes _ _ c.requires.at_full_size).stop_counts_lem, (counts_say _ _ _ _ _ (sym c.counts_sound.ensures ∙ c.if-not-counts_sound.false)).few_drones); drones_fit = omega (arith, (counts_say _ _ _ _ _ (sym c.counts_sound.ensures ∙ c.if-not-counts_sound.false)).few_drones) }

pub lists_sound-requires : goal.lists_sound-requires
lists_sound-requires c = ((full_sizes _ _ c.requires.at_full_size).names, (counts_say _ _ _ _ _ (sym c.counts_sound.ensures ∙ c.if-not-counts_sound.false)).few_drones, (full_sizes _ _ c.requires.at_full_size).pairs)

pub returns-then-not-lists_sound : goal.returns-then-not-lists_sound
returns-then-not-lists_sound c = (names_wrong _ _ _ c.from-drones.ensures _ c.from-m.ensures _ c.counts_sound.ensures (c.if-not-counts_sound.false) _ c.lists_sound.ensures (c.if-not-lists_sound.true), λ e. true_or_false e refl)

pub graph_sound-requires : goal.graph_sound-requires
graph_sound-requires c = let C = counted _ _ _ _ _ _ (full_sizes _ _ c.requires.at_full_size).stop_counts_lem (sym c.counts_sound.ensures ∙ c.if-not-counts_sound.false) c.stop_total-n.ensures in (C, omega (arith, (full_sizes _ _ c.requires.at_full_size).locations, C.few_stops), omega (arith, (full_sizes _ _ c.requires.at_full_size).times, C.few_stops), omega (arith, (full_sizes _ _ c.requires.at_full_size).legs, C.few_stops), record { has_first_drones = omega (arith, (full_sizes _ _ c.requires.at_full_size).first_drones_lem, C.few_dependencies); has_first_stops = omega (arith, (full_sizes _ _ c.requires.at_full_size).first_stops_lem, C.few_dependencies); has_second_drones = omega (arith, (full_sizes _ _ c.requires.at_full_size).second_drones_lem, C.few_dependencies); has_second_stops = omega (arith, (full_sizes _ _ c.requires.at_full_size).second_stops_lem, C.few_dependencies); has_flags = omega (arith, (full_sizes _ _ c.requires.at_full_size).flags, C.few_dependencies) }, c.requires.room, (full_sizes _ _ c.requires.at_full_size).drone_flags, pairs_say _ _ _ _ (full_sizes _ _ c.requires.at_full_size).pairs (sym c.lists_sound.ensures ∙ c.if-not-lists_sound.false))

pub returns-then-not-graph_sound : goal.returns-then-not-graph_sound
returns-then-not-graph_sound c = (graph-wrong _ _ _ c.from-drones.ensures _ c.from-m.ensures _ c.counts_sound.ensures (c.if-not-counts_sound.false) _ c.lists_sound.ensures (c.if-not-lists_sound.false) _ c.stop_total-n.ensures _ c.graph_sound.ensures.0 (c.if-not-graph_sound.true), λ e. true_or_false e refl)

pub drones_sound-requires : goal.drones_sound-requires
drones_sound-requires c = let C = counted _ _ _ _ _ _ (full_sizes _ _ c.requires.at_full_size).stop_counts_lem (sym c.counts_sound.ensures ∙ c.if-not-counts_sound.false) c.stop_total-n.ensures in (omega (arith, (full_sizes _ _ c.requires.at_full_size).stop_counts_lem, C.few_drones), omega (arith, (full_sizes _ _ c.requires.at_full_size).visited, C.few_drones), omega (arith, (full_sizes _ _ c.requires.at_full_size).drone_flags, C.few_drones), C.have_stops)

pub returns-then-not-drones_sound : goal.returns-then-not-drones_sound
returns-then-not-drones_sound c = (drones-wrong _ _ _ c.from-drones.ensures _ c.from-m.ensures _ c.counts_sound.ensures (c.if-not-counts_sound.false) _ c.lists_sound.ensures (c.if-not-lists_sound.false) _ c.stop_total-n.ensures _ c.graph_sound.ensures.0 (c.if-not-graph_sound.false) _ c.drones_sound.ensures (c.if-not-drones_sound.true), λ e. true_or_false e refl)

pub waits_kept-requires : goal.waits_kept-requires
waits_kept-requires c = let C = counted _ _ _ _ _ _ (full_sizes _ _ c.requires.at_full_size).stop_counts_lem (sym c.counts_sound.ensures ∙ c.if-not-counts_sound.false) c.stop_total-n.ensures in let G = sym c.graph_sound.ensures.0 ∙ c.if-not-graph_sound.false in record { m_in_bounds = record { has_first_drones = omega (arith, (full_sizes _ _ c.requires.at_full_size).first_drones_lem, C.few_dependencies); has_first_stops = omega (arith, (full_sizes _ _ c.requires.at_full_size).first_stops_lem, C.few_dependencies); has_second_drones = omega (arith, (full_sizes _ _ c.requires.at_full_size).second_drones_lem, C.few_dependencies); has_second_stops = omega (arith, (full_sizes _ _ c.requires.at_full_size).second_stops_lem, C.few_dependencies); has_flags = omega (arith, (full_sizes _ _ c.requires.at_full_size).flags, C.few_dependencies) }; drones_in_bounds = ((full_sizes _ _ c.requires.at_full_size).visited, (full_sizes _ _ c.requires.at_full_size).drone_flags, firsts_limited _ _ _ _ _ _ _ _ _ _ _ _ _ _ _ _ C.few_drones G, seconds_limited _ _ _ _ _ _ _ _ _ _ _ _ _ _ _ _ C.few_drones G) }

pub returns-then-not-waits_kept : goal.returns-then-not-waits_kept
returns-then-not-waits_kept c = (waits_wrong _ _ _ c.from-drones.ensures _ c.from-m.ensures _ c.counts_sound.ensures (c.if-not-counts_sound.false) _ c.lists_sound.ensures (c.if-not-lists_sound.false) _ c.stop_total-n.ensures _ c.graph_sound.ensures.0 (c.if-not-graph_sound.false) _ c.drones_sound.ensures (c.if-not-drones_sound.false) _ c.waits_kept.ensures (c.if-not-waits_kept.true), λ e. true_or_false e refl)

pub plan_unused-requires : goal.plan_unused-requires
plan_unused-requires c = record { drones_le_drones = ((counts_say _ _ _ _ _ (sym c.counts_sound.ensures ∙ c.if-not-counts_sound.false)).few_drones, (full_sizes _ _ c.requires.at_full_size).names); drones_in_bounds = ((full_sizes _ _ c.requires.at_full_size).stop_counts_lem, (full_sizes _ _ c.requires.at_full_size).locations, (full_sizes _ _ c.requires.at_full_size).times, (full_sizes _ _ c.requires.at_full_size).legs); dependencies_in_bounds = ((full_sizes _ _ c.requires.at_full_size).first_drones_lem, (full_sizes _ _ c.requires.at_full_size).first_stops_lem, (full_sizes _ _ c.requires.at_full_size).second_drones_lem, (full_sizes _ _ c.requires.at_full_size).second_stops_lem) }

pub returns-then-not-plan_unused : goal.returns-then-not-plan_unused
returns-then-not-plan_unused c = (unused_wrong _ _ _ c.from-drones.ensures _ c.from-m.ensures _ c.counts_sound.ensures (c.if-not-counts_sound.false) _ c.lists_sound.ensures (c.if-not-lists_sound.false) _ c.stop_total-n.ensures _ c.graph_sound.ensures.0 (c.if-not-graph_sound.false) _ c.drones_sound.ensures (c.if-not-drones_sound.false) _ c.waits_kept.ensures (c.if-not-waits_kept.false) _ c.plan_unused.ensures (c.if-not-plan_unused.true), λ e. true_or_false e refl)

pub progress_unused-requires : goal.progress_unused-requires
progress_unused-requires c = ((full_sizes _ _ c.requires.at_full_size).visited, (full_sizes _ _ c.requires.at_full_size).drone_flags, (full_sizes _ _ c.requires.at_full_size).flags)

pub returns : goal.returns
returns c = (progress_last _ _ _ c.from-drones.ensures _ c.from-m.ensures _ c.counts_sound.ensures (c.if-not-counts_sound.false) _ c.lists_sound.ensures (c.if-not-lists_sound.false) _ c.stop_total-n.ensures _ c.graph_sound.ensures.0 (c.if-not-graph_sound.false) _ c.drones_sound.ensures (c.if-not-drones_sound.false) _ c.waits_kept.ensures (c.if-not-waits_kept.false) _ c.plan_unused.ensures _ (c.if-not-plan_unused.false) c.progress_unused.ensures, λ e. rw (c.from-drones.ensures, c.from-m.ensures) at c.graph_sound.ensures.1 (c.if-not-graph_sound.false))
