use mathlib.Core.Path.{refl}
use Rattle.below.proofs.Tests.{true_or_false}
use Rattle.sound.proofs.Local.{code_stops, code_records, known, first_limit, second_limit, first_number, second_number, code_given, code_graph, code_laid}
use Rattle.sound.proofs.graph.graph_sound.Goals as goal

pub returns-then-not-stops_sound : goal.returns-then-not-stops_sound
returns-then-not-stops_sound c = (code_stops _ _ _ _ _ _ _ _ _ _ _ _ _ _ _ c.requires.0 _ _ _ _ c.fill_tables.ensures _ c.stops_sound.ensures (c.if-not-stops_sound.true), λ e. true_or_false e refl)

pub returns-then-not-records_sound : goal.returns-then-not-records_sound
returns-then-not-records_sound c = (code_records _ _ _ _ _ _ _ _ _ _ _ _ _ _ _ c.requires.0 _ _ _ _ c.fill_tables.ensures _ c.stops_sound.ensures _ c.records_sound.ensures (c.if-not-stops_sound.false) (c.if-not-records_sound.true), λ e. true_or_false e refl)

pub number_through-requires : goal.number_through-requires
number_through-requires c = let K = known _ _ _ c.args.form _ c.args.plan.now.locations.now c.args.plan.now.times.now c.args.plan.now.legs.now c.args.sides.now.first_drones.now c.args.sides.now.first_stops.now c.args.sides.now.second_drones.now c.args.sides.now.second_stops.now c.args.plan.now.pairs.now c.args.drone_flags.now c.args.flags.now c.requires.0 _ _ _ _ c.fill_tables.ensures _ c.stops_sound.ensures _ c.records_sound.ensures (c.if-not-stops_sound.false) (c.if-not-records_sound.false) in record { m_in_bounds = (c.requires.4.has_first_drones, c.requires.4.has_first_stops, c.requires.0.few_dependencies, c.requires.5.from_room); by_index = (first_limit _ _ _ c.args.form _ c.args.plan.now.locations.now c.args.plan.now.times.now c.args.plan.now.legs.now c.args.sides.now.first_drones.now c.args.sides.now.first_stops.now c.args.sides.now.second_drones.now c.args.sides.now.second_stops.now c.args.plan.now.pairs.now c.args.drone_flags.now c.args.flags.now c.requires.0 _ _ _ _ c.fill_tables.ensures K, first_number _ _ _ c.args.form _ c.args.plan.now.locations.now c.args.plan.now.times.now c.args.plan.now.legs.now c.args.sides.now.first_drones.now c.args.sides.now.first_stops.now c.args.sides.now.second_drones.now c.args.sides.now.second_stops.now c.args.plan.now.pairs.now c.args.drone_flags.now c.args.flags.now c.requires.0 _ _ _ _ c.fill_tables.ensures K) }

pub number_through-requires-2 : goal.number_through-requires-2
number_through-requires-2 c = let K = known _ _ _ c.args.form _ c.args.plan.now.locations.now c.args.plan.now.times.now c.args.plan.now.legs.now c.args.sides.now.first_drones.now c.args.sides.now.first_stops.now c.args.sides.now.second_drones.now c.args.sides.now.second_stops.now c.args.plan.now.pairs.now c.args.drone_flags.now c.args.flags.now c.requires.0 _ _ _ _ c.fill_tables.ensures _ c.stops_sound.ensures _ c.records_sound.ensures (c.if-not-stops_sound.false) (c.if-not-records_sound.false) in record { m_in_bounds = (c.requires.4.has_second_drones, c.requires.4.has_second_stops, c.requires.0.few_dependencies, c.requires.5.into_room); by_index = (second_limit _ _ _ c.args.form _ c.args.plan.now.locations.now c.args.plan.now.times.now c.args.plan.now.legs.now c.args.sides.now.first_drones.now c.args.sides.now.first_stops.now c.args.sides.now.second_drones.now c.args.sides.now.second_stops.now c.args.plan.now.pairs.now c.args.drone_flags.now c.args.flags.now c.requires.0 _ _ _ _ c.fill_tables.ensures K, second_number _ _ _ c.args.form _ c.args.plan.now.locations.now c.args.plan.now.times.now c.args.plan.now.legs.now c.args.sides.now.first_drones.now c.args.sides.now.first_stops.now c.args.sides.now.second_drones.now c.args.sides.now.second_stops.now c.args.plan.now.pairs.now c.args.drone_flags.now c.args.flags.now c.requires.0 _ _ _ _ c.fill_tables.ensures K) }

pub graph_sound-requires : goal.graph_sound-requires
graph_sound-requires c = let K = known _ _ _ c.args.form _ c.args.plan.now.locations.now c.args.plan.now.times.now c.args.plan.now.legs.now c.args.sides.now.first_drones.now c.args.sides.now.first_stops.now c.args.sides.now.second_drones.now c.args.sides.now.second_stops.now c.args.plan.now.pairs.now c.args.drone_flags.now c.args.flags.now c.requires.0 _ _ _ _ c.fill_tables.ensures _ c.stops_sound.ensures _ c.records_sound.ensures (c.if-not-stops_sound.false) (c.if-not-records_sound.false) in rw c.as_slice.ensures (code_given _ _ _ _ _ _ _ _ _ _ _ _ _ c.args.drone_flags.now _ c.requires.0 _ _ _ _ c.fill_tables.ensures K _ _ c.number_through.ensures c.number_through-2.ensures c.requires.1 c.requires.2 c.requires.4, c.number_through.ensures.size, c.number_through-2.ensures.size, c.requires.6, c.requires.7)

pub returns : goal.returns
returns c = let K = known _ _ _ c.args.form _ c.args.plan.now.locations.now c.args.plan.now.times.now c.args.plan.now.legs.now c.args.sides.now.first_drones.now c.args.sides.now.first_stops.now c.args.sides.now.second_drones.now c.args.sides.now.second_stops.now c.args.plan.now.pairs.now c.args.drone_flags.now c.args.flags.now c.requires.0 _ _ _ _ c.fill_tables.ensures _ c.stops_sound.ensures _ c.records_sound.ensures (c.if-not-stops_sound.false) (c.if-not-records_sound.false) in (code_graph _ _ _ _ _ _ _ _ _ _ _ _ _ _ _ c.requires.0 _ _ _ _ c.fill_tables.ensures K _ _ c.number_through.ensures c.number_through-2.ensures _ (rw c.as_slice.ensures at c.graph_sound.ensures.0), λ e. code_laid _ _ _ _ _ _ _ _ _ _ _ _ _ _ _ c.requires.0 _ _ _ _ c.fill_tables.ensures K _ _ c.number_through.ensures c.number_through-2.ensures _ (rw c.as_slice.ensures at c.graph_sound.ensures.0) e _ _ (rw c.as_slice.ensures at (c.graph_sound.ensures.1 e)))
