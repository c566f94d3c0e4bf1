-- One law for each return: the name's line, a name that is there already, and the stops.
use native.Mathlib.Omega.{arith}
use mathlib.Core.Path.{refl, sym, ◌∙◌}
use Rattle.lines.proofs.NameRoundTrip.{NameWithin, name_read, name_within}
use Rattle.std.proofs.lemmas.Result.{err_from_is_err_and}
use Rattle.lines.specs.Names.{among}
use Rattle.text.proofs.DroneCases.{drone_in, drone_same, drone_unnamed, one_row, part-short, whole-none}
use Rattle.tables.specs.Limits.{limits}
use Rattle.text.proofs.reader.read_drone.Goals.{In_ok-name}
use Rattle.text.proofs.reader.read_drone.Goals as goal

-- where the name stands
read : (c : In_ok-name) → NameWithin limits c.args.text.now c.in_ok-name.name.start c.in_ok-name.name.end
read c = name_within _ _ _ _ _ (name_read _ _ _ _ _ (sym c.name_line.ensures ∙ c.in_ok-name.was))

pub slice_bounds-put_small-count : goal.slice_bounds-put_small-count
slice_bounds-put_small-count c = (read (goal.at.slice_bounds-put_small-count c).In_ok-name).forward

pub slice_bounds-put_small-start : goal.slice_bounds-put_small-start
slice_bounds-put_small-start c = (read (goal.at.slice_bounds-put_small-start c).In_ok-name).forward

pub slice_bounds-put_small-end-2 : goal.slice_bounds-put_small-end-2
slice_bounds-put_small-end-2 c = let r = read (goal.at.slice_bounds-put_small-end-2 c).In_ok-name in omega arith

pub put_small-requires : goal.put_small-requires
put_small-requires c = part-short limits _ _ _ (omega arith) (read (goal.at.put_small-requires c).In_ok-name).short

pub returns-then-row_among : goal.returns-then-row_among
returns-then-row_among c = let a = c.args in
    rw (drone_same limits a.form a.text.now a.at a.total (among limits a.drone a.routes.now.names.now 0) _ c.name_line.ensures _ _ _ c.in_ok-name.was c.put_small.ensures.written (sym c.row_among.ensures ∙ c.if-row_among.true))
    (record { same = refl; stored = whole-none limits _ _ _ _ _ _ _ _ _ })

pub overflow_add-name : goal.overflow_add-name
overflow_add-name c = let r = read (goal.at.overflow_add-name c).In_ok-name in omega arith

pub returns-in_err-name : goal.returns-in_err-name
returns-in_err-name c =
    let p = err_from_is_err_and c.from_residual.result c.from_residual.ensures.1 in
    rw (p.1, p.2, drone_unnamed limits _ _ _ _ _ _ c.name_line.ensures _ c.in_err-name.was) (record { same = refl; stored = whole-none limits _ _ _ _ _ _ _ _ _ })

pub returns : goal.returns
returns c = let a = c.args in
    let g = c.read_stops.ensures.stored in
    let kept = c.read_stops.ensures.names_kept in
    rw (drone_in limits a.form a.text.now a.at a.total (among limits a.drone a.routes.now.names.now 0) _ c.name_line.ensures _ _ _ c.in_ok-name.was c.put_small.ensures.written (sym c.row_among.ensures ∙ c.if-row_among.false))
    (record { same = c.read_stops.ensures.same; stored = record { answer_is = g.answer_is; names_are = kept ∙ one_row c.put_bytes.ensures; counts_are = g.counts_are; locations_are = g.locations_are; times_are = g.times_are; legs_are = g.legs_are } })
