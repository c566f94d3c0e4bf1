use native.Mathlib.Omega.{arith}
use mathlib.Core.Path.{refl, sym, ◌∙◌}
use Rattle.tables.specs.Limits.{limits}
use Rattle.text.proofs.NameInRow.{name_within, part-within, name_put}
use Rattle.copying.proofs.CopyLaws.{name_same, drone_copied}
use Rattle.copying.proofs.drones.copy_drone.Goals as goal

pub overflow_add-end : goal.overflow_add-end
overflow_add-end c = let a = c.args in
    let h = name_within limits a.plan.now.names.now a.row _ c.name_len-len.ensures in
    omega (arith, h, c.requires.at_bound)

pub slice_bounds-put_bytes-end-2 : goal.slice_bounds-put_bytes-end-2
slice_bounds-put_bytes-end-2 c = let a = c.args in
    let h = name_within limits a.plan.now.names.now a.row _ c.name_len-len.ensures in
    omega (arith, h, c.requires.at_bound)

pub put_bytes-requires : goal.put_bytes-requires
put_bytes-requires c = let a = c.args in
    let h = part-within limits a.plan.now.names.now a.row _ c.name_len-len.ensures in
    omega (arith, h)

pub returns-then-row_among : goal.returns-then-row_among
returns-then-row_among c = let a = c.args in
    let n = name_put limits a.plan.now.names.now a.row _ c.name_len-len.ensures c.put_bytes.ensures in
    name_same limits _ _ _ _ _ _ _ n.written (sym c.row_among.ensures ∙ c.if-row_among.true)

pub copy_stops-requires : goal.copy_stops-requires
copy_stops-requires c = let a = c.args in
    let h = name_within limits a.plan.now.names.now a.row _ c.name_len-len.ensures in record { at_bound = omega (arith, h, c.requires.at_bound, c.requires.name_in_bounds); drones_in_bounds = omega (arith, h, c.requires.at_bound, c.requires.name_in_bounds) }

pub returns : goal.returns
returns c = let a = c.args in
    let n = name_put limits a.plan.now.names.now a.row _ c.name_len-len.ensures c.put_bytes.ensures in
    drone_copied limits _ _ _ _ _ _ _ n.written (sym c.row_among.ensures ∙ c.if-row_among.false) c.name_len-len.ensures refl c.put_bytes-2.ensures.written c.copy_stops.ensures
