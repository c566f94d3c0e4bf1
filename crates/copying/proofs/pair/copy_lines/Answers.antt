use Prim.Native.Nat.{◌+◌}
use native.Mathlib.Omega.{arith}
use mathlib.Core.Path.{sym, ap}
use Rattle.std.proofs.lemmas.Result.{err_from_is_err_and}
use Rattle.tables.specs.Limits.{limits}
use Rattle.lines.proofs.NumberRoundTrip.{limits_seven}
use Rattle.copying.specs.Reckoned.{closed_by}
use Rattle.copying.proofs.PairLaws.{routes_many, from_near, routes_near, first_bad, first_given, both_copied, drones-over, both_stored}
use Rattle.copying.proofs.pair.copy_lines.Goals as goal

pub returns-then-drones-gt-FULL : goal.returns-then-drones-gt-FULL
returns-then-drones-gt-FULL c = drones-over limits limits_seven _ _ _ _ _ _ _ _ _ _ _ _ _ c.requires.copyable.0 c.requires.copyable.1 (omega (arith, c.requires.copyable.0.writable.drones_in, c.requires.copyable.1.writable.drones_in)) c.if-drones-gt-FULL.true

pub copy_drones-requires : goal.copy_drones-requires
copy_drones-requires c = let a = c.args in
    let w = c.requires.copyable.0.writable in
    let p = c.requires.in_bounds in record { at_bound = (omega (arith, c.lines_start-start.ensures, from_near a.form (a.drones_1 + a.drones_2)), omega (arith, c.if-drones-gt-FULL.false), omega arith, w); name_in_bounds = (p.2, p.3, p.4, p.5, p.6) }

pub copy_drones-requires-2 : goal.copy_drones-requires-2
copy_drones-requires-2 c = let a = c.args in
    let w = c.requires.copyable.0 in
    let g = first_given limits _ _ _ c.copy_drones.ensures w.each _ _ c.in_ok-copied.was in
    let near = routes_near _ w.writable g.ends in
    let k = c.copy_drones.auto in
    let p = c.requires.in_bounds in record { at_bound = (omega (arith, near, c.lines_start-start.ensures, from_near a.form (a.drones_1 + a.drones_2)), omega (arith, c.if-drones-gt-FULL.false), g.within, c.requires.copyable.1.writable); name_in_bounds = (omega (arith, k.into_names, p.2), omega (arith, k.into_counts, p.3), omega (arith, k.into_locations, p.4), omega (arith, k.into_times, p.5), omega (arith, k.into_legs, p.6)) }

pub returns-in_err-copied : goal.returns-in_err-copied
returns-in_err-copied c = let w = c.requires.copyable.0 in
    let p = err_from_is_err_and c.from_residual.result c.from_residual.ensures.1 in
    rw (p.1, p.2) (both_stored limits limits_seven _ _ _ _ _ _ _ _ _ _ _ _ _ w c.requires.copyable.1 (omega (arith, c.if-drones-gt-FULL.false)) c.if-drones-gt-FULL.false c.lines_start-start.ensures
    (first_bad limits _ _ _ c.copy_drones.ensures w.each _ _ c.in_err-copied.was) _ (ap (closed_by _) (sym c.in_err-copied.was)))

pub returns-in_err-copy_drones : goal.returns-in_err-copy_drones
returns-in_err-copy_drones c = let w = c.requires.copyable.0 in
    let p = err_from_is_err_and c.from_residual-in_err-copy_drones.result c.from_residual-in_err-copy_drones.ensures.1 in
    rw (p.1, p.2) (both_stored limits limits_seven _ _ _ _ _ _ _ _ _ _ _ _ _ w c.requires.copyable.1 (omega (arith, c.if-drones-gt-FULL.false)) c.if-drones-gt-FULL.false c.lines_start-start.ensures
    (both_copied limits _ _ _ c.copy_drones.ensures w.each _ _ c.in_ok-copied.was _ (routes_many limits _ _ _ _ _ _ (omega (arith, w.writable.drones_in, w.writable.counts_full))) (omega (arith, w.writable.drones_in, c.requires.in_bounds.2)) _ c.copy_drones-2.ensures)
    _ (ap (closed_by _) (sym c.in_err-copy_drones.was)))

pub returns : goal.returns
returns c = let w = c.requires.copyable.0 in
    both_stored limits limits_seven _ _ _ _ _ _ _ _ _ _ _ _ _ w c.requires.copyable.1 (omega (arith, c.if-drones-gt-FULL.false)) c.if-drones-gt-FULL.false c.lines_start-start.ensures
    (both_copied limits _ _ _ c.copy_drones.ensures w.each _ _ c.in_ok-copied.was _ (routes_many limits _ _ _ _ _ _ (omega (arith, w.writable.drones_in, w.writable.counts_full))) (omega (arith, w.writable.drones_in, c.requires.in_bounds.2)) _ c.copy_drones-2.ensures)
    _ (ap (closed_by _) (sym c.in_ok-copy_drones.was))
