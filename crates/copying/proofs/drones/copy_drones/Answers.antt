use native.Mathlib.Omega.{arith}
use Rattle.std.proofs.lemmas.Result.{err_from_is_err_and}
use Rattle.tables.specs.Limits.{limits}
use Rattle.copying.proofs.LoopLaws.{copying_start, next_stops, copying_bad, copying_more, copying_end}
use Rattle.copying.proofs.drones.copy_drones.Goals as goal

pub loop-i-init : goal.loop-i-init
loop-i-init c = copying_start limits _ _ _ _ _ _ _ _ _ _ _ _ _ _ _ (omega (arith, c.requires.at_bound.1, c.requires.name_in_bounds.0)) c.requires.at_bound.2

pub copy_drone-requires : goal.copy_drone-requires
copy_drone-requires c = let g = c.loop-i.invariant in
    let t = c.loop-i-test.true in
    let p = c.requires.at_bound in
    let q = c.requires.name_in_bounds in
    let w = p.3 in
    let s = next_stops g t w in
    let l = g.lengths in record { at_bound = (omega (arith, p.0, g.near, t, w.drones_in), omega (arith, p.1, t), g.few, omega (arith, t, w.drones_in, w.names_full), omega (arith, s), omega (arith, s, w.locations_full), omega (arith, s, w.times_full), omega (arith, s, w.legs_full)); name_in_bounds = (omega (arith, l.names, q.0), omega (arith, l.counts, q.1), omega (arith, l.locations, q.2), omega (arith, l.times, q.3), omega (arith, l.legs, q.4)) }

pub returns-in_err-copied : goal.returns-in_err-copied
returns-in_err-copied c =
    let p = err_from_is_err_and c.from_residual.result c.from_residual.ensures.1 in
    rw (p.1, p.2) (copying_bad c.loop-i.invariant c.loop-i-test.true c.requires.at_bound.3 (rw c.from-count.ensures at c.copy_drone.ensures) _ c.in_err-copied.was)

pub overflow_add-from : goal.overflow_add-from
overflow_add-from c = omega (arith, next_stops c.loop-i.invariant c.loop-i-test.true c.requires.at_bound.3)

pub loop-i-preserved : goal.loop-i-preserved
loop-i-preserved c = let k = c.copy_drone.auto in
    rw c.from-count.ensures (copying_more c.loop-i.invariant c.loop-i-test.true c.requires.at_bound.3 (rw c.from-count.ensures at c.copy_drone.ensures) _ _ c.in_ok-copied.was c.requires.at_bound.1 c.requires.name_in_bounds.0 (record {
      names = k.into_names;
      counts = k.into_counts;
      locations = k.into_locations;
      times = k.into_times;
      legs = k.into_legs;
    }))

pub returns : goal.returns
returns c = copying_end c.loop-i.invariant c.loop-i-test.false
