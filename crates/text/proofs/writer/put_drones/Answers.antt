use native.Mathlib.Omega.{arith}
use Rattle.tables.specs.Limits.{limits}
use Rattle.text.proofs.WriteLoop.{writing_start, writing_near, writing_stops, writing_more, writing_done}
use Rattle.text.proofs.writer.put_drones.Goals as goal

pub loop-drone-init : goal.loop-drone-init
loop-drone-init c = writing_start limits _ _ _ _ _ _ _ _ _

pub put_drone-next-requires : goal.put_drone-next-requires
put_drone-next-requires c = let w = c.loop-drone.invariant in
    let t = c.loop-drone-test.true in
    let at_in = c.requires.0 in
    let p = c.requires.1 in
    let s = writing_stops w t in (
      omega (arith, at_in, writing_near w, p.drones_in, p.stops_in_lem),
      omega (arith, t, p.drones_in, p.names_full),
      omega (arith, s, p.stops_in_lem),
      omega (arith, s, p.stops_in_lem, p.locations_full),
      omega (arith, s, p.stops_in_lem, p.times_full),
      omega (arith, s, p.stops_in_lem, p.legs_full),
    )

pub overflow_add-from : goal.overflow_add-from
overflow_add-from c = let s = writing_stops c.loop-drone.invariant c.loop-drone-test.true in
    omega (arith, s, c.requires.1)

pub loop-drone-preserved : goal.loop-drone-preserved
loop-drone-preserved c = rw c.from-count.ensures (writing_more c.loop-drone.invariant c.loop-drone-test.true (omega (arith, c.requires.1.drones_in, c.requires.1.counts_full)) c.put_drone-next.auto.buf (rw c.from-count.ensures at c.put_drone-next.ensures))

pub returns : goal.returns
returns c = writing_done c.loop-drone.invariant (omega (arith, c.loop-drone-test.false))
