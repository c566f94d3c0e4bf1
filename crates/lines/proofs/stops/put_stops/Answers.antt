-- The lines that are left, written from here on, give what all of them give from the start.
use Prim.Native.Nat.{◌+◌, ◌-◌}
use native.Mathlib.Omega.{arith}
use lib.ListN.{drop, get_or}
use native.Mathlib.Nat.{add-zero, sub-zero}
use Rattle.lines.proofs.StopCases.{lines_done, lines_step, stop-short}
use Rattle.lines.proofs.WriteLaws.{rest_end, rest_start, rest_step}
use Rattle.lines.proofs.stops.put_stops.Goals as goal

pub loop-i-init : goal.loop-i-init
loop-i-init c = (omega arith, rw (sub-zero, add-zero) (rest_start _ _ _))

pub put_stop-next-requires : goal.put_stop-next-requires
put_stop-next-requires c = omega (arith, c.loop-i.invariant.0, c.requires)

pub loop-i-preserved : goal.loop-i-preserved
loop-i-preserved c = let l = c.loop-i in
    let a = c.args in
    let p = rw (c.from.ensures, c.from-in-loop-i.ensures) at c.put_stop-next.ensures in
    let t = c.loop-i-test.true in
    let r = c.requires in (
      omega (arith, p.next_is, stop-short a.form (get_or a.locations.now (a.from + l.i) 0) (get_or a.times.now (a.from + l.i) 0) (get_or a.legs.now (a.from + l.i) 0), l.invariant.0),
      rest_step p (rw (lines_step a.form a.locations.now a.times.now a.legs.now a.from a.count l.i t (omega arith) (omega arith) (omega arith)) at l.invariant.1),
    )

pub returns : goal.returns
returns c = let l = c.loop-i in
    let a = c.args in
    rest_end (rw (lines_done a.form (drop (a.from + l.i) a.locations.now) _ _ (a.count - l.i) (omega arith)) at l.invariant.1)
