-- The drones that are left, read and stored from here on, give what all of them give from the start.
use native.Mathlib.Omega.{arith}
use mathlib.Core.Path.{refl, ◌∙◌}
use Rattle.std.proofs.lemmas.Result.{err_from_is_err_and}
use Rattle.text.proofs.DroneLoop.{lengths-stored, reading_end, reading_start, turn_bad, turn_on, turn-total}
use Rattle.tables.specs.Limits.{limits}
use Rattle.text.proofs.reader.read_drones.Goals as goal

pub loop-drone-init : goal.loop-drone-init
loop-drone-init c = (omega arith, record { names = refl; counts = refl; locations = refl; times = refl; legs = refl }, refl, reading_start limits _ _ _ _ _ _ _ _ _)

pub returns-in_err-read : goal.returns-in_err-read
returns-in_err-read c =
    let p = err_from_is_err_and c.from_residual.result c.from_residual.ensures.1 in
    rw (p.1, p.2) (record { same = c.read_drone.ensures.same ∙ c.loop-drone.invariant.2; stored = turn_bad c.loop-drone.invariant.3 c.loop-drone-test.true c.read_drone.ensures.stored _ c.in_err-read.was })

pub loop-drone-preserved : goal.loop-drone-preserved
loop-drone-preserved c = let v = c.loop-drone.invariant in
    let w = c.loop-drone-test.true in
    let p = c.requires in
    let l = v.1 in (
      turn-total v.3 w c.read_drone.ensures.stored _ _ c.in_ok-read.was,
      lengths-stored c.read_drone.ensures.stored l,
      c.read_drone.ensures.same ∙ v.2,
      turn_on v.3 w c.read_drone.ensures.stored _ _ c.in_ok-read.was (omega (arith, w, p)) (omega (arith, p, l.names)),
    )

pub returns : goal.returns
returns c = record { same = c.loop-drone.invariant.2; stored = reading_end c.loop-drone.invariant.3 c.loop-drone-test.false }
