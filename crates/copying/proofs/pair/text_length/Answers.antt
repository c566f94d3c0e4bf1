use Prim.Native.Nat.{◌+◌}
use native.Mathlib.Omega.{arith}
use Rattle.tables.specs.Limits.{limits}
use Rattle.copying.proofs.PairLaws.{from_near, ended-near, text_long}
use Rattle.copying.proofs.pair.text_length.Goals as goal

pub lines_end-next-requires : goal.lines_end-next-requires
lines_end-next-requires c = let a = c.args in
    (omega (arith, c.lines_start-start.ensures, from_near a.form (a.drones_1 + a.drones_2)), c.requires.0.writable)

pub lines_end-last-requires : goal.lines_end-last-requires
lines_end-last-requires c = let a = c.args in
    let near = ended-near _ c.requires.0.writable c.lines_end-next.ensures in
    (omega (arith, near, c.lines_start-start.ensures, from_near a.form (a.drones_1 + a.drones_2)), c.requires.1.writable)

pub overflow_add-result : goal.overflow_add-result
overflow_add-result c = let a = c.args in
    let near = ended-near _ c.requires.0.writable c.lines_end-next.ensures in
    let far = ended-near _ c.requires.1.writable c.lines_end-last.ensures in
    omega (arith, near, far, c.lines_start-start.ensures, from_near a.form (a.drones_1 + a.drones_2))

pub returns : goal.returns
returns c = text_long limits _ _ _ _ _ _ _ _ _ _ _ _ _ c.requires.0.writable c.requires.1.writable c.lines_start-start.ensures c.lines_end-next.ensures c.lines_end-last.ensures
