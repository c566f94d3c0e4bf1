-- The stops that are left, stored from here on, give what all of them give from the start.
use Prim.Native.Nat.{◌-◌}
use native.Mathlib.Omega.{arith}
use Rattle.tables.specs.Limits.{limits}
use mathlib.Core.Path.{sym, ap, ◌∙◌}
use Rattle.std.proofs.lemmas.Result.{err_from_is_err_and}
use Rattle.std.specs.Prelude.{Err}
use Rattle.lines.proofs.LegLaws.{leg_below}
use Rattle.lines.proofs.StopCases.{go_read, going_on, stops_bad, stops_none}
use Rattle.lines.proofs.stops.go_lines.Goals as goal

pub returns-in_err-line : goal.returns-in_err-line
returns-in_err-line c = let l = c.loop-i in
    let g = l.invariant in
    let p = err_from_is_err_and c.from_residual.result c.from_residual.ensures.1 in
    let m = stops_bad _ _ l.i (c.args.count - l.i) _ l.here _ _ (omega arith) c.go_line.ensures c.in_err-line.was in
    record { answer_is = p.1 ∙ ap Err p.2 ∙ rw m at g.answers; locations_are = rw m at g.locations; times_are = rw m at g.times; legs_are = rw m at g.legs }

pub overflow_cast-locations : goal.overflow_cast-locations
overflow_cast-locations c = let r = go_read _ _ _ _ _ _ _ _ _ (sym c.go_line.ensures ∙ c.in_ok-line.was) in omega (arith, r.near)

pub overflow_cast-times : goal.overflow_cast-times
overflow_cast-times c = let r = go_read _ _ _ _ _ _ _ _ _ (sym c.go_line.ensures ∙ c.in_ok-line.was) in omega (arith, r.early)

pub overflow_cast-legs : goal.overflow_cast-legs
overflow_cast-legs c = let r = go_read _ _ _ _ _ _ _ _ _ (sym c.go_line.ensures ∙ c.in_ok-line.was) in let h = leg_below _ _ _ _ 256 (omega arith) (omega arith) r.right in omega (arith, h)

pub loop-i-preserved : goal.loop-i-preserved
loop-i-preserved c = going_on _ _ _ _ _ _ _ _ _ _ _ _ _ _ _ _ _ _ _ c.loop-i-test.true c.go_line.ensures c.in_ok-line.was c.loop-i.invariant

pub returns : goal.returns
returns c = let l = c.loop-i in
    let g = l.invariant in
    let a = c.args in
    let m = stops_none limits a.form l.i (a.count - l.i) a.text.now l.here (omega arith) in
    record { answer_is = rw m at g.answers; locations_are = rw m at g.locations; times_are = rw m at g.times; legs_are = rw m at g.legs }
