-- The pairs that are left, stored from here on, give what all of them give from the start.
use Prim.Native.Nat.{◌-◌}
use native.Mathlib.Omega.{arith}
use native.Mathlib.Nat.{sub-zero}
use mathlib.Core.Path.{refl, sym, ap, ◌∙◌}
use Rattle.std.specs.Prelude.{Err}
use Rattle.std.proofs.lemmas.Result.{err_from_is_err_and}
use Rattle.tables.specs.Limits.{limits}
use Rattle.site.proofs.SiteCases.{near_read, pairing_start, twice_long, pairing_on, pairs_bad, pairs_none}
use Rattle.site.proofs.near_lines.Goals as goal

pub loop-i-init : goal.loop-i-init
loop-i-init c = (refl, rw sub-zero (pairing_start _ _))

pub returns-in_err-last : goal.returns-in_err-last
returns-in_err-last c = let l = c.loop-i in
    let p = err_from_is_err_and c.from_residual.result c.from_residual.ensures.1 in
    let m = pairs_bad limits (c.args.count - l.i) l.last.lower l.last.upper _ l.last.next _ _ (omega arith) c.near_line.ensures c.in_err-last.was in
    record { answer_is = p.1 ∙ ap Err p.2 ∙ rw m at l.invariant.1.answers; pairs_are = rw m at l.invariant.1.numbers }

pub overflow_cast-pairs : goal.overflow_cast-pairs
overflow_cast-pairs c = let r = near_read _ _ _ _ _ _ _ _ (sym c.near_line.ensures ∙ c.in_ok-last.was) in omega (arith, r.up, r.near)

pub overflow_cast-pairs-in-loop-i : goal.overflow_cast-pairs-in-loop-i
overflow_cast-pairs-in-loop-i c = let r = near_read _ _ _ _ _ _ _ _ (sym c.near_line.ensures ∙ c.in_ok-last.was) in omega (arith, r.near)

pub loop-i-preserved : goal.loop-i-preserved
loop-i-preserved c = (twice_long c.loop-i.pairs _ _ _ _ ∙ c.loop-i.invariant.0, pairing_on _ _ _ _ _ _ _ _ _ _ _ _ _ _ c.loop-i-test.true c.near_line.ensures c.in_ok-last.was c.loop-i.invariant.1)

pub returns : goal.returns
returns c = let l = c.loop-i in
    let m = pairs_none limits (c.args.count - l.i) l.last.lower l.last.upper c.args.text.now l.last.next (omega arith) in
    record { answer_is = rw m at l.invariant.1.answers; pairs_are = rw m at l.invariant.1.numbers }
