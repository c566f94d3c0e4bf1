-- The digits that are left, read from here on, give the number that the whole gives; seven digits stay below ten million.
use native.Mathlib.Omega.{arith}
use Prim.Native.Nat.{◌+◌, ◌-◌}
use mathlib.Core.Path.{◌≡◌, refl, sym, ◌∙◌}
use Rattle.lines.proofs.NumberCases.{bound-more, bound_now, digit_in, digit_none, digit_some, digit_range, from_done, from_more, from_stop, number_more, number_none, number_zero}
use Rattle.lines.specs.Bytes.{byte_at}
use Rattle.lines.proofs.numbers.read_number.Goals as goal

pub returns-in_err-first : goal.returns-in_err-first
returns-in_err-first c = c.from_residual.ensures ∙ sym (number_none _ _ _ refl (digit_none _ _ c.digit_at.ensures c.in_err-first.was))

pub overflow_add-read : goal.overflow_add-read
overflow_add-read c = let d = digit_some _ _ _ c.digit_at.ensures c.in_ok-first.was in
    let h = digit_in _ _ _ refl d.0 in omega arith

pub returns-then-first-eq0 : goal.returns-then-first-eq0
returns-then-first-eq0 c = let a = c.args in
    let d = digit_some _ _ _ c.digit_at.ensures c.in_ok-first.was in
    let z : byte_at a.text.now a.at ≡ 48 = omega (arith, digit_range _ d.0) in
    rw c.if-first-eq0.true (sym (number_zero _ _ _ refl d.0 z))

pub loop-init : goal.loop-init
loop-init c = let a = c.args in
    let d = digit_some _ _ _ c.digit_at.ensures c.in_ok-first.was in
    let n : byte_at a.text.now a.at ≡ 48 → ⊥ = λ q. c.if-first-eq0.false (omega arith) in
    (rw d.1 (number_more _ _ _ refl d.0 n), omega (arith, digit_range _ d.0))

pub returns-in_default : goal.returns-in_default
returns-in_default c = sym (c.loop.invariant.0 ∙ from_stop _ _ _ _ (digit_none _ _ c.digit_at-in-loop.ensures c.in_default.is))

pub overflow_mul-read : goal.overflow_mul-read
overflow_mul-read c = omega (arith, bound_now _ _ c.loop.invariant.1)

pub overflow_add-read-in-loop : goal.overflow_add-read-in-loop
overflow_add-read-in-loop c = let d = digit_some _ _ _ c.digit_at-in-loop.ensures c.in-Some.is in omega (arith, digit_range _ d.0, bound_now _ _ c.loop.invariant.1)

pub overflow_add-read-in-loop-2 : goal.overflow_add-read-in-loop-2
overflow_add-read-in-loop-2 c = let d = digit_some _ _ _ c.digit_at-in-loop.ensures c.in-Some.is in
    let h = digit_in _ _ _ refl d.0 in omega arith

pub loop-preserved : goal.loop-preserved
loop-preserved c = let l = c.loop in
    let d = digit_some _ _ _ c.digit_at-in-loop.ensures c.in-Some.is in
    let m : 6 - l.counter - 1 ≡ 6 - (l.counter + 1) = omega arith in (
      rw (d.1, ← m) (l.invariant.0 ∙ from_more (6 - l.counter) _ _ _ _ (omega (arith, c.loop-test.true)) refl d.0),
      rw (← m) (bound-more (6 - l.counter) l.read.value c.in-Some.digit (omega (arith, c.loop-test.true)) (omega (arith, digit_range _ d.0)) l.invariant.1),
    )

pub returns : goal.returns
returns c = sym (c.loop.invariant.0 ∙ from_done _ _ _ _ (omega arith))
