-- The row is among all rows exactly when it is among those that are left.
use Prim.Native.Nat.{◌-◌, ◌+◌, ◌*◌}
use native.Mathlib.Omega.{arith}
use mathlib.Core.Path.{◌≡◌, sym, ◌∙◌}
use Rattle.tables.specs.Limits.{limits}
use Rattle.lines.proofs.NameCases.{among_end, among-here, among-on}
use Rattle.lines.proofs.names.row_among.Goals as goal

pub returns-then-row_at : goal.returns-then-row_at
returns-then-row_at c = sym (c.loop-k.invariant ∙ among-here _ _ _ _ _ (omega (arith, c.loop-k-test.true)) (sym c.row_at.ensures ∙ c.if-row_at.true))

pub loop-k-preserved : goal.loop-k-preserved
loop-k-preserved c = let l = c.loop-k in
    let a = c.args in
    let m : a.rows - l.k - 1 ≡ a.rows - (l.k + 1) = omega arith in
    let n : l.k * limits.name + limits.name ≡ (l.k + 1) * limits.name = omega arith in
    l.invariant ∙ among-on _ _ _ _ _ (omega (arith, c.loop-k-test.true)) (sym c.row_at.ensures ∙ c.if-row_at.false) ∙ rw (m, n)

pub returns : goal.returns
returns c = let e : c.args.rows - c.loop-k.k ≡ 0 = omega arith in
    sym (c.loop-k.invariant ∙ among_end _ _ _ _ _ e)
