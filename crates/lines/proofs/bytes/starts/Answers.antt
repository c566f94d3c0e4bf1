-- A key that is longer than what is left of the text does not stand there; of another the bytes that are left stand at the next position exactly when the whole key stands at the first.
use native.Mathlib.Omega.{arith}
use native.Mathlib.Nat.{add-zero}
use Prim.Native.Nat.{◌+◌}
use mathlib.Core.Path.{◌≡◌, refl, sym, ◌∙◌}
use lib.ListN.{length}
use borrow.Author.Tests.{lt-leb}
use Rattle.lines.proofs.ByteLaws.{key_end, key_long, key_other, key_same, short_of}
use Rattle.lines.proofs.bytes.starts.Goals as goal

pub returns-then-text-key : goal.returns-then-text-key
returns-then-text-key c = sym (key_long _ _ _ (omega arith) (λ i. (c.type_inv.key i).fits) (lt-leb (c.args.at + length c.args.key.now) (length c.args.text.now) (omega arith)))

pub returns-then-text-key-2 : goal.returns-then-text-key-2
returns-then-text-key-2 c = c.is_empty.ensures ∙ short_of _ _ _ (omega arith) (λ i. (c.type_inv.key i).fits)

pub loop-i-init : goal.loop-i-init
loop-i-init c = rw add-zero refl

pub returns-then-text-at : goal.returns-then-text-at
returns-then-text-at c = sym (c.loop-i.invariant ∙ key_other _ _ _ _ c.loop-i-test.true (omega arith) c.if-text-at.true)

pub loop-i-preserved : goal.loop-i-preserved
loop-i-preserved c =
    let p : c.args.at + c.loop-i.i + 1 ≡ c.args.at + (c.loop-i.i + 1) = omega arith in
    rw (← p) (c.loop-i.invariant ∙ key_same _ _ _ _ c.loop-i-test.true (omega arith) c.if-text-at.false)

pub returns : goal.returns
returns c =
    let e : c.loop-i.i ≡ length c.args.key.now = omega arith in
    sym (c.loop-i.invariant ∙ key_end _ _ _ _ e)
