-- Where the first bytes of a row do not stand at a position, the row does not; where they do, it stands there when the bytes from there on begin with it.
use native.Mathlib.Omega.{arith}
use mathlib.Core.Logic.{inl, inr}
use mathlib.Core.Path.{sym, ◌∙◌}
use Prim.Native.Nat.{◌<◌}
use lib.ListN.{length}
use Rattle.std.proofs.lemmas.List.{take_rest}
use Rattle.lines.proofs.ByteLaws.{begins_with, head_not, head_within}
use Rattle.lines.proofs.names.row_at.Goals.{Else-not-starts}
use Rattle.lines.proofs.names.row_at.Goals as goal

-- the table has not ended at the position
inside : (c : Else-not-starts) → c.args.at < length c.args.names.now
inside c = head_within _ _ 4 _ (omega arith) (omega arith) c.fits-row (sym c.starts.ensures ∙ c.if-not-starts.false)

pub returns-then-not-starts : goal.returns-then-not-starts
returns-then-not-starts c = sym (head_not _ _ 4 _ (sym c.starts.ensures ∙ c.if-not-starts.true))

pub returns-in-Some : goal.returns-in-Some
returns-in-Some c = let l = c.in-Some.ensures.lookup.0 in
    c.starts_with.ensures.value ∙ rw (l.2, take_rest) (begins_with _ _ _ l.0 c.fits-row)

pub returns-in-None : goal.returns-in-None
returns-in-None c =
    let h = inside (goal.at.returns-in-None c).Else-not-starts in
    elim c.in-None.ensures.lookup.0 [ inl k ↦ absurd (omega arith) | inr k ↦ absurd (omega arith) ]
