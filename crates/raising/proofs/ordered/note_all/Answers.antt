use mathlib.Core.Path.{◌≡◌, sym}
use native.Mathlib.Omega.{arith}
use Rattle.tables.specs.Limits.{limits}
use Rattle.raising.proofs.OrderLaws.{noted_more}
use Rattle.raising.proofs.ordered.note_all.Goals as goal

pub note-round-requires : goal.note-round-requires
note-round-requires c = (omega (arith, c.from-w.ensures, c.requires.0, c.requires.5 c.loop-j.j (omega arith) (omega arith)), omega (arith, c.from-w.ensures, c.requires.1, c.requires.5 c.loop-j.j (omega arith) (omega arith)), c.requires.2 _ (omega (arith, c.from-w.ensures, c.requires.5 c.loop-j.j (omega arith) (omega arith))), c.loop-j.invariant.tables)

pub loop-j-preserved : goal.loop-j-preserved
loop-j-preserved c = noted_more limits _ _ _ _ c.loop-j.invariant c.note-round.ensures (omega arith) c.from-w.ensures (omega (arith, c.from-w.ensures, c.requires.0, c.requires.5 c.loop-j.j (omega arith) (omega arith))) (c.requires.2 _ (omega (arith, c.from-w.ensures, c.requires.5 c.loop-j.j (omega arith) (omega arith))))

pub returns : goal.returns
returns c = let e : c.loop-j.j ≡ c.args.end = omega (arith, c.requires.3) in rw (sym e) c.loop-j.invariant
