use mathlib.Core.Path.{◌≡◌, sym}
use native.Mathlib.Omega.{arith}
use borrow.Author.Tests.{eq-eqb, ne_eqb}
use Rattle.below.proofs.Search.{first_none, first_more, first_hit}
use Rattle.tables.specs.Limits.{most_pairs}
use Rattle.near.specs.Near.{pair_count}
use Rattle.near.proofs.pair_count.Goals as goal

pub loop-i-init : goal.loop-i-init
loop-i-init c = first_none _

pub returns-then-pairs-i-eq0 : goal.returns-then-pairs-i-eq0
unfolding pair_count
returns-then-pairs-i-eq0 c = (first_hit _ _ _ c.loop-i-test.true c.loop-i.invariant (eq-eqb _ _ c.if-pairs-i-eq0.true), omega arith)

pub loop-i-preserved : goal.loop-i-preserved
loop-i-preserved c = first_more _ _ c.loop-i.invariant (ne_eqb _ _ c.if-pairs-i-eq0.false)

pub returns : goal.returns
unfolding pair_count
returns c = let e : c.loop-i.i ≡ most_pairs = omega arith in (sym (rw e at c.loop-i.invariant), omega arith)
