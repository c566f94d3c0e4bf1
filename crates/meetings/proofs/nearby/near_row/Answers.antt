-- The sum is over the numbers before k.
use mathlib.Core.Path.{ap, ◌∙◌}
use Prim.Native.Nat.{ℕ}
use native.Mathlib.Omega.{arith}
use Rattle.below.specs.Below.{at}
use Rattle.plan.proofs.SharingLaws.{walk_from, walk_within_lem, walk_past}
use Rattle.plan.proofs.NearLists.{other_in}
use Rattle.meetings.proofs.NearCounts.{summed_start, summed_more, summed_end}
use Rattle.meetings.proofs.nearby.near_row.Goals as goal

pub loop-k-init : goal.loop-k-init
loop-k-init c = (c.requires.2, omega arith, λ l e. summed_start c.args.pairs.now c.args.first.now c.args.counts.now _ _ _ e)

pub loop-k-smaller : goal.loop-k-smaller
loop-k-smaller c = omega (arith, walk_past _ _ _ _ c.requires.0 c.loop-k.k _ c.loop-k-test.true c.from-k.ensures, c.loop-k-test.true)

pub loop-k-preserved : goal.loop-k-preserved
loop-k-preserved c = (rw c.from-k.ensures (walk_within_lem _ _ _ _ c.requires.0 c.loop-k.k c.loop-k-test.true), omega (arith, walk_past _ _ _ _ c.requires.0 c.loop-k.k _ c.loop-k-test.true c.from-k.ensures, c.from-sum.ensures, c.type_inv.counts, c.from-k.ensures, c.loop-k.invariant.1), λ l e. summed_more c.args.pairs.now c.args.first.now c.args.counts.now _ _ _ c.requires.0 _ _ _ _ c.loop-k-test.true ((c.loop-k.invariant.2 l e).1 c.loop-k-test.true) (c.loop-k.invariant.2 l e).0 (c.from-sum.ensures ∙ ap (at c.args.counts.now) c.from-f.ensures ∙ ap (λ (j : ℕ). at c.args.counts.now (at c.args.first.now j)) c.other_end.ensures) c.from-k.ensures)

pub returns : goal.returns
returns c = λ l e. summed_end c.args.pairs.now c.args.first.now c.args.counts.now _ _ _ _ c.loop-k.invariant.0 c.loop-k-test.false (c.loop-k.invariant.2 l e).0

pub offset_bounds-first-other_end : goal.offset_bounds-first-other_end
offset_bounds-first-other_end c = omega (arith, other_in c.loop-k.k c.args.count c.loop-k-test.true, c.other_end.ensures, c.requires.1)

pub bounds-first-other_end : goal.bounds-first-other_end
bounds-first-other_end c = omega (arith, other_in c.loop-k.k c.args.count c.loop-k-test.true, c.other_end.ensures, c.requires.1)

pub bounds-counts-f : goal.bounds-counts-f
bounds-counts-f c = omega (arith, c.from-f.ensures, walk_from _ _ _ _ c.requires.0 c.other_end.result (omega (arith, other_in c.loop-k.k c.args.count c.loop-k-test.true, c.other_end.ensures)), other_in c.loop-k.k c.args.count c.loop-k-test.true, c.other_end.ensures, c.requires.1)
