-- The running sum is the first stop of the drone to come.
use borrow.Author.Rules.{rules}
use native.Mathlib.Omega.{arith}
use Rattle.std.proofs.lemmas.List.{length-take-le, get_or-take}
use Rattle.plan.proofs.StopsLaws.{start-turn, start_end}
use Rattle.plan.proofs.Numbering.{start_none}
use mathlib.Core.Path.{sym}
use Rattle.plan.proofs.stops.stop_total.Goals as goal

pub loop-count-init : goal.loop-count-init
loop-count-init c = (sym (start_none _), search rules)

pub loop-count-preserved : goal.loop-count-preserved
loop-count-preserved c =
    let size = length-take-le c.args.drones c.args.counts.now c.requires.has_counts in
    let here = get_or-take c.args.drones c.args.counts.now c.loop-count.count-index 0 (omega (arith, c.loop-count-test.true, size)) in
    (rw (c.from-total.ensures, here) (start-turn _ _ _ c.loop-count.invariant.0), omega arith)

pub returns : goal.returns
returns c =
    let size = length-take-le c.args.drones c.args.counts.now c.requires.has_counts in
    start_end _ _ _ c.loop-count.invariant.0 _ (omega (arith, c.loop-count.auto.count-index-end, size)) (omega (arith, c.loop-count-test.false, size))
