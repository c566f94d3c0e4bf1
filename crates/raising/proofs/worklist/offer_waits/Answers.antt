use Rattle.std.proofs.lemmas.Result.{err_from_is_err_and}
use Prim.Native.Nat.{◌-◌}
use mathlib.Core.Path.{refl, ◌∙◌}
use native.Mathlib.Omega.{arith}
use lib.Dec.{eqb}
use Rattle.below.specs.Below.{at}
use Rattle.below.proofs.Links.{last_le}
use Rattle.tables.specs.Limits.{limits}
use Rattle.raising.proofs.LogLaws.{log_now}
use Rattle.raising.proofs.GoLaws.{goes_first, goes_last, goes_then, goes-turn, goes-full, link_falls, link-found, head_found}
use Rattle.raising.proofs.worklist.offer_waits.Goals as goal

pub loop-wait-init : goal.loop-wait-init
loop-wait-init c = (goes_first c.requires.raisable.0 (c.from-wait.ensures ∙ c.requires.raisable.2.heads c.args.u (omega (arith, c.requires.raisable.1, c.requires.raisable.0.tables.few_stops))), omega (arith, (c.from-wait.ensures ∙ c.requires.raisable.2.heads c.args.u (omega (arith, c.requires.raisable.1, c.requires.raisable.0.tables.few_stops))), last_le c.args.edges.now.waits.count (λ k. eqb (at c.args.edges.now.waits.from.now k) c.args.u)), head_found (at c.args.edges.now.waits.from.now) c.args.edges.now.waits.count (c.from-wait.ensures ∙ c.requires.raisable.2.heads c.args.u (omega (arith, c.requires.raisable.1, c.requires.raisable.0.tables.few_stops))))

pub offer-requires : goal.offer-requires
offer-requires c = (omega (arith, c.requires.raisable.0.tables.few_stops, c.requires.raisable.1), omega (arith, c.from-w.ensures, c.requires.raisable.0.tables.few_stops, (c.requires.raisable.0.tables.placed.into_in (c.loop-wait.wait - 1) (omega (arith, c.loop-wait.invariant.1)))), omega (arith, c.from-w.ensures, c.requires.raisable.0.tables.has_owners, (c.requires.raisable.0.tables.placed.into_in (c.loop-wait.wait - 1) (omega (arith, c.loop-wait.invariant.1)))), omega (arith, c.requires.raisable.0.tables.few_drones, c.requires.raisable.0.tables.placed.shape.own_in c.from-w.result (omega (arith, c.from-w.ensures, (c.requires.raisable.0.tables.placed.into_in (c.loop-wait.wait - 1) (omega (arith, c.loop-wait.invariant.1)))))), omega (arith, c.from-w.ensures, c.requires.raisable.0.has_legs, (c.requires.raisable.0.tables.placed.into_in (c.loop-wait.wait - 1) (omega (arith, c.loop-wait.invariant.1)))), log_now limits c.loop-wait.invariant.0.logs c.requires.log_at)

pub returns-in_err-end : goal.returns-in_err-end
returns-in_err-end c = let p = err_from_is_err_and c.from_residual.result c.from_residual.ensures.1 in rw (p.1, p.2) (goes-full c.requires.raisable.0 refl (goes-turn c.requires.raisable.0 c.requires.log_at c.loop-wait.invariant.0 c.in_err-end.ensures (omega arith) c.loop-wait.invariant.1 c.loop-wait.invariant.2 c.from-w.ensures refl))

pub loop-wait-smaller : goal.loop-wait-smaller
loop-wait-smaller c = link_falls (at c.args.edges.now.waits.from.now) (omega arith) (c.from-wait-in-loop-wait.ensures ∙ c.requires.raisable.2.nexts (c.loop-wait.wait - 1) (omega (arith, c.loop-wait.invariant.1)))

pub loop-wait-preserved : goal.loop-wait-preserved
loop-wait-preserved c = ((goes-turn c.requires.raisable.0 c.requires.log_at c.loop-wait.invariant.0 c.in_ok-end.ensures (omega arith) c.loop-wait.invariant.1 c.loop-wait.invariant.2 c.from-w.ensures (c.from-wait-in-loop-wait.ensures ∙ c.requires.raisable.2.nexts (c.loop-wait.wait - 1) (omega (arith, c.loop-wait.invariant.1)))), omega (arith, c.loop-wait.invariant.1, link_falls (at c.args.edges.now.waits.from.now) (omega arith) (c.from-wait-in-loop-wait.ensures ∙ c.requires.raisable.2.nexts (c.loop-wait.wait - 1) (omega (arith, c.loop-wait.invariant.1)))), link-found (at c.args.edges.now.waits.from.now) (omega arith) c.loop-wait.invariant.2 (c.from-wait-in-loop-wait.ensures ∙ c.requires.raisable.2.nexts (c.loop-wait.wait - 1) (omega (arith, c.loop-wait.invariant.1))))

pub returns : goal.returns
returns c = goes_then c.requires.raisable.0 c.loop-wait.invariant.0 (goes_last c.requires.raisable.0 (omega arith))
