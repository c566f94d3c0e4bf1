use Prim.Native.Nat.{◌+◌}
use native.Mathlib.Omega.{arith}
use Rattle.raising.proofs.GoLaws.{goes-past, goes-own}
use Rattle.raising.proofs.worklist.offer_next.Goals as goal

pub returns-then-edges-w : goal.returns-then-edges-w
returns-then-edges-w c = goes-past c.requires.raisable.0 (omega (arith, c.if-edges-w.true))

pub offer-requires : goal.offer-requires
offer-requires c = (omega (arith, c.requires.raisable.0.tables.few_stops, c.requires.raisable.1), omega (arith, c.requires.raisable.0.tables.few_stops, c.if-edges-w.false), omega (arith, c.requires.raisable.0.tables.has_owners, c.if-edges-w.false), omega (arith, c.requires.raisable.0.tables.few_drones, c.requires.raisable.0.tables.placed.shape.own_in (c.args.u + 1) (omega (arith, c.if-edges-w.false))), omega (arith, c.requires.raisable.0.has_legs, c.if-edges-w.false), c.requires.log_at)

pub returns : goal.returns
returns c = goes-own c.requires.raisable.0 c.requires.log_at c.offer.ensures (omega (arith, c.if-edges-w.false))
