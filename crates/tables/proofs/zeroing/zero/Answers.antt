-- `tables::zeroing::zero` meets its contract. Assumes nothing.
use native.Mathlib.Omega.{arith}
use native.Mathlib.Numerals.{add-one}
use lib.ListN.{take}
use Rattle.tables.proofs.Zero.{stored, stored_all}
use Rattle.tables.proofs.zeroing.zero.Goals as goal

pub loop-entry-preserved : goal.loop-entry-preserved
loop-entry-preserved g c = let l = c.loop-entry in
    rw (l.invariant, add-one) (stored l.entry-index c.args.zero (take c.min-end.result c.args.table.now) c.loop-entry-test.true)

pub returns : goal.returns
returns g c = stored_all _ _ _ _ _ _ c.min-end.ensures c.loop-entry-test.false (omega arith) c.loop-entry.invariant
