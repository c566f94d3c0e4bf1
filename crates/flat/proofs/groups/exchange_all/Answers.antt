-- The waits of the dependencies before this one are turned round. Assumes nothing.
use native.Mathlib.Numerals.{add-one}
use Rattle.flat.specs.Exchanging.{waits_from}
use Rattle.flat.proofs.GroupLaws.{exchange_none, exchange_more, exchange_can, exchange_lengths}
use Rattle.flat.proofs.groups.exchange_all.Goals as goal

pub loop-dependency-init : goal.loop-dependency-init
loop-dependency-init c = exchange_none _ _

pub exchange-requires : goal.exchange-requires
exchange-requires c =
    let can = exchange_can _ _ _ c.loop-dependency.invariant (c.requires.2 _ c.loop-dependency-test.true) in
    let sizes = exchange_lengths _ _ (waits_from _ _) _ _ c.requires.0 c.requires.1 c.loop-dependency.invariant in
    rw c.from.ensures (can.index_in, sizes.0, sizes.1, can.from_some, can.into_in)

pub loop-dependency-preserved : goal.loop-dependency-preserved
loop-dependency-preserved c =
    let done = rw c.from.ensures at c.exchange.ensures in
    exchange_more _ _ _ _ _ _ _ _ (add-one _) c.loop-dependency.invariant done.0 done.1
