use native.Mathlib.Omega.{arith}
use Rattle.near.proofs.NearLaws.{count_within, halved_start, halved_up, halved_down, listed-past, listed_here}
use Rattle.near.proofs.is_listed.Goals as goal

pub loop-lo-init : goal.loop-lo-init
loop-lo-init c = halved_start _ _ _

pub overflow_add-middle : goal.overflow_add-middle
overflow_add-middle c = omega (arith, c.loop-lo.invariant.within, c.loop-lo.invariant.order, c.requires.counted, count_within c.args.pairs.now)

pub key_at-requires : goal.key_at-requires
key_at-requires c = omega (arith, c.loop-lo.invariant.within, c.requires.counted, c.requires.room, count_within c.args.pairs.now)

pub overflow_add-lo : goal.overflow_add-lo
overflow_add-lo c = omega (arith, c.loop-lo.invariant.within, c.requires.counted, count_within c.args.pairs.now)

pub loop-lo-preserved-then-key_at-key : goal.loop-lo-preserved-then-key_at-key
loop-lo-preserved-then-key_at-key c = halved_up c.requires (omega arith) _ _ _ _ c.loop-lo.invariant (omega (arith, c.loop-lo-test.true)) (omega (arith, c.loop-lo-test.true)) (omega (arith, c.key_at.ensures, c.if-key_at-key.true))

pub loop-lo-preserved : goal.loop-lo-preserved
loop-lo-preserved c = halved_down c.requires (omega arith) _ _ _ _ c.loop-lo.invariant (omega (arith, c.loop-lo-test.true)) (omega (arith, c.loop-lo-test.true)) (omega (arith, c.key_at.ensures, c.if-key_at-key.false))

pub returns-then-count-lo : goal.returns-then-count-lo
returns-then-count-lo c = listed-past c.requires (omega arith) _ _ _ _ _ (omega (arith, c.from.ensures, c.from-2.ensures)) (omega (arith, c.from-2.ensures)) c.loop-lo.invariant c.loop-lo-test.false c.if-count-lo.true

pub key_at-requires-2 : goal.key_at-requires-2
key_at-requires-2 c = omega (arith, c.loop-lo.invariant.within, c.requires.counted, c.requires.room, count_within c.args.pairs.now)

pub returns : goal.returns
returns c = rw c.key_at-2.ensures (listed_here c.requires (omega arith) _ _ _ _ _ (omega (arith, c.from.ensures, c.from-2.ensures)) (omega (arith, c.from-2.ensures)) c.loop-lo.invariant c.loop-lo-test.false c.if-count-lo.false)
