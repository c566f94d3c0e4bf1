use Prim.Native.Nat.{◌-◌}
use mathlib.Core.Path.{refl, sym, ◌∙◌}
use native.Mathlib.Omega.{arith}
use borrow.Author.Tests.{leb-true, leb-false}
use Rattle.below.specs.Below.{at}
use Rattle.rounds.proofs.OneRound.{scan_falls, scan_more, looked_shut, looked_open}
use Rattle.rounds.proofs.playing.look.Goals as goal

pub returns-then-not-is_met : goal.returns-then-not-is_met
returns-then-not-is_met c = looked_shut _ _ _ _ _ _ _ _ c.requires.0 (at c.args.places.now) c.args.d c.requires.2 (omega (arith, c.if-stops-d.false)) c.loop-wait.wait (c.from-k.result - 1) (omega (arith, c.from-k.ensures, c.loop-wait-test.true)) c.loop-wait.invariant (leb-false _ _ (sym c.is_met.ensures ∙ c.if-not-is_met.true))

pub loop-wait-smaller : goal.loop-wait-smaller
loop-wait-smaller c = scan_falls _ _ _ _ _ _ _ _ c.requires.0 (at c.args.places.now) c.args.d c.requires.2 (omega (arith, c.if-stops-d.false)) _ refl c.loop-wait.wait (c.from-k.result - 1) (omega (arith, c.from-k.ensures, c.loop-wait-test.true)) c.loop-wait.invariant c.args.next.now c.requires.1 _ refl

pub loop-wait-preserved : goal.loop-wait-preserved
loop-wait-preserved c = scan_more _ _ _ _ _ _ _ _ c.requires.0 (at c.args.places.now) c.args.d c.requires.2 (omega (arith, c.if-stops-d.false)) _ refl c.loop-wait.wait (c.from-k.result - 1) (omega (arith, c.from-k.ensures, c.loop-wait-test.true)) c.loop-wait.invariant c.args.next.now c.requires.1 _ refl (leb-true _ _ (sym c.is_met.ensures ∙ c.if-not-is_met.false))

pub returns : goal.returns
returns c = looked_open _ _ _ _ _ _ _ _ c.requires.0 (at c.args.places.now) c.args.d c.requires.2 (omega (arith, c.if-stops-d.false)) c.loop-wait.wait (omega (arith, c.loop-wait-test.false)) c.loop-wait.invariant
