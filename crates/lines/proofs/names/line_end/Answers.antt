-- The first line feed from here on is the first from the start on.
use native.Mathlib.Omega.{arith}
use mathlib.Core.Path.{◌≡◌, sym, ◌∙◌}
use Rattle.lines.proofs.NameCases.{end_here, end_none, end_on}
use Rattle.lines.proofs.names.line_end.Goals as goal

pub returns-then-text-i-eq-LINE_FEED : goal.returns-then-text-i-eq-LINE_FEED
returns-then-text-i-eq-LINE_FEED c = sym (c.loop-i.invariant.1 ∙ end_here _ _ c.loop-i-test.true c.if-text-i-eq-LINE_FEED.true)

pub loop-i-preserved : goal.loop-i-preserved
loop-i-preserved c = (omega arith, c.loop-i.invariant.1 ∙ end_on _ _ c.loop-i-test.true c.if-text-i-eq-LINE_FEED.false)

pub returns : goal.returns
returns c = let e : c.max.result ≡ c.loop-i.i = omega arith in
    e ∙ sym (c.loop-i.invariant.1 ∙ end_none _ _ c.loop-i-test.false)
