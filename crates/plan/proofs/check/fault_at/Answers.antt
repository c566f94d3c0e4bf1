-- The returns stand in the order of the definition's tests, and each test's outcome chooses the definition's case.
use borrow.Author.Tests.{eq-eqb, ne_eqb, le-leb, lt-leb}
use Rattle.below.specs.Below.{at}
use Rattle.plan.specs.Check.{fault_at}
use Rattle.plan.proofs.CheckLaws.{short_rise, long_rise}
use native.Mathlib.Omega.{arith}
use Rattle.plan.proofs.check.fault_at.Goals as goal

pub returns-then-times-v-eq0 : goal.returns-then-times-v-eq0
unfolding fault_at
returns-then-times-v-eq0 c = λ meets owners n. rw (eq-eqb _ _ c.if-numbers-v-eq0.true, eq-eqb _ _ c.if-times-v-eq0.true)

pub returns-else-times-v-eq0 : goal.returns-else-times-v-eq0
unfolding fault_at
returns-else-times-v-eq0 c = λ meets owners n. rw (eq-eqb _ _ c.if-numbers-v-eq0.true, ne_eqb _ _ c.if-times-v-eq0.false)

pub returns-then-times-v : goal.returns-then-times-v
unfolding fault_at
returns-then-times-v c = λ meets owners n. rw (ne_eqb _ _ c.if-numbers-v-eq0.false, ← c.saturating_sub-earlier.ensures, le-leb _ _ c.if-times-v.true)

pub returns-then-times-v-2 : goal.returns-then-times-v-2
unfolding fault_at
returns-then-times-v-2 c = λ meets owners n. rw (ne_eqb _ _ c.if-numbers-v-eq0.false, ← c.saturating_sub-earlier.ensures, lt-leb _ _ c.if-times-v.false, short_rise (at c.args.times.now c.args.v) (at c.args.times.now c.saturating_sub-earlier.result) (at c.args.legs.now c.args.v) (omega (arith, c.if-times-v-2.true, c.from.ensures)))

pub returns-then-locations-v : goal.returns-then-locations-v
unfolding fault_at
returns-then-locations-v c = λ meets owners n. rw (ne_eqb _ _ c.if-numbers-v-eq0.false, ← c.saturating_sub-earlier.ensures, lt-leb _ _ c.if-times-v.false, long_rise (at c.args.times.now c.args.v) (at c.args.times.now c.saturating_sub-earlier.result) (at c.args.legs.now c.args.v) c.if-times-v.false (omega (arith, c.if-times-v-2.false, c.from.ensures)), eq-eqb _ _ c.if-locations-v.true)

pub returns : goal.returns
unfolding fault_at
returns c = λ meets owners n. rw (ne_eqb _ _ c.if-numbers-v-eq0.false, ← c.saturating_sub-earlier.ensures, lt-leb _ _ c.if-times-v.false, long_rise (at c.args.times.now c.args.v) (at c.args.times.now c.saturating_sub-earlier.result) (at c.args.legs.now c.args.v) c.if-times-v.false (omega (arith, c.if-times-v-2.false, c.from.ensures)), ne_eqb _ _ c.if-locations-v.false)
