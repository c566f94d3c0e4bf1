-- `tables::sizes::full_size` meets its contract: at each refusal one of the sixteen sizes fails, and at the end all hold but for the last, which is the answer. Assumes nothing.
use native.Mathlib.Omega.{arith}
use borrow.Author.Tests.{ltb-false, leb-true, leb-false}
use Rattle.tables.proofs.SizeLaws.{size_test, size_missed}
use Rattle.tables.proofs.sizes.full_size.Goals as goal

pub returns-then-plan-lt-COUNT : goal.returns-then-plan-lt-COUNT
returns-then-plan-lt-COUNT c = size_missed _ _ (λ s. omega arith)

pub returns-then-plan-lt-NAMES : goal.returns-then-plan-lt-NAMES
returns-then-plan-lt-NAMES c = size_missed _ _ (λ s. omega arith)

pub returns-then-plan-lt-FULL-2 : goal.returns-then-plan-lt-FULL-2
returns-then-plan-lt-FULL-2 c = size_missed _ _ (λ s. omega arith)

pub returns-then-plan-lt-FULL-4 : goal.returns-then-plan-lt-FULL-4
returns-then-plan-lt-FULL-4 c = size_missed _ _ (λ s. omega arith)

pub returns-then-sides-lt-FULL : goal.returns-then-sides-lt-FULL
returns-then-sides-lt-FULL c = size_missed _ _ (λ s. omega arith)

pub returns-then-sides-lt-FULL-3 : goal.returns-then-sides-lt-FULL-3
returns-then-sides-lt-FULL-3 c = size_missed _ _ (λ s. omega arith)

pub returns-then-visited-lt-FULL : goal.returns-then-visited-lt-FULL
returns-then-visited-lt-FULL c = size_missed _ _ (λ s. omega arith)

pub returns-then-flags-lt-FULL : goal.returns-then-flags-lt-FULL
returns-then-flags-lt-FULL c = size_missed _ _ (λ s. omega arith)

pub returns : goal.returns
returns c = size_test _ _ _ (λ h. omega (arith, leb-true, ltb-false)) (λ h s. omega (arith, leb-false))
