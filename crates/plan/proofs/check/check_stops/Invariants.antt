-- No stop before v is at fault.
use mathlib.Core.Path.{◌≡◌}
use mathlib.Core.Bool.{Bool, not}
use Prim.Native.Nat.{ℕ}
use lib.Dec.{eqb}
use Rattle.below.specs.Below.{at, first_below}
use Rattle.plan.specs.Check.{fault_at}
use Rattle.plan.specs.Lent.{visits_held}
use Rattle.plan.proofs.check.check_stops.Given as goal

abbrev pub invariant-loop-v : goal.invariant-loop-v
invariant-loop-v l = (meets : ℕ → ℕ → Bool) → first_below l.v (λ v. not (eqb (fault_at (visits_held meets l.stops l.numbers) (at l.legs) v) 0)) ≡ l.v
