use Prim.Native.Nat.{ℕ, ◌<◌}
use mathlib.Core.Path.{◌≡◌}
use Rattle.below.specs.Below.{at}
use Rattle.plan.specs.Sharing.{next_at}
use Rattle.plan.proofs.StretchLaws.{Skipping}
use Rattle.plan.proofs.sharing.fill_skips.Given as goal

abbrev pub invariant-loop-w : goal.invariant-loop-w
invariant-loop-w l = (loc : ℕ → ℕ) → ((v : ℕ) → v < l.n → at l.next v ≡ next_at loc l.n v) → Skipping (at l.owners) loc l.n l.initial.skip l.skip l.w
