use Prim.Native.Nat.{◌≤◌}
use mathlib.Core.Path.{◌≡◌}
use Rattle.below.specs.Below.{count_below, laid, picks}
use Rattle.choices.proofs.Directed.{open_in}
use Rattle.choices.proofs.directions.list_turns.Given as goal

abbrev pub invariant-loop-w : goal.invariant-loop-w
invariant-loop-w l = (l.list ≡ laid l.initial.list 0 (picks l.w (open_in l.to) (λ v. v))) × (l.n ≡ count_below l.w (open_in l.to)) × (l.n ≤ l.w)
