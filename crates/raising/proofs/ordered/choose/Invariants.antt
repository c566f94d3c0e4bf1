use Prim.Native.Nat.{ℕ, ◌≤◌, ◌<◌}
use mathlib.Core.Path.{◌≡◌}
use Rattle.std.specs.Prelude.{Some, None}
use Rattle.below.specs.Below.{at}
use Rattle.raising.specs.Answers.{turn_of}
use Rattle.raising.proofs.ordered.choose.Given as goal

abbrev pub invariant-loop-d : goal.invariant-loop-d
invariant-loop-d l = (turn_of l.turn ≡ None → (e : ℕ) → e < l.d → l.n ≤ at l.low e) × ((e : ℕ) → turn_of l.turn ≡ Some e → (e < l.drones) × (at l.low e < l.n))
