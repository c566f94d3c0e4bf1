use Prim.Native.Nat.{ℕ, ◌+◌, ◌≤◌}
use mathlib.Core.Path.{◌≡◌}
use mathlib.Core.Bool.{false}
use Rattle.below.specs.Below.{at}
use Rattle.tables.specs.Limits.{limits}
use Rattle.raising.specs.Lent.{course_over}
use Rattle.raising.specs.Lifting.{none_left, OutBefore, PartRaised}
use Rattle.raising.proofs.worklist.offer_waits.Given as goal

abbrev pub invariant-loop-wait : goal.invariant-loop-wait
invariant-loop-wait l = PartRaised (course_over l.edges) (at l.edges.legs.now) (at l.edges.cur.now) limits l.u none_left (λ k. at l.edges.waits.from.now k ≡ l.u) none_left (OutBefore (course_over l.edges) l.u l.wait) l.top l.initial.table l.initial.log_stops l.initial.log_olds false l.end l.table l.log_stops l.log_olds × (l.wait ≤ l.edges.waits.count) × ((j : ℕ) → l.wait ≡ j + 1 → at l.edges.waits.from.now j ≡ l.u)

abbrev pub decreases-loop-wait : goal.decreases-loop-wait
decreases-loop-wait l = l.wait
