use Prim.Native.Nat.{◌≤◌}
use Rattle.tables.specs.Lent.{lent_tables}
use Rattle.best_order.specs.Opening.{OpenMarked}
use Rattle.best_order.proofs.opening.mark_open.Given as goal

abbrev pub invariant-loop-w : goal.invariant-loop-w
invariant-loop-w l = OpenMarked (lent_tables l.plan l.visited l.drone_flags l.sides l.flags) l.w l.initial.opens l.opens l.open × (l.open ≤ l.w)
