use Prim.Native.Nat.{◌-◌}
use Rattle.near.proofs.NearLaws.{Halved}
use Rattle.near.proofs.is_listed.Given as goal

abbrev pub invariant-loop-lo : goal.invariant-loop-lo
invariant-loop-lo l = Halved l.pairs l.count l.key l.lo l.hi

abbrev pub decreases-loop-lo : goal.decreases-loop-lo
decreases-loop-lo l = l.hi - l.lo
