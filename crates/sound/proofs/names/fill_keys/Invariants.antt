use Prim.Native.Nat.{◌≤◌}
use mathlib.Core.Path.{◌≡◌}
use lib.ListN.{length}
use Rattle.tables.specs.Limits.{limits}
use Rattle.sound.specs.Asked.{Keyed}
use Rattle.sound.proofs.names.fill_keys.Given as goal

abbrev pub invariant-loop-d : goal.invariant-loop-d
invariant-loop-d l = (l.d ≤ l.drones) × (length l.keys ≡ limits.drones) × Keyed limits l.names l.keys l.d
