use Prim.Native.Nat.{ℕ, ◌≤◌, ◌<◌, ◌+◌}
use mathlib.Core.Path.{◌≡◌}
use lib.ListN.{length}
use Rattle.below.specs.Below.{at}
use Rattle.tables.specs.Limits.{limits}
use Rattle.rounds.proofs.playing.first_links.Given as goal

abbrev pub invariant-loop-d : goal.invariant-loop-d
invariant-loop-d l = (l.d ≤ l.stops.drones) × (length l.links ≡ limits.drones) × ((e : ℕ) → e < l.d → at l.stops.starts.now e + at l.places e + 1 < limits.stops → at l.links e ≡ at l.head (at l.stops.starts.now e + at l.places e + 1))
