use Prim.Native.Nat.{ℕ, ◌≤◌, ◌<◌}
use mathlib.Core.Path.{◌≡◌}
use lib.ListN.{length}
use Rattle.below.specs.Below.{at}
use Rattle.tables.specs.Limits.{limits}
use Rattle.cycles.specs.Flat.{flat_plan}
use Rattle.rounds.specs.Playing.{Looked}
use Rattle.rounds.proofs.playing.look_all.Given as goal

abbrev pub invariant-loop-d : goal.invariant-loop-d
invariant-loop-d l = (l.d ≤ l.stops.drones) × (length l.links ≡ limits.drones) × ((e : ℕ) → e < l.d → Looked (flat_plan (at l.stops.owners.now) (at l.stops.starts.now) (at l.stops.lasts.now) l.stops.drones (at l.waits.from.now) (at l.waits.into.now) l.waits.count) (at l.waits.into.now) (at l.stops.starts.now) (at l.places) e (at l.links e)) × ((e : ℕ) → l.d ≤ e → at l.links e ≡ at l.initial.links e)
