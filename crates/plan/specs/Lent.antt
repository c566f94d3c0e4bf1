-- What lent tables hold, where they travel as one value. Assumes nothing.
use Rattle.std.specs.Prelude.{Bool, List, ℕ}
use Rattle.below.specs.Below.{at}
use Rattle.plan.specs.declared.lent.Stops.{Stops}
use Rattle.plan.specs.declared.lent.Links.{Links}
use Rattle.plan.specs.declared.lent.Walks.{Walks as LentWalks}
use Rattle.plan.specs.Visits.{Visits, visits_of}
use Rattle.plan.specs.Check.{clash}
use Rattle.plan.specs.Dependencies.{later_from}
use Rattle.plan.specs.Room.{VisitsRoom}
use Rattle.plan.specs.Sharing.{StopsLinked, Walks}

-- the visits of lent stops, where `numbers` has each stop's number in its drone
abbrev pub visits_held : (meets : ℕ → ℕ → Bool) → Stops → (numbers : List ℕ) → Visits
visits_held meets stops numbers = visits_of meets stops.owners.now numbers stops.locations.now stops.times.now stops.count

-- of lent stops, v and w, of a higher drone, stay at one time
abbrev pub clash_held : Stops → ℕ → ℕ → Bool
clash_held stops = clash (at stops.owners.now) (at stops.times.now) stops.count

-- of lent stops, w is not before `from`, of another drone than v, and later
abbrev pub later_held : Stops → (from : ℕ) → ℕ → ℕ → Bool
later_held stops = later_from (at stops.owners.now) (at stops.times.now)

-- the tables of lent stops have room for them
abbrev pub StopsHeld : Stops → Type 0
StopsHeld stops = VisitsRoom stops.count stops.owners.now stops.locations.now stops.times.now

-- the stops are linked by their locations
abbrev pub LinksHeld : Stops → Links → Type 0
LinksHeld stops links = StopsLinked (at stops.owners.now) (at stops.locations.now) stops.count links.first.now links.next.now links.skip.now

-- everything that the walks of the stops that meet go by is as it should
abbrev pub WalksHeld : LentWalks → Type 0
WalksHeld walks =
    Walks
    walks.pairs.now
    walks.stops.owners.now
    walks.stops.locations.now
    walks.stops.count
    walks.links.first.now
    walks.links.next.now
    walks.links.skip.now
    walks.near.ends
    walks.near.heads.now
    walks.near.after.now
    walks.near.starts.now
