-- What is asked and kept of stops and waits that are lent as one value each. Assumes nothing.
use Rattle.std.specs.Prelude.{Bool, List, ℕ, ◌+◌, Option}
use Rattle.below.specs.Below.{at}
use Rattle.tables.specs.Limits.{Limits}
use Rattle.cycles.specs.declared.lent.FlatStops.{FlatStops}
use Rattle.cycles.specs.declared.lent.FlatWaits.{FlatWaits}
use Rattle.cycles.specs.Links.{LinkedWaits}
use Rattle.cycles.specs.Lent.{course_held}
use Rattle.cycles.specs.Walk.{Course}
use Rattle.raising.specs.declared.worklist.Edges.{Edges}
use Rattle.raising.specs.Lifting.{Raisable}
use Rattle.raising.specs.Judged.{Judgeable}
use Rattle.raising.specs.UpToDate.{UpToDate, MarkedTable, Tried, TakenBack}

-- the waits with the one that comes after them
abbrev pub one_more : FlatWaits → FlatWaits
one_more waits = record { from = waits.from; into = waits.into; count = waits.count + 1 }

abbrev pub RaisableIn : Limits → FlatStops → FlatWaits → (legs cur : List ℕ) → Type 0
RaisableIn L stops waits = Raisable L stops.owners.now stops.starts.now stops.lasts.now stops.drones stops.count waits.from.now waits.into.now waits.count

abbrev pub JudgeableIn : Limits → FlatStops → FlatWaits → (legs visited : List ℕ) → Type 0
JudgeableIn L stops waits = Judgeable L stops.owners.now stops.starts.now stops.lasts.now stops.drones stops.count waits.from.now waits.into.now waits.count

abbrev pub UpToDateIn : Limits → FlatStops → FlatWaits → (legs cur head next : List ℕ) (top : ℕ) (t ls lo : List ℕ) → Type 0
UpToDateIn L stops waits = UpToDate L stops.owners.now stops.starts.now stops.lasts.now stops.drones stops.count waits.from.now waits.into.now waits.count

abbrev pub MarkedTableIn : Limits → FlatStops → FlatWaits → (legs cur : List ℕ) (mark top : ℕ) (t ls lo : List ℕ) → Type 0
MarkedTableIn L stops waits = MarkedTable L stops.owners.now stops.starts.now stops.lasts.now stops.drones stops.count waits.from.now waits.into.now waits.count

abbrev pub TriedIn : Limits → FlatStops → FlatWaits → (legs cur : List ℕ) (top : ℕ) (t ls lo : List ℕ) (has_cycle fresh : Bool) (head next : List ℕ) (r : ℕ) (t' ls' lo' : List ℕ) → Type 0
TriedIn L stops waits = Tried L stops.owners.now stops.starts.now stops.lasts.now stops.drones stops.count waits.from.now waits.into.now waits.count

abbrev pub TakenBackIn : Limits → FlatStops → FlatWaits → (legs cur : List ℕ) (mark : Option ℕ) (top : ℕ) (t ls lo head next : List ℕ) (r : ℕ) (t' : List ℕ) → Type 0
TakenBackIn L stops waits = TakenBack L stops.owners.now stops.starts.now stops.lasts.now stops.drones stops.count waits.from.now waits.into.now waits.count

-- the edges along which entries are raised
abbrev pub course_over : Edges → Course
course_over edges = course_held edges.stops edges.waits

abbrev pub RaisableOver : Limits → Edges → Type 0
RaisableOver L edges = RaisableIn L edges.stops edges.waits edges.legs.now edges.cur.now

abbrev pub LinkedOver : Limits → Edges → Type 0
LinkedOver L edges = LinkedWaits L (at edges.waits.from.now) edges.waits.count edges.head.now edges.next.now
