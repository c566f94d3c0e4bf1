-- What is asked, kept and replied where the stops and the waits are lent as one value each. Assumes nothing.
use Rattle.std.specs.Prelude.{Bool, List, ℕ, ◌+◌}
use Rattle.below.specs.Below.{at, count_below}
use Rattle.tables.specs.Limits.{Limits}
use Rattle.cycles.specs.declared.lent.FlatStops.{FlatStops}
use Rattle.cycles.specs.declared.lent.FlatWaits.{FlatWaits}
use Rattle.rounds.specs.Remaining.{flat_leg}
use Rattle.choices.specs.Budget.{SearchReply}
use Rattle.choices.specs.Directions.{choice_cyclic, choice_cost}
use Rattle.orders.specs.Arranged.{standing_plan, turned_round, open_from, Searchable, standing_reply}
use Rattle.orders.specs.Path.{OnPath}
use Rattle.orders.specs.declared.search.Question.{Question}

abbrev pub MarkedSearchable : Limits → FlatStops → FlatWaits → (ℕ → Bool) → (legs visited : List ℕ) → Type 0
MarkedSearchable L stops waits = Searchable L stops.owners.now stops.starts.now stops.lasts.now stops.drones stops.count waits.from.now waits.into.now waits.count

-- the reply over those of the waits that pass the test
abbrev pub marked_reply : FlatStops → FlatWaits → (ℕ → Bool) → (legs visited : List ℕ) → ℕ → SearchReply
marked_reply stops waits is_open_lem legs visited budget = standing_reply stops.owners.now stops.starts.now stops.lasts.now stops.drones waits.from.now waits.into.now waits.count is_open_lem legs visited budget (count_below waits.count is_open_lem)

-- a choice's graph has a cycle, and what the choice costs
abbrev pub cyclic_in : Question → List Bool → Bool
cyclic_in q = choice_cyclic (standing_plan q.stops.owners.now q.stops.starts.now q.stops.lasts.now q.stops.drones q.from.now q.into.now (q.shut + q.open)) (turned_round q.stops.owners.now q.stops.starts.now q.from.now q.into.now) (open_from q.shut)

abbrev pub question_cost : Question → List Bool → ℕ
question_cost q = choice_cost (standing_plan q.stops.owners.now q.stops.starts.now q.stops.lasts.now q.stops.drones q.from.now q.into.now (q.shut + q.open)) (turned_round q.stops.owners.now q.stops.starts.now q.from.now q.into.now) (open_from q.shut) (flat_leg (at q.stops.starts.now) (at q.legs.now)) (at q.visited.now)

abbrev pub SearchableIn : Limits → Question → Type 0
SearchableIn L q = Searchable L q.stops.owners.now q.stops.starts.now q.stops.lasts.now q.stops.drones q.stops.count q.from.now q.into.now (q.shut + q.open) (open_from q.shut) q.legs.now q.visited.now

abbrev pub question_reply : Question → ℕ → SearchReply
question_reply q budget = standing_reply q.stops.owners.now q.stops.starts.now q.stops.lasts.now q.stops.drones q.from.now q.into.now (q.shut + q.open) (open_from q.shut) q.legs.now q.visited.now budget q.open

abbrev pub OnPathIn : Limits → Question → (cur dirs : List ℕ) (depth held base : ℕ) (has_cycle : Bool) (f i head next marks : List ℕ) (top : ℕ) (t ls lo : List ℕ) → Type 0
OnPathIn L q = OnPath L q.stops.owners.now q.stops.starts.now q.stops.lasts.now q.stops.drones q.stops.count q.from.now q.into.now q.shut q.legs.now
