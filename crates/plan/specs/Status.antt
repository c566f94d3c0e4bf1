-- The status in lent tables, and what is asked of it: the state that calls change (document 01, "Tables and what is sound"). Assumes nothing.
use Rattle.std.specs.Prelude.{Bool, not, ◌&&◌, ◌||◌, ℕ, suc, leb, eqb}
use Rattle.below.specs.Below.{first_below, all_below, at}
use Rattle.tables.specs.Tables.{Tables}
use Rattle.tables.specs.Flags.{turned_bit, under_way_bit, withdrawn_bit}
use Rattle.precedence.specs.Graph.{blocks}
use Rattle.plan.specs.Field.{Dependency, FieldPlan, Status, in_force, graph, fixed}

-- "A drone's progress is its last visited stop (0 at first) and whether it is under way to the next"; the "mark in the drone's record"; "bit 0 is turned"
abbrev pub status_in : Tables → Status
status_in t = record { place = at t.visited; under_way = λ d. under_way_bit (at t.drone_flags d); withdrawn = λ d. withdrawn_bit (at t.drone_flags d); turned = λ w. turned_bit (at t.flags w) }

module _ (F : FieldPlan) (s : Status) where
  open F use {drones, last, location, count, dependency}
  open s use {place, under_way, turned}

  -- "has visited or is under way to its stop"
  abbrev pub entered : ℕ → ℕ → Bool
  entered d k = leb k (place d) || under_way d && eqb k (suc (place d))

  -- "the lowest dependency unmet" into the drone's next stop; the number of dependencies if there is none. A wait of a withdrawn drone is one until stop 0, and met
  abbrev pub unmet : ℕ → ℕ
  unmet d = first_below count (blocks (graph F s) place d)

  -- the dependency as the order now in force has it
  abbrev pub dependency_now : ℕ → Dependency
  dependency_now w = in_force (turned w) (dependency w)

  -- ---- the clauses of "sound" that speak of progress and turns

  -- "none of the fixed ones turned"
  unfoldable pub fixed_unturned : Bool
  fixed_unturned = all_below count (λ w. not (turned w && fixed F w))

  -- "nobody is past or under way beyond a last stop"; of a withdrawn drone too "The sound rule still keeps its recorded progress within its stops"
  unfoldable pub within_stops : Bool
  within_stops = all_below drones (λ d. leb (place d) (last d) && not (under_way d && leb (last d) (place d)))

  -- "for every dependency whose waiting stop is visited or under way, the stop it waits for is visited"; of a withdrawn drone it asks nothing: the wait is until stop 0
  unfoldable pub waits_kept : Bool
  waits_kept = all_below count (λ w. not (entered ((graph F s).wait w).waiter ((graph F s).wait w).stop) || leb ((graph F s).wait w).until (place ((graph F s).wait w).awaited))
