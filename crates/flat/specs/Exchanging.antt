-- The waits of dependencies turned round in the local tables of the graph. Assumes nothing.
use Rattle.std.specs.Prelude.{List, ℕ, zero, suc, ◌+◌, ◌-◌, ◌≤◌, ◌<◌, set}
use Rattle.below.specs.Below.{at}
use Rattle.tables.specs.Limits.{Limits}

-- of each dependency the stop whose leaving is awaited, as the number of the next one, and the stop that waits to be entered
pub record WaitLists : Type 0 where
  pub from : List ℕ
  pub into : List ℕ

abbrev pub waits_from : (from into : List ℕ) → WaitLists
waits_from from into = record { from = from; into = into }

-- who waited to enter a stop is now awaited to leave it, and whose leaving was awaited now waits to enter
abbrev pub exchange_at : WaitLists → ℕ → WaitLists
exchange_at p k = waits_from (set p.from k (at p.into k + 1)) (set p.into k (at p.from k - 1))

-- the first n dependencies of a list, one after the other
unfoldable pub exchanges_to : ℕ → List ℕ → WaitLists → WaitLists
exchanges_to zero ws p = p
exchanges_to (suc n) ws p = exchange_at (exchanges_to n ws p) (at ws n)

-- what the exchange of one asks
pub record CanExchange (L : Limits) (p : WaitLists) (k : ℕ) : Type 0 where
  pub index_in : k < L.dependencies
  pub from_some : 1 ≤ at p.from k
  pub into_in : at p.into k < L.stops
