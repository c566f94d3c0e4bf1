-- The search on its way: the choice in hand, and the links, the table of rounds and the log of the waits that it decides. Assumes nothing.
use Rattle.std.specs.Prelude.{◌≡◌, Bool, true, false, List, ℕ, ◌+◌, ◌≤◌, ◌<◌, length}
use Rattle.below.specs.Below.{at}
use Rattle.tables.specs.Limits.{Limits}
use Rattle.precedence.specs.Graph.{cyclic}
use Rattle.raising.specs.UpToDate.{UpToDate, MarkedTable}
use Rattle.orders.specs.Arranged.{standing_plan, Decided}

-- the first `depth` entries of dirs are the choice in hand, and f and i hold its waits. The first `held` of these are in: all of them, or all but the last if that one closes a cycle.
-- The log leads back to the tables of each shorter choice from `base` on, by the marks
pub record OnPath (L : Limits) (owners starts lasts : List ℕ) (drones n : ℕ) (from into : List ℕ) (c : ℕ) (legs cur dirs : List ℕ) (depth held base : ℕ) (has_cycle : Bool) (f i head next marks : List ℕ) (top : ℕ) (t ls lo : List ℕ) : Type 0 where
  pub decided : Decided from into c dirs depth f i
  pub dirs_size : length dirs ≡ L.dependencies
  pub from_size : length f ≡ L.dependencies
  pub into_size : length i ≡ L.dependencies
  pub marks_size : length marks ≡ L.dependencies
  pub from_base : c + base ≤ held
  pub says_cyclic : has_cycle ≡ cyclic (standing_plan owners starts lasts drones f i (c + depth))
  pub all_in_lem : has_cycle ≡ false → held ≡ c + depth
  pub but_last : has_cycle ≡ true → held + 1 ≡ c + depth
  pub standing : UpToDate L owners starts lasts drones n f i held legs cur head next top t ls lo
  pub marked : (e : ℕ) → base ≤ e → e < depth → MarkedTable L owners starts lasts drones n f i (c + e) legs cur (at marks e) top t ls lo
  pub rising : (e d : ℕ) → base ≤ e → e ≤ d → d < depth → at marks e ≤ at marks d
