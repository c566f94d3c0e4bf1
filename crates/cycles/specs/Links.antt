-- The waits out of each stop, linked the greatest first. Assumes nothing.
use Rattle.std.specs.Prelude.{List, ℕ}
use Rattle.below.specs.Below as below
use Rattle.tables.specs.Limits.{Limits}

-- the links of the first m waits, wait k being for stop `from k`
abbrev pub LinkedWaits : (L : Limits) (from : ℕ → ℕ) (m : ℕ) (head next : List ℕ) → Type 0
LinkedWaits L = below.Linked L.stops L.dependencies
