-- A histogram over the locations, filled drone by drone. `firsts` has the entry of each stop's location: the first stop there or, where only near locations are counted,
-- the first number of the pairs that is that location. Assumes nothing.
use Rattle.std.specs.Prelude.{◌≡◌, List, ℕ, ◌+◌, ◌*◌, ◌≤◌, ◌<◌, eqb, length}
use Rattle.below.specs.Below.{at, count_below, sum_below, pick}
use Rattle.tables.specs.Limits.{Limits}
use Rattle.plan.specs.Sharing.{first_where, first_at, other_end}

-- each of n stops has an entry within the histogram
pub record Indexed (L : Limits) (firsts : List ℕ) (n : ℕ) : Type 0 where
  pub has_firsts : n ≤ length firsts
  pub few : n ≤ L.stops
  pub within : (v : ℕ) → v < n → at firsts v < L.stops

-- each entry of counts says how many of the first lo stops have it
pub record Tally (L : Limits) (firsts counts : List ℕ) (n lo : ℕ) : Type 0 where
  pub size : length counts ≡ L.stops
  pub here : (f : ℕ) → f < L.stops → at counts f ≡ count_below lo (λ u. eqb (at firsts u) f)

-- the stops lo to w - 1 are of lo's drone, and those before lo of lower drones
pub record Run (own : ℕ → ℕ) (lo w : ℕ) : Type 0 where
  pub starts : lo ≤ w
  pub lower : (v : ℕ) → v < lo → own v < own lo
  pub alike : (v : ℕ) → lo ≤ v → v < w → own v ≡ own lo

-- the histogram holds the drones before that of stop w, whose stops begin at lo
pub record Settled (L : Limits) (owners firsts counts : List ℕ) (n w lo : ℕ) : Type 0 where
  pub tally : Tally L firsts counts n lo
  pub run : Run (at owners) lo (w + 1)
  pub from : lo ≤ w

-- ---- the stops near a location, by a histogram whose entries are numbers of the pairs

-- of c pairs `first` has the first number that is the location of each, and `heads` the first that is the location of each of n stops, 2 * c where there is none
pub record NumberHeads (pairs locations first heads : List ℕ) (c n : ℕ) : Type 0 where
  pub has_firsts : 2 * c ≤ length first
  pub firsts : (j : ℕ) → j < 2 * c → at first j ≡ first_at (at pairs) j
  pub has_heads : n ≤ length heads
  pub heads_are : (v : ℕ) → v < n → at heads v ≡ first_where (at pairs) (2 * c) (at locations v)

-- over the numbers of the pairs that are location l: the entries of the locations that they are paired with; `first` has the entry of each number's location
unfoldable pub near_sum : (pairs first counts : List ℕ) (ends l : ℕ) → ℕ
near_sum pairs first counts ends l = sum_below ends (λ k. pick (eqb (at pairs k) l) (at counts (at first (other_end k))) 0)
