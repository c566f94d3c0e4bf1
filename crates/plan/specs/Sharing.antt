-- Stops that share a location: the first of them, the next, and the next by another drone. The first is found through trees of first stops; a location's low digits say which way to go, so no
-- plan makes a way long. `loc` is a stop's location. Assumes nothing.
use Rattle.std.specs.Prelude.{◌≡◌, ◌≢◌, Bool, false, not, ◌&&◌, List, ℕ, ◌+◌, ◌*◌, ◌-◌, ◌/◌, ◌%◌, ◌≤◌, ◌<◌, ltb, leb, eqb, length}
use Rattle.below.specs.Below.{at, first_below, pick}
use Rattle.tables.specs.Limits.{limits, most_pairs}
use Rattle.near.specs.Near.{pair_count}

-- how many trees there are, as many as stops at most, and how many slots: a root for each tree and two branches for each stop
abbrev pub roots : ℕ
roots = limits.stops

abbrev pub slots : ℕ
slots = roots + 2 * limits.stops

-- the tree of a location: any function would do. This one keeps locations in a row apart, and those that lie a power of two apart; the 32 locations of a tree differ in
-- `l / roots`, so no way from its root is longer than six stops
unfoldable pub root_of : ℕ → ℕ
root_of l = (l + l / roots * 17) % roots

-- the slot to which a search goes on from stop x, by the digits that are left
abbrev pub branch : (x digits : ℕ) → ℕ
branch x digits = roots + 2 * x + digits % 2

module _ (loc : ℕ → ℕ) where
  -- the first of n stops at location l, or n
  unfoldable pub first_where : (n l : ℕ) → ℕ
  first_where n l = first_below n (λ u. eqb (loc u) l)

  -- the first stop at the location of v
  unfoldable pub first_at : ℕ → ℕ
  first_at v = first_below v (λ u. eqb (loc u) (loc v))

  -- the search of location l leads from a slot to stop u. `links` has at each slot one more than the number of the stop there, and 0 is none
  pub data Leads (links : List ℕ) (l : ℕ) : (slot digits u : ℕ) → Type 0 where
    here : {slot digits u : ℕ} → at links slot ≡ u + 1 → Leads links l slot digits u
    onward : {slot digits u x : ℕ} → at links slot ≡ x + 1 → loc x ≢ l → Leads links l (branch x digits) (digits / 2) u → Leads links l slot digits u

  -- stop x, which is at the slot, is before m, the first at its location, and later than the stop whose branch the slot is
  pub record Node (m slot x : ℕ) : Type 0 where
    pub later : slot < roots + 2 * x
    pub known : x < m
    pub foremost : first_at x ≡ x

  -- the trees hold the first stops of all locations of the first m stops, each where a search finds it
  pub record Trees (m : ℕ) (links : List ℕ) : Type 0 where
    pub size : length links ≡ slots
    pub node : (slot x : ℕ) → at links slot ≡ x + 1 → Node m slot x
    pub leads : (u : ℕ) → u < m → first_at u ≡ u → Leads links (loc u) (root_of (loc u)) (loc u / roots) u

  -- the next stop at the location of v, of n stops; n if there is none
  unfoldable pub next_at : ℕ → ℕ → ℕ
  next_at n v = first_below n (λ u. ltb v u && eqb (loc u) (loc v))

  -- `first` has the first stop at the location of each of n stops, `next` the next one there
  pub record Groups (n : ℕ) (first next : List ℕ) : Type 0 where
    pub firsts : (v : ℕ) → v < n → at first v ≡ first_at v
    pub nexts : (v : ℕ) → v < n → at next v ≡ next_at n v

-- ---- stretches: the stops at one location that follow each other and are of one drone
module _ (own loc : ℕ → ℕ) where
  -- the end of the stretch of v: the next stop at the location of v whose drone is another, of n stops; n if there is none
  unfoldable pub skip_at : ℕ → ℕ → ℕ
  skip_at n v = first_below n (λ u. ltb v u && (eqb (loc u) (loc v) && not (eqb (own u) (own v))))

  -- `skip` has the end of the stretch of each of n stops
  pub record Stretches (n : ℕ) (skip : List ℕ) : Type 0 where
    pub skips : (v : ℕ) → v < n → at skip v ≡ skip_at n v

-- where a walk of the stops at one location goes on after stop w: past its whole stretch, or at the next stop there
unfoldable pub after_stop : (next skip : List ℕ) (w : ℕ) (past : Bool) → ℕ
after_stop next skip w past = pick past (at skip w) (at next w)

-- n stops by their locations, for a walk of the stops at one location
pub record StopsLinked (own loc : ℕ → ℕ) (n : ℕ) (first next skip : List ℕ) : Type 0 where
  pub groups : Groups loc n first next
  pub stretches : Stretches own loc n skip

-- the first stop at location l from stop a on, of n stops; n if there is none
unfoldable pub from_on : (loc : ℕ → ℕ) (n a l : ℕ) → ℕ
from_on loc n a l = first_below n (λ u. leb a u && eqb (loc u) l)

-- a walk of the stops at location l, to the first that passes a test, may begin here: no stop there before it passes
pub record MayBegin (loc : ℕ → ℕ) (n l : ℕ) (q : ℕ → Bool) (start : ℕ) : Type 0 where
  pub within : start ≤ n
  pub passed_over : (u : ℕ) → u < start → loc u ≡ l → q u ≡ false
  pub belongs : start < n → loc start ≡ l

-- a test of the stops at location g
abbrev pub there : (loc : ℕ → ℕ) (g : ℕ) (q : ℕ → Bool) → ℕ → Bool
there loc g q u = eqb (loc u) g && q u

-- ---- stops at near locations

-- the other number of a pair: 2i and 2i + 1 change places
unfoldable pub other_end : ℕ → ℕ
other_end k = pick (eqb (k % 2) 0) (k + 1) (k - 1)

-- the numbers of the pairs
abbrev pub pair_ends : List ℕ → ℕ
pair_ends pairs = 2 * pair_count pairs

-- of n stops: `heads` has the first number that is a stop's location, `after` the next number that is the location of a number, `starts` the first stop at the location
-- that the number's is near. Without pairs nothing is known of `heads`
pub record NumbersLinked (pairs : List ℕ) (loc : ℕ → ℕ) (n : ℕ) (heads after starts : List ℕ) : Type 0 where
  pub head : (v : ℕ) → v < n → 0 < pair_ends pairs → at heads v ≡ first_where (at pairs) (pair_ends pairs) (loc v)
  pub following : (k : ℕ) → k < pair_ends pairs → at after k ≡ next_at (at pairs) (pair_ends pairs) k
  pub opposite : (k : ℕ) → k < pair_ends pairs → at starts k ≡ first_where loc n (at pairs (other_end k))

-- `places` has, for each number that is the location of v, where a walk at the location that it is near may begin
pub record Placed (pairs : List ℕ) (loc : ℕ → ℕ) (n v : ℕ) (q : ℕ → Bool) (places : List ℕ) : Type 0 where
  pub size : length places ≡ 2 * most_pairs
  pub begun : (k : ℕ) → k < pair_ends pairs → at pairs k ≡ loc v → MayBegin loc n (at pairs (other_end k)) q (at places k)

-- .. and, for each number at all, where a walk of the stops that are not before `from` may begin
pub record PlacedAhead (pairs : List ℕ) (loc : ℕ → ℕ) (n from : ℕ) (places : List ℕ) : Type 0 where
  pub size : length places ≡ 2 * most_pairs
  pub begun : (k : ℕ) → k < pair_ends pairs → MayBegin loc n (at pairs (other_end k)) (leb from) (at places k)

-- everything that the walks of the stops that meet go by
pub record Walks (pairs owners locations : List ℕ) (n : ℕ) (first next skip : List ℕ) (ends : ℕ) (heads after starts : List ℕ) : Type 0 where
  pub ended : ends ≡ pair_ends pairs
  pub few_ends : ends ≤ limits.stops
  pub gathered : StopsLinked (at owners) (at locations) n first next skip
  pub linked : NumbersLinked pairs (at locations) n heads after starts
