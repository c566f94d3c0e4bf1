-- The dependencies of a plan over stops that are numbered through, and what it is for a table of pairs of stops to be right (document 01, "The graph").
-- Assumes nothing.
use Rattle.std.specs.Prelude.{Bool, not, cond, ◌&&◌, ◌||◌, List, ℕ, ◌+◌, ltb, leb, eqb, get_or}
use Rattle.below.specs.Below.{all_below, pairs_of, listed, pick}
use Rattle.plan.specs.Visits.{Visits}
use Rattle.plan.specs.Check.{apart}

-- of n stops, w is the last of its drone
unfoldable pub is_last : (own : ℕ → ℕ) (n : ℕ) → ℕ → Bool
is_last own n w = not (ltb (w + 1) n && eqb (own (w + 1)) (own w))

-- "Fixed means that the planned first stop is stop 0 or the planned second stop is the last of its drone"
unfoldable pub is_fixed : (own num : ℕ → ℕ) (n : ℕ) → ℕ → ℕ → Bool
is_fixed own num n v w = eqb (num v) 0 || is_last own n w

-- the flag byte of a new dependency: "bit 0 is turned, bit 1 is fixed, and the other six bits are zero"
unfoldable pub flag_of : (own num : ℕ → ℕ) (n : ℕ) → ℕ → ℕ → ℕ
flag_of own num n v w = cond (is_fixed own num n v w) 2 0

-- a total that is counted no further than to one past a limit
unfoldable pub counted_to : (limit total : ℕ) → ℕ
counted_to limit total = pick (leb total limit) total (limit + 1)

-- w is of another drone than v, and later
unfoldable pub later : (own time : ℕ → ℕ) → ℕ → ℕ → Bool
later own time v w = not (eqb (own v) (own w)) && ltb (time v) (time w)

-- .. and not before `from`
unfoldable pub later_from : (own time : ℕ → ℕ) (from : ℕ) → ℕ → ℕ → Bool
later_from own time from v w = leb from w && later own time v w

module _ (S : Visits) where
  open S use {own, loc, time, meets, n}

  -- "Two visits of one location by different drones make exactly one dependency", since request 7 two "when their locations are equal or near": v is there first and w later
  unfoldable pub follows : ℕ → ℕ → Bool
  follows v w = not (eqb (own v) (own w)) && (meets (loc v) (loc w) && ltb (time v) (time w))

  -- how many dependencies there are
  abbrev pub dependency_total : ℕ
  dependency_total = pairs_of follows n

  -- f of each dependency (v, w): "in rising order of planned first drone, its stop, planned second drone, its stop", which is that of v and then of w
  abbrev pub column : (ℕ → ℕ → ℕ) → List ℕ
  column f = listed follows n f

  -- the first m entries of xs and ys are the first and the second stops of the dependencies, in order
  unfoldable pub exact : ℕ → (ℕ → ℕ) → (ℕ → ℕ) → Bool
  exact m xs ys = eqb m dependency_total && all_below m (λ k. eqb (xs k) (get_or (column (λ v w. v)) k 0) && eqb (ys k) (get_or (column (λ v w. w)) k 0))

  -- nothing collides, and the table is exact
  unfoldable pub right : ℕ → (ℕ → ℕ) → (ℕ → ℕ) → Bool
  right m xs ys = apart S && exact m xs ys
