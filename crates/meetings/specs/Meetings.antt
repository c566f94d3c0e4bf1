-- The stops at which drones meet, over stops that are numbered through, and the test of one entry of a dependency table. `meets` says which locations meet, `own` is a
-- stop's drone, `loc` its location, `time` its time; n stops. Assumes nothing.
use Rattle.std.specs.Prelude.{◌≡◌, Bool, not, ◌&&◌, ◌||◌, ℕ, ◌+◌, ◌-◌, ◌≤◌, ◌<◌, ltb, eqb}
use Rattle.below.specs.Below.{count_below, sum_below, pair_before}
use Rattle.plan.specs.Check.{over}

-- v and w are visits by different drones of locations that meet
unfoldable pub meeting_visits : (meets : ℕ → ℕ → Bool) (own loc : ℕ → ℕ) → ℕ → ℕ → Bool
meeting_visits meets own loc v w = not (eqb (own v) (own w)) && meets (loc v) (loc w)

-- how many v < w < n are such
unfoldable pub meeting_total : (meets : ℕ → ℕ → Bool) (own loc : ℕ → ℕ) → ℕ → ℕ
meeting_total meets own loc n = sum_below n (λ w. count_below w (λ v. meeting_visits meets own loc v w))

module _ (meets : ℕ → ℕ → Bool) (own loc time : ℕ → ℕ) (n : ℕ) where
  -- v and w are such, and v is over before w begins
  unfoldable pub clear : ℕ → ℕ → Bool
  clear v w = not (eqb (own v) (own w)) && (meets (loc v) (loc w) && over own time n v (time w))

  -- entry k holds two stops, the first clear of the second, and comes after entry k - 1
  unfoldable pub entry_right : (xs ys : ℕ → ℕ) → ℕ → Bool
  entry_right xs ys k = ltb (xs k) n && (ltb (ys k) n && (clear (xs k) (ys k) && (eqb k 0 || pair_before (xs (k - 1)) (ys (k - 1)) (xs k) (ys k))))

-- "a drone's times strictly rise"
abbrev pub Steady : (own loc time : ℕ → ℕ) → ℕ → Type 0
Steady own loc time n = (v : ℕ) → v + 1 < n → own (v + 1) ≡ own v → time v < time (v + 1)

-- the stops of a drone stand side by side
abbrev pub Grouped : (ℕ → ℕ) → ℕ → Type 0
Grouped own n = (v w : ℕ) → v ≤ w → w < n → own v ≤ own w
