-- The plan check over stops that are numbered through (document 01, "The plan check"; request 14; source document 004, Definition 1 and Assumption 1). Assumes nothing.
use Rattle.std.specs.Prelude.{Bool, cond, not, ◌&&◌, ℕ, ◌+◌, ◌-◌, ◌≤◌, ◌<◌, ltb, leb, eqb}
use Rattle.below.specs.Below.{first_below, all_below}
use Rattle.plan.specs.Visits.{Visits}

-- "A drone occupies a stop's location from its time to the time of its next stop, both included. It occupies its last location for ever": of n stops, the span
-- of v is over before the time t
unfoldable pub over : (own time : ℕ → ℕ) (n : ℕ) → ℕ → ℕ → Bool
over own time n v t = ltb (v + 1) n && (eqb (own (v + 1)) (own v) && ltb (time (v + 1)) t)

-- v and w, of a higher drone, stay at one time
unfoldable pub clash : (own time : ℕ → ℕ) (n : ℕ) → ℕ → ℕ → Bool
clash own time n v w = ltb (own v) (own w) && (not (over own time n v (time w)) && not (over own time n w (time v)))

-- no stop's drone is below that of a stop before it, of n stops
pub record OwnersRising (own : ℕ → ℕ) (n : ℕ) : Type 0 where
  pub rises : (u w : ℕ) → u ≤ w → w < n → own u ≤ own w

-- ---- stop by stop; `leg` is the leg into each stop
module _ (S : Visits) (leg : ℕ → ℕ) where
  open S use {num, loc, time, n}

  -- the number of the refusal at stop v, 0 where there is none: "7 stop 0 not at time 0; 8 time not above the one before; 9 same location as the one before"; "12, the
  -- time rises by less than the leg, after 8 and before 9"
  unfoldable pub fault_at : ℕ → ℕ
  fault_at v =
      cond (eqb (num v) 0)
      (cond (eqb (time v) 0) 0 7)
      (cond (leb (time v) (time (v - 1))) 8
      (cond (ltb (time v) (time (v - 1) + leg v)) 12
      (cond (eqb (loc v) (loc (v - 1))) 9 0)))

  -- the first stop at fault, or n
  unfoldable pub first_fault : ℕ
  first_fault = first_below n (λ v. not (eqb (fault_at v) 0))

-- ---- collisions
module _ (S : Visits) where
  open S use {own, loc, time, meets, n}

  -- "Two drones collide when two such spans at one location share a timestep", since request 7 two "when their locations are equal or near": v and w, the lower-numbered drone first
  unfoldable pub collide : ℕ → ℕ → Bool
  collide v w = ltb (own v) (own w) && (meets (loc v) (loc w) && (not (over own time n v (time w)) && not (over own time n w (time v))))

  -- the first stop that collides with v, or n
  abbrev pub partner : ℕ → ℕ
  partner v = first_below n (collide v)

  -- "the pair with the lowest lower-numbered drone, then its stop": the first stop that collides with one of a higher drone, or n. The other of the pair is
  -- its `partner`, "then the other drone, then its stop"
  unfoldable pub collider : ℕ
  collider = first_below n (λ v. ltb (partner v) n)

  -- no two drones collide
  unfoldable pub apart : Bool
  apart = all_below n (λ v. all_below n (λ w. not (collide v w)))
