-- What a test does not read of the visits may be anything: dependencies do not read the stops' numbers. Assumes nothing.
use mathlib.Core.Path.{◌≡◌, refl}
use Prim.Native.Nat.{ℕ}
use Rattle.below.specs.Below.{count_below}
use Rattle.plan.specs.Visits.{Visits}
use Rattle.plan.specs.Dependencies.{follows, dependency_total, counted_to}

module _ (S : Visits) where
  open S use {own, num, loc, time, meets, n}

  -- the visits with other numbers
  abbrev pub numbered : (ℕ → ℕ) → ℕ → Visits
  numbered num' n' = record { own = own; num = num'; loc = loc; time = time; meets = meets; n = n' }

  pub follows_any : (num' : ℕ → ℕ) (n' v w : ℕ) → follows (numbered num' n') v w ≡ follows S v w
  unfolding follows
  follows_any num' n' v w = refl

  pub row_any : (num' : ℕ → ℕ) (n' m v : ℕ) → count_below m (follows (numbered num' n') v) ≡ count_below m (follows S v)
  unfolding follows
  row_any num' n' m v = refl

  pub counted_any : (num' : ℕ → ℕ) (limit : ℕ) → counted_to limit (dependency_total (numbered num' n)) ≡ counted_to limit (dependency_total S)
  unfolding follows
  counted_any num' limit = refl
