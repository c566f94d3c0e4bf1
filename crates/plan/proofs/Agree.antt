-- The plan check and the dependencies of n stops look at these n stops alone, and whether a table of m dependencies is right at its m entries too, so functions that agree there have the same. Assumes nothing.
use mathlib.Core.Path.{◌≡◌, refl, ap}
use mathlib.Core.Bool.{Bool, not, ◌&&◌}
use Prim.Native.Nat.{ℕ, ◌+◌, ◌-◌, ◌<◌}
use native.Mathlib.Omega.{arith}
use lib.Dec.{ltb, eqb}
use borrow.Author.Tests.{ltb-true}
use Rattle.below.proofs.Tests.{by_cases}
use Rattle.below.proofs.Search.{first_below_first, first_below_ext}
use Rattle.below.proofs.Every.{all_below_ext}
use Rattle.below.proofs.Same.{pairs_ext, listed_ext}
use Rattle.plan.specs.Visits.{Visits}
use Rattle.plan.specs.Check.{fault_at, first_fault, over, collide, apart, partner, collider}
use Rattle.plan.specs.Answers.{check_of}
use Rattle.plan.specs.Dependencies.{follows, is_last, is_fixed, flag_of, dependency_total, column, exact, right}

-- visits S, and as many with other functions that agree at these stops
module _ (S : Visits) (own' num' loc' time' : ℕ → ℕ) (owners : (v : ℕ) → v < S.n → S.own v ≡ own' v) (locations : (v : ℕ) → v < S.n → S.loc v ≡ loc' v) (times : (v : ℕ) → v < S.n → S.time v ≡ time' v) where
  open S use {own, num, loc, time, meets, n}

  abbrev T : Visits
  T = record { own = own'; num = num'; loc = loc'; time = time'; meets = meets; n = n }

  over-same : (v t : ℕ) → v < n → over own time n v t ≡ over own' time' n v t
  unfolding over
  over-same v t l = by_cases (ltb (v + 1) n) (λ e. rw (e, owners v l, owners (v + 1) (ltb-true _ _ e), times (v + 1) (ltb-true _ _ e)) refl) (λ e. rw e refl)

  collide-same : (v w : ℕ) → v < n → w < n → collide S v w ≡ collide T v w
  unfolding collide
  collide-same v w l k = rw (owners v l, owners w k, locations v l, locations w k, times v l, times w k, over-same v (time' w) l, over-same w (time' v) k) refl

  pub apart-same : apart S ≡ apart T
  unfolding apart
  apart-same = all_below_ext n _ _ (λ v l. all_below_ext n _ _ (λ w k. ap not (collide-same v w l k)))

  partner-same : (v : ℕ) → v < n → partner S v ≡ partner T v
  partner-same v l = first_below_ext n (collide S v) (collide T v) (λ w k. collide-same v w l k)

  collider-same : collider S ≡ collider T
  unfolding collider
  collider-same = first_below_ext n _ _ (λ v l. ap (λ (k : ℕ). ltb k n) (partner-same v l))

  follows_same : (v w : ℕ) → v < n → w < n → follows S v w ≡ follows T v w
  unfolding follows
  follows_same v w l k = rw (owners v l, owners w k, locations v l, locations w k, times v l, times w k) refl

  pub total-same : dependency_total S ≡ dependency_total T
  total-same = pairs_ext (follows S) (follows T) n follows_same

  pub column-same : (f g : ℕ → ℕ → ℕ) → ((v w : ℕ) → v < n → w < n → f v w ≡ g v w) → column S f ≡ column T g
  column-same f g e = listed_ext (follows S) (follows T) n follows_same f g e

  module _ (m : ℕ) (xs xs' ys ys' : ℕ → ℕ) (first : (k : ℕ) → k < m → xs k ≡ xs' k) (second : (k : ℕ) → k < m → ys k ≡ ys' k) where
    exact_same : exact S m xs ys ≡ exact T m xs' ys'
    unfolding exact
    exact_same = rw (total-same, column-same (λ v w. v) (λ v w. v) (λ v w l k. refl), column-same (λ v w. w) (λ v w. w) (λ v w l k. refl)) (ap (λ (b : Bool). eqb m (dependency_total T) && b) (all_below_ext m _ _ (λ k l. rw (first k l, second k l) refl)))

    pub right-same : right S m xs ys ≡ right T m xs' ys'
    unfolding right
    right-same = rw (apart-same, exact_same) refl

  -- the stop that a collision is reported with is one of the n
  partner_in : collider S < n → partner S (collider S) < n
  unfolding collider
  partner_in l = ltb-true _ _ ((first_below_first n (λ v. ltb (partner S v) n)).found l)

  last_same : (w : ℕ) → w < n → is_last own n w ≡ is_last own' n w
  unfolding is_last
  last_same w k = by_cases (ltb (w + 1) n) (λ e. rw (e, owners w k, owners (w + 1) (ltb-true _ _ e)) refl) (λ e. rw e refl)

  pub flag_same : ((v : ℕ) → v < n → num v ≡ num' v) → (v w : ℕ) → v < n → w < n → flag_of own num n v w ≡ flag_of own' num' n v w
  unfolding flag_of is_fixed
  flag_same numbers v w l k = rw (numbers v l, last_same w k) refl

  module _ (numbers : (v : ℕ) → v < n → num v ≡ num' v) (leg leg' : ℕ → ℕ) (legs : (v : ℕ) → v < n → leg v ≡ leg' v) where
    fault_same : (v : ℕ) → v < n → fault_at S leg v ≡ fault_at T leg' v
    unfolding fault_at
    fault_same v l = rw (numbers v l, times v l, times (v - 1) (omega arith), legs v l, locations v l, locations (v - 1) (omega arith)) refl

    pub first_fault-same : first_fault S leg ≡ first_fault T leg'
    unfolding first_fault
    first_fault-same = first_below_ext n _ _ (λ v l. ap (λ (k : ℕ). not (eqb k 0)) (fault_same v l))

    pub check_same : check_of S leg ≡ check_of T leg'
    unfolding check_of
    check_same =
        by_cases (ltb (first_fault S leg) n)
        (λ e. let l : first_fault S leg < n = ltb-true _ _ e in rw (← first_fault-same, e, fault_same _ l, owners _ l, numbers _ l) refl)
        (λ e. by_cases (ltb (collider S) n)
        (λ h. let l : collider S < n = ltb-true _ _ h in
        let k = partner_in l in
        rw (← first_fault-same, e, ← collider-same, h, ← partner-same _ l, owners _ l, numbers _ l, owners _ k, numbers _ k) refl)
        (λ h. rw (← first_fault-same, e, ← collider-same, h) refl))
