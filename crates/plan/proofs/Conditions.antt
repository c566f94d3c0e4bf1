-- The tests of the plan check and of the dependencies as the conditions that they stand for, in both directions: no other proof opens them. Assumes nothing.
use mathlib.Core.Path.{◌≡◌, refl, sym, ap, ◌∙◌}
use mathlib.Core.Logic.{◌≢◌, ◌⊎◌, inl, inr}
use mathlib.Core.Bool.{Bool, true, false, cond, not, ◌&&◌, false≢true}
use Prim.Native.Nat.{ℕ, ◌+◌, ◌-◌, ◌≤◌, ◌<◌}
use native.Mathlib.Omega.{arith}
use lib.Dec.{ltb, leb, eqb}
use borrow.Author.Tests.{ltb-true, ltb-false, lt-ltb, le-ltb, leb-false, lt-leb, eqb-true, eqb-false, eq-eqb, ne_eqb, not-true, not-false}
use Rattle.below.specs.Below.{all_below, pair_before}
use Rattle.below.proofs.Tests.{by_cases, and_left, and_right}
use Rattle.below.proofs.Search.{first_below_first, first_all, first_low}
use Rattle.below.proofs.Every.{all_below-at, all_below_all, all_below_ext, all_below_search}
use Rattle.plan.specs.Visits.{Visits, Symmetric}
use Rattle.plan.specs.Check.{fault_at, first_fault, over, collide, partner, collider, apart}
use Rattle.plan.specs.Dependencies.{follows}

-- ---- stop by stop

module _ (S : Visits) (leg : ℕ → ℕ) where
  open S use {num, loc, time, n}

  -- stop v is not at fault
  pub record Passes (v : ℕ) : Type 0 where
    pub starts : num v ≡ 0 → time v ≡ 0
    pub rises : num v ≢ 0 → time (v - 1) < time v
    pub rises_by_leg : num v ≢ 0 → time (v - 1) + leg v ≤ time v
    pub moves : num v ≢ 0 → loc v ≢ loc (v - 1)

  abbrev fault : Bool → Bool → Bool → Bool → Bool → ℕ
  fault first zero_time early short still = cond first (cond zero_time 0 7) (cond early 8 (cond short 12 (cond still 9 0)))

  pub fault_says : (v : ℕ) → fault_at S leg v ≡ 0 → Passes v
  unfolding fault_at
  fault_says v e = go (eqb (num v) 0) (eqb (time v) 0) (leb (time v) (time (v - 1))) (ltb (time v) (time (v - 1) + leg v)) (eqb (loc v) (loc (v - 1))) refl refl refl refl refl e
    where
      go : (a b c d f : Bool) → eqb (num v) 0 ≡ a → eqb (time v) 0 ≡ b → leb (time v) (time (v - 1)) ≡ c → ltb (time v) (time (v - 1) + leg v) ≡ d → eqb (loc v) (loc (v - 1)) ≡ f → fault a b c d f ≡ 0 → Passes v
      go true true c d f p q r t s z = let first : num v ≡ 0 = eqb-true _ _ p in record { starts = λ k. eqb-true _ _ q; rises = λ k. absurd (k first); rises_by_leg = λ k. absurd (k first); moves = λ k. absurd (k first) }
      go true false c d f p q r t s z = absurd (omega arith)
      go false b true d f p q r t s z = absurd (omega arith)
      go false b false true f p q r t s z = absurd (omega arith)
      go false b false false true p q r t s z = absurd (omega arith)
      go false b false false false p q r t s z = record { starts = λ k. absurd (eqb-false _ _ p k); rises = λ k. leb-false _ _ r; rises_by_leg = λ k. ltb-false _ _ t; moves = λ k. eqb-false _ _ s }

  pub says_fault : (v : ℕ) → Passes v → fault_at S leg v ≡ 0
  unfolding fault_at
  says_fault v k = by_cases (eqb (num v) 0)
      (λ e. rw (e, eq-eqb (time v) 0 (k.starts (eqb-true _ _ e))) refl)
      (λ e. let later : num v ≢ 0 = eqb-false _ _ e in rw (e, lt-leb (time v) (time (v - 1)) (k.rises later), le-ltb (time v) (time (v - 1) + leg v) (k.rises_by_leg later), ne_eqb (loc v) (loc (v - 1)) (k.moves later)) refl)

  pub first_fault-says : first_fault S leg ≡ n → (v : ℕ) → v < n → Passes v
  unfolding first_fault
  first_fault-says e v l = fault_says v (eqb-true _ _ (not-false _ ((first_below_first n (λ v. not (eqb (fault_at S leg v) 0))).skipped v (omega arith))))

  pub says-first_fault : ((v : ℕ) → v < n → Passes v) → first_fault S leg ≡ n
  unfolding first_fault
  says-first_fault h = first_all (λ v. not (eqb (fault_at S leg v) 0)) n (λ v l. rw (says_fault v (h v l)) refl)

-- ---- spans

module _ (own time : ℕ → ℕ) (n : ℕ) where
  -- the drone of stop v goes on, and is at its next stop before the time t
  pub record Over (v t : ℕ) : Type 0 where
    pub next : v + 1 < n
    pub same_drone : own (v + 1) ≡ own v
    pub leaves : time (v + 1) < t

  pub over-says : (v t : ℕ) → over own time n v t ≡ true → Over v t
  unfolding over
  over-says v t e =
      let r : (eqb (own (v + 1)) (own v) && ltb (time (v + 1)) t) ≡ true = and_right (ltb (v + 1) n) _ e in
      record { next = ltb-true _ _ (and_left _ _ e); same_drone = eqb-true _ _ (and_left _ _ r); leaves = ltb-true _ _ (and_right (eqb (own (v + 1)) (own v)) _ r) }

  pub says-over : (v t : ℕ) → Over v t → over own time n v t ≡ true
  unfolding over
  says-over v t o = rw (lt-ltb (v + 1) n o.next, eq-eqb (own (v + 1)) (own v) o.same_drone, lt-ltb (time (v + 1)) t o.leaves) refl

-- ---- collisions

module _ (S : Visits) where
  open S use {own, loc, time, meets, n}

  -- one of two spans is over before the other begins
  abbrev pub OneOver : ℕ → ℕ → Type 0
  OneOver v w = Over own time n v (time w) ⊎ Over own time n w (time v)

  pub collide-not : (v w : ℕ) → own v < own w → meets (loc v) (loc w) ≡ true → collide S v w ≡ false → OneOver v w
  unfolding collide
  collide-not v w o p e = by_cases (over own time n v (time w))
      (λ h. inl (over-says own time n v (time w) h))
      (λ h. by_cases (over own time n w (time v))
      (λ g. inr (over-says own time n w (time v) g))
      (λ g. absurd (false≢true (sym (rw (lt-ltb (own v) (own w) o, p, h, g) at e)))))

  pub not-collide : (v w : ℕ) → (own v < own w → meets (loc v) (loc w) ≡ true → OneOver v w) → collide S v w ≡ false
  unfolding collide
  not-collide v w h = by_cases (ltb (own v) (own w))
      (λ o. by_cases (meets (loc v) (loc w))
      (λ p. elim (h (ltb-true _ _ o) p) [
        | inl a ↦ rw (o, p, says-over own time n v (time w) a) refl
        | inr a ↦ by_cases (over own time n v (time w)) (λ g. rw (o, p, g) refl) (λ g. rw (o, p, g, says-over own time n w (time v) a) refl)
      ])
      (λ p. rw (o, p) refl))
      (λ o. rw o refl)

  -- of two stops of different drones whose locations meet one is over before the other, whichever has the lower drone
  pub apart-says : Symmetric meets → apart S ≡ true → (v w : ℕ) → v < n → w < n → own v ≢ own w → meets (loc v) (loc w) ≡ true → OneOver v w
  unfolding apart
  apart-says symmetric e v w l k d p = by_cases (ltb (own v) (own w))
      (λ h. lower v w l k (ltb-true _ _ h) p)
      (λ h. elim (lower w v k l (omega (arith, ltb-false (own v) (own w) h)) (symmetric _ _ p)) [ inl a ↦ inr a | inr a ↦ inl a ])
    where
      lower : (v w : ℕ) → v < n → w < n → own v < own w → meets (loc v) (loc w) ≡ true → OneOver v w
      lower v w l k o p = collide-not v w o p (not-true _ (all_below-at n (λ w. not (collide S v w)) (all_below-at n (λ v. all_below n (λ w. not (collide S v w))) e v l) w k))

  pub says-apart : ((v w : ℕ) → v < n → w < n → own v ≢ own w → meets (loc v) (loc w) ≡ true → OneOver v w) → apart S ≡ true
  unfolding apart
  says-apart h = all_below_all n (λ v. all_below n (λ w. not (collide S v w))) (λ v l. all_below_all n (λ w. not (collide S v w)) (λ w k. rw (not-collide v w (λ o p. h v w l k (λ q. omega arith) p)) refl))

  -- the search finds a collision exactly when there is one
  pub apart_search : apart S ≡ eqb (collider S) n
  unfolding apart collider
  apart_search = all_below_ext n (λ v. all_below n (λ w. not (collide S v w))) (λ v. not (ltb (partner S v) n)) (λ v l. all_below_search n (collide S v) ∙ at_end_lem (partner S v) (first_below_first n (collide S v)).within) ∙ all_below_search n (λ v. ltb (partner S v) n)
    where
      at_end_lem : (r : ℕ) → r ≤ n → eqb r n ≡ not (ltb r n)
      at_end_lem r l = by_cases (ltb r n) (λ h. rw (h, ne_eqb r n (λ q. omega (arith, ltb-true r n h))) refl) (λ h. rw (h, eq-eqb r n (omega (arith, ltb-false r n h))) refl)

  -- the pair that is found collides, and no colliding pair stands before it
  pub collider_first : collider S < n → (partner S (collider S) < n) × (collide S (collider S) (partner S (collider S)) ≡ true)
  unfolding collider
  collider_first l =
      let m : partner S (collider S) < n = ltb-true _ _ ((first_below_first n (λ v. ltb (partner S v) n)).found l) in
      (m, (first_below_first n (collide S (collider S))).found m)

  pub collider-least : (x y : ℕ) → x < n → y < n → collide S x y ≡ true → ((collider S ≡ x) × (partner S (collider S) ≡ y)) ⊎ (pair_before (collider S) (partner S (collider S)) x y ≡ true)
  unfolding collider pair_before
  collider-least x y l k e = by_cases (ltb (collider S) x)
      (λ h. inr (rw h refl))
      (λ h. let same : collider S ≡ x = omega (arith, low, ltb-false (collider S) x h) in
      let s : partner S (collider S) ≡ partner S x = ap (partner S) same in
      by_cases (ltb (partner S (collider S)) y)
      (λ g. inr (rw (h, eq-eqb (collider S) x same, g) refl))
      (λ g. inl (same, omega (arith, next, ltb-false (partner S (collider S)) y g))))
    where
      next : partner S x ≤ y
      next = first_low (collide S x) y n e

      low : collider S ≤ x
      low = first_low (λ v. ltb (partner S v) n) x n (lt-ltb (partner S x) n (omega (arith, next)))

-- ---- dependencies

module _ (S : Visits) where
  open S use {own, loc, time, meets}

  pub record Follows (v w : ℕ) : Type 0 where
    pub others : own v ≢ own w
    pub place : meets (loc v) (loc w) ≡ true
    pub earlier : time v < time w

  pub follows-says : (v w : ℕ) → follows S v w ≡ true → Follows v w
  unfolding follows
  follows-says v w e =
      let r : (meets (loc v) (loc w) && ltb (time v) (time w)) ≡ true = and_right (not (eqb (own v) (own w))) _ e in
      record { others = eqb-false _ _ (not-true _ (and_left _ _ e)); place = and_left _ _ r; earlier = ltb-true _ _ (and_right (meets (loc v) (loc w)) _ r) }

  pub says-follows : (v w : ℕ) → Follows v w → follows S v w ≡ true
  unfolding follows
  says-follows v w f = rw (ne_eqb (own v) (own w) f.others, f.place, lt-ltb (time v) (time w) f.earlier) refl
