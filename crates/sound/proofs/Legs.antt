-- What tables with an accepted plan say of its form and its legs: all that the rounds ask of them. Assumes nothing.
use mathlib.Core.Path.{◌≡◌}
use mathlib.Core.Logic.{◌≢◌}
use mathlib.Core.Bool.{true, ◌&&◌}
use Prim.Native.Nat.{ℕ, ◌≤◌, ◌<◌}
use native.Mathlib.Omega.{arith}
use lib.Dec.{leb, eqb}
use borrow.Author.Tests.{leb-true, eqb-true, eqb-false, eq-eqb, ne_eqb}
use Rattle.below.specs.Below.{all_below, at}
use Rattle.below.proofs.Tests.{by_cases, and_left, and_right}
use Rattle.below.proofs.Every.{all_below-at}
use Rattle.tables.specs.Limits.{Limits}
use Rattle.tables.specs.Tables.{PlanLists, drones, form_of}
use Rattle.tables.specs.Legs.{longest_leg, leg_right}
use Rattle.plan.specs.Claims.{stop_total, number_in, leg_in, HaveLegs}
use Rattle.sound.specs.Sound.{in_range, plan_accepted_lem}

-- ---- a right leg

module _ (L : Limits) (form s g : ℕ) (right : leg_right L form s g ≡ true) where
  pub right_first : s ≡ 0 → g ≡ 0
  unfolding leg_right
  right_first e = eqb-true _ _ (rw (eq-eqb s 0 e) at right)

  pub right-later : s ≢ 0 → (1 ≤ g) × (g ≤ longest_leg L form)
  unfolding leg_right
  right-later e =
      let h : (leb 1 g && leb g (longest_leg L form)) ≡ true = rw (ne_eqb s 0 e) at right in
      (leb-true 1 g (and_left _ _ h), leb-true g (longest_leg L form) (and_right (leb 1 g) _ h))

  pub right-short : 1 ≤ L.leg → g ≤ L.leg
  unfolding longest_leg
  right-short some = by_cases (eqb s 0)
      (λ e. omega (arith, right_first (eqb-true s 0 e)))
      (λ e. by_cases (eqb form 1)
      (λ f. let h : g ≤ 1 = rw f at (right-later (eqb-false s 0 e)).1 in omega arith)
      (λ f. rw f at (right-later (eqb-false s 0 e)).1))

-- ---- a plan that is accepted

module _ (L : Limits) (p : PlanLists) (accepted : plan_accepted_lem L p ≡ true) where
  ranges : in_range L p ≡ true
  unfolding plan_accepted_lem
  ranges = and_left _ _ accepted

  after-drones : ((leb 1 (form_of p) && leb (form_of p) L.form)
      && (all_below (drones p) (λ d. leb 1 (at p.stop_counts d))
      && (leb (stop_total p) L.stops
      && all_below (stop_total p) (λ v. leb (at p.locations v) L.location && (leb (at p.times v) L.time && leg_right L (form_of p) (number_in p v) (leg_in p v)))))) ≡ true
  unfolding in_range
  after-drones = and_right (leb 1 (drones p) && leb (drones p) L.drones) _ ranges

  pub accepted_form : (1 ≤ form_of p) × (form_of p ≤ L.form)
  accepted_form =
      let h : (leb 1 (form_of p) && leb (form_of p) L.form) ≡ true = and_left _ _ after-drones in
      (leb-true 1 (form_of p) (and_left _ _ h), leb-true (form_of p) L.form (and_right (leb 1 (form_of p)) _ h))

  pub accepted_legs : (v : ℕ) → v < stop_total p → leg_right L (form_of p) (number_in p v) (leg_in p v) ≡ true
  accepted_legs v l = and_right (leb (at p.times v) L.time) _ (and_right (leb (at p.locations v) L.location) _ (all_below-at (stop_total p) (λ v. leb (at p.locations v) L.location && (leb (at p.times v) L.time && leg_right L (form_of p) (number_in p v) (leg_in p v)))
      (and_right (leb (stop_total p) L.stops) _ (and_right (all_below (drones p) (λ d. leb 1 (at p.stop_counts d))) _ (and_right (leb 1 (form_of p) && leb (form_of p) L.form) _ after-drones))) v l))

  pub accepted_have_legs : HaveLegs p
  accepted_have_legs v l z = (right-later L (form_of p) (number_in p v) (leg_in p v) (accepted_legs v l) z).0

  pub accepted-short : 1 ≤ L.leg → (v : ℕ) → v < stop_total p → leg_in p v ≤ L.leg
  accepted-short some v l = right-short L (form_of p) (number_in p v) (leg_in p v) (accepted_legs v l) some
