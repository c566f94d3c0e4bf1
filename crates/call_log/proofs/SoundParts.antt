-- What the clauses of "sound" say of the counts, the form and the legs, the flag bytes and the unused entries. Assumes nothing.
use mathlib.Core.Path.{◌≡◌, refl, ap, ◌∙◌}
use mathlib.Core.Logic.{◌≢◌}
use mathlib.Core.Bool.{Bool, true, false, cond, ◌&&◌}
use mathlib.Core.List.{List}
use Prim.Native.Nat.{ℕ, ◌+◌, ◌-◌, ◌/◌, ◌%◌, ◌≤◌, ◌<◌}
use native.Mathlib.Omega.{arith}
use lib.Dec.{ltb, leb, eqb}
use borrow.Author.Tests.{ltb-false, leb-true, eqb-true}
use Rattle.below.specs.Below.{pick, at, all_below}
use Rattle.below.proofs.Tests.{by_cases, and_left, and_right}
use Rattle.below.proofs.Every.{all_below-at, all_below_all}
use Rattle.tables.specs.Limits.{Limits}
use Rattle.tables.specs.Legs.{longest_leg, leg_right}
use Rattle.tables.specs.Tables.{PlanLists, Tables, drones, dependencies, form_of}
use Rattle.tables.specs.Flags.{fixed_bit, only_two_bits}
use Rattle.plan.specs.Dependencies.{dependency_total}
use Rattle.plan.specs.Check.{first_fault}
use Rattle.plan.specs.Claims.{HaveStops, NoFault, NoCollision, HoldsPlanned, number_in, owner_in, leg_in, stop_total, visits_in, planned_list}
use Rattle.plan.specs.Stops.{start}
use Rattle.plan.proofs.Claims.{accepted_claims}
use Rattle.plan.proofs.Numbering.{place_in, place_number}
use Rattle.plan.specs.Field.{AcceptedPlan, plan_of, fixed}
use Rattle.sound.specs.Sound.{zero_from, in_range, lists_sound, passes_check, plan_accepted_lem, dependencies_sound, flags_sound, drone_flags_sound}
use Rattle.sound.proofs.Clauses.{Sound}
use Rattle.sound.proofs.Legs.{right-later, accepted_legs, accepted_have_legs}

-- ---- the longest leg of a form

-- no form has a longer leg than the limit
pub longest_leg_lem : (L : Limits) (form : ℕ) → 1 ≤ L.leg → longest_leg L form ≤ L.leg
unfolding longest_leg
longest_leg_lem L form h = go (eqb form 1)
  where
    go : (b : Bool) → cond b 1 L.leg ≤ L.leg
    go true = h
    go false = omega arith

pub longest_plain : (L : Limits) (form : ℕ) → form ≡ 1 → longest_leg L form ≡ 1
unfolding longest_leg
longest_plain L form q = rw q refl

-- ---- the plan in the tables

module _ (L : Limits) (p : PlanLists) (accepted : plan_accepted_lem L p ≡ true) where
  pub in_range_lem : in_range L p ≡ true
  unfolding plan_accepted_lem
  in_range_lem = and_left _ _ accepted

  pub after_range : lists_sound L p && (passes_check L p && leb (dependency_total (visits_in p)) L.dependencies) ≡ true
  unfolding plan_accepted_lem
  after_range = and_right (in_range L p) _ accepted

  pub drones_in : drones p ≤ L.drones
  unfolding in_range
  drones_in = leb-true (drones p) L.drones (and_right (leb 1 (drones p)) _ (and_left (leb 1 (drones p) && leb (drones p) L.drones) _ in_range_lem))

  pub after-drones : (leb 1 (form_of p) && leb (form_of p) L.form) && (all_below (drones p) (λ d. leb 1 (at p.stop_counts d)) && (leb (stop_total p) L.stops && all_below (stop_total p) (λ v. leb (at p.locations v) L.location && (leb (at p.times v) L.time && leg_right L (form_of p) (number_in p v) (at p.legs v))))) ≡ true
  unfolding in_range
  after-drones = and_right (leb 1 (drones p) && leb (drones p) L.drones) _ in_range_lem

  after_form_lem : all_below (drones p) (λ d. leb 1 (at p.stop_counts d)) && (leb (stop_total p) L.stops && all_below (stop_total p) (λ v. leb (at p.locations v) L.location && (leb (at p.times v) L.time && leg_right L (form_of p) (number_in p v) (at p.legs v)))) ≡ true
  after_form_lem = and_right (leb 1 (form_of p) && leb (form_of p) L.form) _ after-drones

  pub have_stops : HaveStops p
  have_stops d l = leb-true 1 (at p.stop_counts d) (all_below-at (drones p) _ (and_left _ _ after_form_lem) d l)

  after_counts : leb (stop_total p) L.stops && all_below (stop_total p) (λ v. leb (at p.locations v) L.location && (leb (at p.times v) L.time && leg_right L (form_of p) (number_in p v) (at p.legs v))) ≡ true
  after_counts = and_right (all_below (drones p) (λ d. leb 1 (at p.stop_counts d))) _ after_form_lem

  pub stops_in_lem : stop_total p ≤ L.stops
  stops_in_lem = leb-true (stop_total p) L.stops (and_left _ _ after_counts)

  -- the legs by drone and stop: "LEG 0 at stop 0 and 1 to 60 rounds elsewhere"
  module _ (d s : ℕ) (l : d < drones p) (o : 0 < s) (h : s ≤ (plan_of p).last d) where
    in_count : s < at p.stop_counts d
    in_count = omega (arith, have_stops d l)

    right_leg : leg_right L (form_of p) (number_in p (start p.stop_counts d + s)) ((plan_of p).leg d s) ≡ true
    right_leg = accepted_legs L p accepted (start p.stop_counts d + s) (place_in (drones p) p.stop_counts d s l in_count)

    no_first : number_in p (start p.stop_counts d + s) ≢ 0
    no_first z = omega (arith, place_number (drones p) p.stop_counts d s l in_count)

    legs_both : (1 ≤ (plan_of p).leg d s) × ((plan_of p).leg d s ≤ longest_leg L (form_of p))
    legs_both = right-later L (form_of p) _ ((plan_of p).leg d s) right_leg no_first

    pub legs_short : (plan_of p).leg d s ≤ longest_leg L (form_of p)
    legs_short = legs_both.1

    -- "sound tables of a `plan=1` form have just these legs"
    pub legs_plain : form_of p ≡ 1 → (plan_of p).leg d s ≡ 1
    legs_plain q = omega (arith, legs_both.0, legs_short, longest_plain L (form_of p) q)

  check_passes : passes_check L p ≡ true
  check_passes = and_left _ _ (and_right (lists_sound L p) _ after_range)

  no_fault : NoFault p
  unfolding passes_check
  no_fault = eqb-true _ _ (and_left _ _ check_passes)

  no_collision : NoCollision p
  unfolding passes_check
  no_collision = and_right (eqb (first_fault (visits_in p) (leg_in p)) (stop_total p)) _ check_passes

  module _ (own-ones : dependencies_sound L p ≡ true) where
    total_is : dependencies p ≡ dependency_total (visits_in p)
    unfolding dependencies_sound
    total_is = eqb-true _ _ (and_left _ _ own-ones)

    pub dependencies_in : dependencies p ≤ L.dependencies
    dependencies_in =
        let room = leb-true (dependency_total (visits_in p)) L.dependencies (and_right (passes_check L p) _ (and_right (lists_sound L p) _ after_range)) in
        omega (arith, total_is)

    -- the four numbers of dependency k are the planned ones
    numbers_are : (k : ℕ) → k < dependencies p → (at p.first_drones k ≡ at (planned_list p (λ v w. owner_in p v)) k) × (at p.first_stops k ≡ at (planned_list p (λ v w. number_in p v)) k) × (at p.second_drones k ≡ at (planned_list p (λ v w. owner_in p w)) k) × (at p.second_stops k ≡ at (planned_list p (λ v w. number_in p w)) k)
    unfolding dependencies_sound
    numbers_are k l =
        let h = all_below-at (dependencies p) _ (and_right (eqb (dependencies p) (dependency_total (visits_in p))) _ own-ones) k l in
        let h₁ = and_right (eqb (at p.first_drones k) _) _ h in
        let h₂ = and_right (eqb (at p.first_stops k) _) _ h₁ in
        let h₃ = and_right (eqb (at p.second_drones k) _) _ h₂ in
        (eqb-true _ _ (and_left _ _ h), eqb-true _ _ (and_left _ _ h₁), eqb-true _ _ (and_left _ _ h₂), eqb-true _ _ h₃)

    holds_planned : HoldsPlanned p
    holds_planned = record { total = total_is; first_drones_lem = λ k l. (numbers_are k l).0; first_stops_lem = λ k l. (numbers_are k l).1; second_drones_lem = λ k l. (numbers_are k l).2; second_stops_lem = λ k l. (numbers_are k l).3 }

    -- "the plan in them would be accepted; the dependencies are exactly its own"
    pub accepted_plan : AcceptedPlan (plan_of p)
    accepted_plan = (accepted_claims.accepted_exactly p have_stops).0 (no_fault, no_collision, holds_planned, accepted_have_legs L p accepted)

-- unused entries that are zero, as the test has it
pub zero_from_lem : (used full : ℕ) (l : List ℕ) → ((i : ℕ) → used ≤ i → i < full → at l i ≡ 0) → zero_from used full l ≡ true
unfolding zero_from
zero_from_lem used full l zero-at = all_below_all full _ (λ i h. by_cases (ltb i used) (λ e. rw e refl) (λ e. rw (e, zero-at i (ltb-false i used e) h) refl))

-- ---- the flag bytes

module _ (L : Limits) (t : Tables) (s : Sound L t) where
  pub two_bits : (d : ℕ) → d < drones t.plan → only_two_bits (at t.drone_flags d) ≡ true
  unfolding drone_flags_sound
  two_bits d l = all_below-at (drones t.plan) _ s.drone_flags d l

  -- "bit 1 is fixed": 31 is seen by the flag byte
  pub fixed_bit_lem : (w : ℕ) → w < dependencies t.plan → fixed_bit (at t.flags w) ≡ fixed (plan_of t.plan) w
  unfolding fixed_bit flags_sound
  fixed_bit_lem w l = ap (λ (x : ℕ). eqb (x % 2) 1) (eqb-true (at t.flags w / 2) _ (all_below-at (dependencies t.plan) _ s.flags_right w l)) ∙ bit (fixed (plan_of t.plan) w)
    where
      bit : (b : Bool) → eqb (pick b 1 0 % 2) 1 ≡ b
      bit true = refl
      bit false = refl
