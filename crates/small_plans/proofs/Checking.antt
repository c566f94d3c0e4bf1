-- The plan check of two routes by computing says what the plan check of document 01 says.
use mathlib.Core.Path.{◌≡◌, refl, sym, ap, ◌∙◌}
use mathlib.Core.Logic.{◌≢◌, ◌⊎◌, inl, inr}
use mathlib.Core.Bool.{Bool, true, false, not, ◌&&◌, ◌||◌}
use Prim.Native.Nat.{ℕ, zero, suc, ◌+◌, ◌-◌, ◌≤◌, ◌<◌}
use native.Mathlib.Omega.{arith}
use lib.Dec.{ltb, eqb}
use borrow.Author.Tests.{ltb-true, lt-ltb, eqb-true, eqb-false, eq-eqb, ne_eqb, not-true}
use Rattle.below.specs.Below.{at}
use Rattle.below.proofs.Tests.{by_cases, and_left, and_right, and_both}
use Rattle.below.proofs.Every.{all_below-at, all_below_all}
use Rattle.plan.specs.Visits.{same_location}
use Rattle.plan.specs.Field.{FieldPlan, GoneBefore, Checked}
use Rattle.small_plans.specs.Routes.{SmallRoute, route_length}
use Rattle.small_plans.specs.Check.{route_checked, gone, routes_apart, plan_checked}

or_one : (a b : Bool) → a ≡ true → a || b ≡ true
or_one a b e = rw e refl

or_two : (a b : Bool) → b ≡ true → a || b ≡ true
or_two true b e = refl
or_two false b e = e

or_cases : (a b : Bool) → a || b ≡ true → (a ≡ true) ⊎ (b ≡ true)
or_cases true b e = inl refl
or_cases false b e = inr e

-- drone d of the plan flies the route
pub record Flies (F : FieldPlan) (d : ℕ) (x : SmallRoute) : Type 0 where
  pub some : 1 ≤ route_length x
  pub last_is : F.last d ≡ route_length x - 1
  pub location_is : (s : ℕ) → s < route_length x → F.location d s ≡ at x.locations s
  pub time_is : (s : ℕ) → s < route_length x → F.time d s ≡ at x.times s
  pub leg_is : (s : ℕ) → suc s < route_length x → F.leg d (suc s) ≡ 1

-- ---- one route

module _ (F : FieldPlan) (d : ℕ) (x : SmallRoute) (f : Flies F d x) where
  pub route_said : F.time d 0 ≡ 0 → ((s : ℕ) → s < F.last d → F.time d s < F.time d (suc s)) → ((s : ℕ) → s < F.last d → F.location d s ≢ F.location d (suc s)) → route_checked x ≡ true
  unfolding route_checked
  route_said starts rises moves =
      and_both (eqb (at x.times 0) 0) _ (eq-eqb _ 0 (sym (f.time_is 0 (omega (arith, f.some))) ∙ starts))
      (all_below_all (route_length x - 1) _ (λ s l.
      let a : s < route_length x = omega arith in
      let b : suc s < route_length x = omega arith in
      let k : s < F.last d = omega (arith, f.last_is) in
      and_both (ltb (at x.times s) (at x.times (suc s))) _
      (lt-ltb (at x.times s) (at x.times (suc s)) (omega (arith, rises s k, f.time_is s a, f.time_is (suc s) b)))
      (ap not (ne_eqb _ _ (λ e. moves s k (f.location_is s a ∙ (e ∙ sym (f.location_is (suc s) b))))))))

  module _ (h : route_checked x ≡ true) where
    first_part : eqb (at x.times 0) 0 ≡ true
    unfolding route_checked
    first_part = and_left _ _ h

    each_part : (s : ℕ) → s < route_length x - 1 → ltb (at x.times s) (at x.times (suc s)) && not (eqb (at x.locations s) (at x.locations (suc s))) ≡ true
    unfolding route_checked
    each_part s l = all_below-at (route_length x - 1) _ (and_right (eqb (at x.times 0) 0) _ h) s l

    pub says-starts : F.time d 0 ≡ 0
    says-starts = f.time_is 0 (omega (arith, f.some)) ∙ eqb-true _ 0 first_part

    pub says-rises : (s : ℕ) → s < F.last d → F.time d s < F.time d (suc s)
    says-rises s l =
        let k : s < route_length x - 1 = omega (arith, f.last_is) in
        omega (arith, ltb-true (at x.times s) (at x.times (suc s)) (and_left (ltb (at x.times s) (at x.times (suc s))) _ (each_part s k)), f.time_is s (omega arith), f.time_is (suc s) (omega arith))

    -- a leg of one asks no more
    pub says-rises_by_leg : (s : ℕ) → s < F.last d → F.time d s + F.leg d (suc s) ≤ F.time d (suc s)
    says-rises_by_leg s l = let k : suc s < route_length x = omega (arith, f.last_is) in omega (arith, says-rises s l, f.leg_is s k)

    pub says-moves : (s : ℕ) → s < F.last d → F.location d s ≢ F.location d (suc s)
    says-moves s l e =
        let k : s < route_length x - 1 = omega (arith, f.last_is) in
        eqb-false _ _ (not-true _ (and_right (ltb (at x.times s) (at x.times (suc s))) _ (each_part s k)))
        (sym (f.location_is s (omega arith)) ∙ (e ∙ f.location_is (suc s) (omega arith)))

-- ---- two routes

module _ (F : FieldPlan) (d e : ℕ) (x y : SmallRoute) (f : Flies F d x) (g : Flies F e y) where
  gone_said : (s k : ℕ) → k < route_length y → GoneBefore F d s e k → gone x s y k ≡ true
  unfolding gone
  gone_said s k l h =
      let a : suc s < route_length x = omega (arith, h.goes_on, f.last_is) in
      and_both (ltb (suc s) (route_length x)) _ (lt-ltb _ _ a) (lt-ltb (at x.times (suc s)) (at y.times k) (omega (arith, h.in_time, f.time_is (suc s) a, g.time_is k l)))

  says-gone : (s k : ℕ) → k < route_length y → gone x s y k ≡ true → GoneBefore F d s e k
  unfolding gone
  says-gone s k l h =
      let a : suc s < route_length x = ltb-true _ _ (and_left _ _ h) in
      let b : at x.times (suc s) < at y.times k = ltb-true _ _ (and_right (ltb (suc s) (route_length x)) _ h) in
      record { goes_on = omega (arith, f.last_is); in_time = omega (arith, f.time_is (suc s) a, g.time_is k l) }

module _ (F : FieldPlan) (d e : ℕ) (x y : SmallRoute) (f : Flies F d x) (g : Flies F e y) where
  pub apart_said : ((s k : ℕ) → s ≤ F.last d → k ≤ F.last e → F.location d s ≡ F.location e k → GoneBefore F d s e k ⊎ GoneBefore F e k d s) → routes_apart x y ≡ true
  unfolding routes_apart
  apart_said h = all_below_all (route_length x) _ (λ s l. all_below_all (route_length y) _ (λ k m.
      by_cases (eqb (at x.locations s) (at y.locations k))
      (λ q. or_two (not (eqb (at x.locations s) (at y.locations k))) _ (either s k l m (h s k (omega (arith, f.last_is)) (omega (arith, g.last_is)) (f.location_is s l ∙ (eqb-true _ _ q ∙ sym (g.location_is k m))))))
      (λ q. or_one _ _ (ap not q))))
    where
      either : (s k : ℕ) → s < route_length x → k < route_length y → GoneBefore F d s e k ⊎ GoneBefore F e k d s → gone x s y k || gone y k x s ≡ true
      either s k l m (inl u) = or_one _ _ (gone_said F d e x y f g s k m u)
      either s k l m (inr u) = or_two (gone x s y k) _ (gone_said F e d y x g f k s l u)

  pub says-apart : routes_apart x y ≡ true → (s k : ℕ) → s ≤ F.last d → k ≤ F.last e → F.location d s ≡ F.location e k → GoneBefore F d s e k ⊎ GoneBefore F e k d s
  unfolding routes_apart
  says-apart h s k a b q =
      let l : s < route_length x = omega (arith, f.last_is, f.some) in
      let m : k < route_length y = omega (arith, g.last_is, g.some) in
      let same : eqb (at x.locations s) (at y.locations k) ≡ true = eq-eqb _ _ (sym (f.location_is s l) ∙ (q ∙ g.location_is k m)) in
      let t : not (eqb (at x.locations s) (at y.locations k)) || (gone x s y k || gone y k x s) ≡ true = all_below-at (route_length y) _ (all_below-at (route_length x) _ h s l) k m in
      either l m (or_cases (gone x s y k) (gone y k x s) (rw same at t))
    where
      either : s < route_length x → k < route_length y → (gone x s y k ≡ true) ⊎ (gone y k x s ≡ true) → GoneBefore F d s e k ⊎ GoneBefore F e k d s
      either l m (inl u) = inl (says-gone F d e x y f g s k m u)
      either l m (inr u) = inr (says-gone F e d y x g f k s l u)

-- ---- the plan of the two, in which the same locations meet

module _ (F : FieldPlan) (x y : SmallRoute) (two : F.drones ≡ 2) (same : (a b : ℕ) → F.meets a b ≡ same_location a b) (f : Flies F 0 x) (g : Flies F 1 y) where
  meet : {a b : ℕ} → a ≡ b → F.meets a b ≡ true
  meet {a} {b} q = same a b ∙ eq-eqb a b q

  met : (a b : ℕ) → F.meets a b ≡ true → a ≡ b
  met a b q = eqb-true a b (sym (same a b) ∙ q)

  pub plan_said : Checked F → plan_checked x y ≡ true
  unfolding plan_checked
  plan_said c =
      let a : 0 < F.drones = omega (arith, two) in
      let b : 1 < F.drones = omega (arith, two) in
      and_both (route_checked x) _ (route_said F 0 x f (c.starts 0 a) (λ s l. c.rises 0 s a l) (λ s l. c.moves 0 s a l))
      (and_both (route_checked y) _ (route_said F 1 y g (c.starts 1 b) (λ s l. c.rises 1 s b l) (λ s l. c.moves 1 s b l))
      (apart_said F 0 1 x y f g (λ s k l m q. c.no_collision 0 s 1 k a l b m (λ (z : 0 ≡ 1). omega arith) (meet q))))

  module _ (h : plan_checked x y ≡ true) where
    of_first : route_checked x ≡ true
    unfolding plan_checked
    of_first = and_left _ _ h

    of_second : route_checked y ≡ true
    unfolding plan_checked
    of_second = and_left _ _ (and_right (route_checked x) _ h)

    of_both : routes_apart x y ≡ true
    unfolding plan_checked
    of_both = and_right (route_checked y) _ (and_right (route_checked x) _ h)

    starts : (d : ℕ) → d < F.drones → F.time d 0 ≡ 0
    starts zero l = says-starts F 0 x f of_first
    starts (suc zero) l = says-starts F 1 y g of_second
    starts (suc (suc d)) l = absurd (omega (arith, two))

    rises : (d s : ℕ) → d < F.drones → s < F.last d → F.time d s < F.time d (suc s)
    rises zero s l = says-rises F 0 x f of_first s
    rises (suc zero) s l = says-rises F 1 y g of_second s
    rises (suc (suc d)) s l = absurd (omega (arith, two))

    rises_by_leg : (d s : ℕ) → d < F.drones → s < F.last d → F.time d s + F.leg d (suc s) ≤ F.time d (suc s)
    rises_by_leg zero s l = says-rises_by_leg F 0 x f of_first s
    rises_by_leg (suc zero) s l = says-rises_by_leg F 1 y g of_second s
    rises_by_leg (suc (suc d)) s l = absurd (omega (arith, two))

    moves : (d s : ℕ) → d < F.drones → s < F.last d → F.location d s ≢ F.location d (suc s)
    moves zero s l = says-moves F 0 x f of_first s
    moves (suc zero) s l = says-moves F 1 y g of_second s
    moves (suc (suc d)) s l = absurd (omega (arith, two))

    swapped : {A B : Type 0} → A ⊎ B → B ⊎ A
    swapped (inl a) = inr a
    swapped (inr b) = inl b

    no_collision : (d s e k : ℕ) → d < F.drones → s ≤ F.last d → e < F.drones → k ≤ F.last e → d ≢ e → F.meets (F.location d s) (F.location e k) ≡ true → GoneBefore F d s e k ⊎ GoneBefore F e k d s
    no_collision zero s zero k l a m b ne q = absurd (ne refl)
    no_collision zero s (suc zero) k l a m b ne q = says-apart F 0 1 x y f g of_both s k a b (met _ _ q)
    no_collision zero s (suc (suc e)) k l a m b ne q = absurd (omega (arith, two))
    no_collision (suc zero) s zero k l a m b ne q = swapped (says-apart F 0 1 x y f g of_both k s b a (sym (met _ _ q)))
    no_collision (suc zero) s (suc zero) k l a m b ne q = absurd (ne refl)
    no_collision (suc zero) s (suc (suc e)) k l a m b ne q = absurd (omega (arith, two))
    no_collision (suc (suc d)) s e k l a m b ne q = absurd (omega (arith, two))

    pub says-checked : Checked F
    says-checked = record { starts = starts; rises = rises; rises_by_leg = rises_by_leg; moves = moves; symmetric = λ a b q. meet (sym (met a b q)); no_collision = no_collision }
