-- Two plans in lists that have the same entries up to the full sizes: where the counts are in their ranges, the stops are numbered alike, and the plan check and the
-- dependencies are the same. Assumes nothing.
use mathlib.Core.Path.{◌≡◌, refl, ap, ◌∙◌, fun_ext}
use Prim.Native.Nat.{ℕ, suc, ◌-◌, ◌*◌, ◌≤◌, ◌<◌}
use native.Mathlib.Omega.{arith}
use lib.Dec.{ltb}
use Rattle.below.specs.Below.{at, first_below}
use Rattle.below.proofs.Search.{first_below_first, first_below_ext}
use Rattle.below.proofs.Sum.{sum_ext}
use Rattle.tables.specs.Limits.{Limits, most_pairs}
use Rattle.tables.specs.Tables.{PlanLists, drones, dependencies, form_of}
use Rattle.near.proofs.NearLaws.{meets_entries}
use Rattle.plan.specs.Stops.{start, owner, stop_number}
use Rattle.plan.specs.Visits.{visits_with}
use Rattle.plan.specs.Check.{first_fault, apart}
use Rattle.plan.specs.Answers.{check_of}
use Rattle.plan.specs.Dependencies.{dependency_total, column}
use Rattle.plan.specs.Field.{meets_of}
use Rattle.plan.specs.Claims.{stop_total, owner_in, number_in, location_in, time_in, leg_in, visits_in}
use Rattle.plan.proofs.Agree.{apart-same, total-same, column-same, first_fault-same, check_same}

-- the same entries up to the full sizes
pub record PlanEntriesAgree (L : Limits) (p p' : PlanLists) : Type 0 where
  pub drone_count_lem : drones p ≡ drones p'
  pub dependency_count : dependencies p ≡ dependencies p'
  pub form : form_of p ≡ form_of p'
  pub names : (i : ℕ) → i < L.drones * L.name → at p.names i ≡ at p'.names i
  pub stop_counts_lem : (d : ℕ) → d < L.drones → at p.stop_counts d ≡ at p'.stop_counts d
  pub locations : (v : ℕ) → v < L.stops → at p.locations v ≡ at p'.locations v
  pub times : (v : ℕ) → v < L.stops → at p.times v ≡ at p'.times v
  pub legs : (v : ℕ) → v < L.stops → at p.legs v ≡ at p'.legs v
  pub first_drones_lem : (k : ℕ) → k < L.dependencies → at p.first_drones k ≡ at p'.first_drones k
  pub first_stops_lem : (k : ℕ) → k < L.dependencies → at p.first_stops k ≡ at p'.first_stops k
  pub second_drones_lem : (k : ℕ) → k < L.dependencies → at p.second_drones k ≡ at p'.second_drones k
  pub second_stops_lem : (k : ℕ) → k < L.dependencies → at p.second_stops k ≡ at p'.second_stops k
  pub pairs : (i : ℕ) → i < 2 * most_pairs → at p.pairs i ≡ at p'.pairs i

-- .. so the same locations meet
pub meeting : (L : Limits) (p p' : PlanLists) → PlanEntriesAgree L p p' → (a b : ℕ) → meets_of p a b ≡ meets_of p' a b
meeting L p p' same = meets_entries p.pairs p'.pairs same.pairs

module _ (L : Limits) (p p' : PlanLists) (same : PlanEntriesAgree L p p') (few : drones p ≤ L.drones) where
  -- ---- the stops numbered through

  pub start-same : (d : ℕ) → d ≤ L.drones → start p.stop_counts d ≡ start p'.stop_counts d
  unfolding start
  start-same d h = sum_ext d _ _ (λ c l. same.stop_counts_lem c (omega arith))

  pub stops : stop_total p ≡ stop_total p'
  stops = start-same (drones p) few ∙ ap (start p'.stop_counts) same.drone_count_lem

  own_same : (v : ℕ) → owner_in p v ≡ owner_in p' v
  unfolding owner
  own_same v =
      first_below_ext (drones p) _ _ (λ d l. ap (ltb v) (start-same (suc d) (omega arith)))
      ∙ ap (λ (n : ℕ). first_below n (λ d. ltb v (start p'.stop_counts (suc d)))) same.drone_count_lem

  own_in : (v : ℕ) → owner_in p v ≤ drones p
  unfolding owner
  own_in v = (first_below_first (drones p) _).within

  num-same : (v : ℕ) → number_in p v ≡ number_in p' v
  unfolding stop_number
  num-same v =
      let l = own_in v in
      ap (λ (n : ℕ). v - n) (start-same (owner_in p v) (omega arith) ∙ ap (start p'.stop_counts) (own_same v))

  pub owners : owner_in p ≡ owner_in p'
  owners = fun_ext own_same

  pub numbers : number_in p ≡ number_in p'
  numbers = fun_ext num-same

  meets : meets_of p ≡ meets_of p'
  meets = fun_ext (λ a. fun_ext (λ b. meeting L p p' same a b))

  -- ---- the plan check and the dependencies
  module _ (room : stop_total p ≤ L.stops) where
    location_same : (v : ℕ) → v < stop_total p → location_in p v ≡ location_in p' v
    location_same v l = same.locations v (omega arith)

    time_same : (v : ℕ) → v < stop_total p → time_in p v ≡ time_in p' v
    time_same v l = same.times v (omega arith)

    leg_same : (v : ℕ) → v < stop_total p → leg_in p v ≡ leg_in p' v
    leg_same v l = same.legs v (omega arith)

    pub check_is : check_of (visits_in p) (leg_in p) ≡ check_of (visits_in p') (leg_in p')
    check_is =
        check_same (visits_in p) (owner_in p) (number_in p) (location_in p') (time_in p') (λ v l. refl) location_same time_same (λ v l. refl) (leg_in p) (leg_in p') leg_same
        ∙ (λ i. check_of (visits_with (meets i) (owners i) (numbers i) (location_in p') (time_in p') (stops i)) (leg_in p'))

    pub fault_is : first_fault (visits_in p) (leg_in p) ≡ first_fault (visits_in p') (leg_in p')
    fault_is =
        first_fault-same (visits_in p) (owner_in p) (number_in p) (location_in p') (time_in p') (λ v l. refl) location_same time_same (λ v l. refl) (leg_in p) (leg_in p') leg_same
        ∙ (λ i. first_fault (visits_with (meets i) (owners i) (numbers i) (location_in p') (time_in p') (stops i)) (leg_in p'))

    pub apart_is : apart (visits_in p) ≡ apart (visits_in p')
    apart_is =
        apart-same (visits_in p) (owner_in p) (number_in p) (location_in p') (time_in p') (λ v l. refl) location_same time_same
        ∙ (λ i. apart (visits_with (meets i) (owners i) (numbers i) (location_in p') (time_in p') (stops i)))

    pub total_is : dependency_total (visits_in p) ≡ dependency_total (visits_in p')
    total_is =
        total-same (visits_in p) (owner_in p) (number_in p) (location_in p') (time_in p') (λ v l. refl) location_same time_same
        ∙ (λ i. dependency_total (visits_with (meets i) (owners i) (numbers i) (location_in p') (time_in p') (stops i)))

    -- a column of values that depend on the numbering alone
    pub column_is : (f : (own num : ℕ → ℕ) (n : ℕ) → ℕ → ℕ → ℕ) → column (visits_in p) (f (owner_in p) (number_in p) (stop_total p)) ≡ column (visits_in p') (f (owner_in p') (number_in p') (stop_total p'))
    column_is f =
        column-same (visits_in p) (owner_in p) (number_in p) (location_in p') (time_in p') (λ v l. refl) location_same time_same _ _ (λ v w l k. refl)
        ∙ (λ i. column (visits_with (meets i) (owners i) (numbers i) (location_in p') (time_in p') (stops i)) (f (owners i) (numbers i) (stops i)))
