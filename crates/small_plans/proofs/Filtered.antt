-- The list by computing: first the routes that pass by themselves, then the pairs of them that do not collide.
use mathlib.Core.Path.{◌≡◌, refl, ap, ◌∙◌}
use mathlib.Core.Logic.{inl, inr}
use mathlib.Core.Bool.{Bool, false, ◌&&◌}
use mathlib.Core.List.{List, [], ◌∷◌}
use Rattle.below.proofs.Tests.{by_cases}
use Rattle.small_plans.specs.Routes.{map, flat_map, filter, SmallRoute, small_routes}
use Rattle.small_plans.specs.Plans.{SmallPlan, plan_with, would_be_taken, small_plans}
use Rattle.small_plans.specs.Check.{route_checked, routes_apart, plan_checked, checked_routes}
use Rattle.small_plans.proofs.Lists.{Among}
use Rattle.small_plans.proofs.Figures.{among-within}
use Rattle.small_plans.proofs.Accepting.{accepted_is}

module _ (test : SmallPlan → Bool) (g : SmallRoute → Bool) (x : SmallRoute) where
  row_none : (ys : List SmallRoute) → ((y : SmallRoute) → Among y ys → test (plan_with x y) ≡ false) → filter test (map (λ y. plan_with x y) ys) ≡ []
  unfolding map filter Among
  row_none [] h = refl
  row_none (y ∷ ys) h = rw (h y (inl refl)) (row_none ys (λ z m. h z (inr m)))

  row_some : (c : SmallRoute → Bool) (ys : List SmallRoute) → ((y : SmallRoute) → Among y ys → test (plan_with x y) ≡ g y && c y) → filter test (map (λ y. plan_with x y) ys) ≡ map (λ y. plan_with x y) (filter c (filter g ys))
  unfolding map filter Among
  row_some c [] h = refl
  row_some c (y ∷ ys) h =
      let more = row_some c ys (λ z m. h z (inr m)) in
      by_cases (g y)
      (λ a. by_cases (c y) (λ b. rw (h y (inl refl), a, b) (ap (λ (l : List SmallPlan). plan_with x y ∷ l) more)) (λ b. rw (h y (inl refl), a, b) more))
      (λ a. rw (h y (inl refl), a) more)

by_tests : (test : SmallPlan → Bool) (g : SmallRoute → Bool) (c : SmallRoute → SmallRoute → Bool) (xs ys : List SmallRoute) → ((x y : SmallRoute) → Among x xs → Among y ys → test (plan_with x y) ≡ g x && (g y && c x y))
    → flat_map xs (λ x. filter test (map (λ y. plan_with x y) ys)) ≡ flat_map (filter g xs) (λ x. map (λ y. plan_with x y) (filter (c x) (filter g ys)))
unfolding flat_map filter Among
by_tests test g c [] ys h = refl
by_tests test g c (x ∷ xs) ys h =
    let more = by_tests test g c xs ys (λ z y m n. h z y (inr m) n) in
    by_cases (g x)
    (λ a. rw (a, row_some test g x (c x) ys (λ y n. h x y (inl refl) n ∙ ap (λ (b : Bool). b && (g y && c x y)) a), more) refl)
    (λ a. rw (a, row_none test g x ys (λ y n. h x y (inl refl) n ∙ ap (λ (b : Bool). b && (g y && c x y)) a), more) refl)

-- the same list, by computing
abbrev pub computed : List SmallPlan
computed = flat_map checked_routes (λ x. map (λ y. plan_with x y) (filter (routes_apart x) checked_routes))

pub plans_computed : small_plans ≡ computed
unfolding small_plans checked_routes plan_checked
plans_computed = by_tests would_be_taken route_checked routes_apart small_routes small_routes (λ x y a b. accepted_is x y (among-within x a) (among-within y b))
