-- Reading takes the text of two routes within the figures exactly when their check passes.
use mathlib.Core.Path.{◌≡◌, refl, sym, ap, ◌∙◌, subst}
use mathlib.Core.Logic.{◌↔◌}
use mathlib.Core.Bool.{true}
use mathlib.Core.List.{List, [], ◌∷◌}
use Prim.Native.Nat.{ℕ, suc, ◌+◌, ◌≤◌, ◌<◌}
use native.Mathlib.Nat.{zero-add}
use native.Mathlib.Omega.{arith}
use lib.ListN.{length}
use borrow.Author.Tests.{ne_eqb}
use Rattle.below.specs.Below.{at, sum_below, count_below, list_below}
use Rattle.below.proofs.Tests.{same_test}
use Rattle.below.proofs.Count.{count_le}
use Rattle.below.proofs.Index.{get_d_list_below}
use Rattle.below.proofs.Sum.{sum_bound}
use Rattle.tables.specs.Limits.{limits}
use Rattle.tables.specs.Tables.{Tables, full_size}
use Rattle.tables.specs.Legs.{plain_leg, leg_right}
use Rattle.lines.specs.Names.{small_form, is_name_byte, name_bytes, good_name}
use Rattle.lines.specs.Stops.{StopsInRange}
use Rattle.lines.proofs.LegLaws.{plain-right}
use Rattle.text.specs.LinesRead.{same, elem}
use Rattle.text.specs.Written.{Route, routes_text, small_names, InLimits}
use Rattle.text.proofs.RoundTrips.{limits-round_trip}
use Rattle.plan.specs.Stops.{start}
use Rattle.near.specs.Near.{meets_in}
use Rattle.plan.specs.Field.{FieldPlan, Checked}
use Rattle.plan.specs.Dependencies.{follows}
use Rattle.reading.specs.Replies.{taken, is_taken}
use Rattle.reading.proofs.ReplyLaws.{is_taken_lem}
use Rattle.reading.specs.Reading.{without, read_plan}
use Rattle.accepted.specs.TextPlan.{stops_in, routes_visits, routes_plan}
use Rattle.tables.specs.Zero.{filled}
use Rattle.accepted.proofs.RoutesPlan.{rules_checked}
use Rattle.accepted.proofs.Taken.{limits-taken_exactly, follows-own}
use Rattle.accepted.proofs.SiteRead.{none_meet}
use Rattle.small_plans.specs.Routes.{SmallRoute, route_with, route_length, small_legs, AtMost, Within}
use Rattle.small_plans.specs.Plans.{SmallPlan, plan_with, plan_routes, small_plan_text, would_be_taken}
use Rattle.small_plans.specs.Check.{plan_checked}
use Rattle.small_plans.proofs.Checking.{Flies, plan_said, says-checked}

-- ---- the two routes are a valid plan

later : (s i : ℕ) → s + suc i ≡ suc s + i
later s i = omega arith

-- from the drone's stop s on, with legs of one
stops_in_range : (s : ℕ) (l t : List ℕ) (leg : ℕ → ℕ) → length t ≡ length l → AtMost 2 l → AtMost 4 t → ((i : ℕ) → leg i ≡ plain_leg (s + i)) → StopsInRange limits 1 s l t (list_below (length l) leg)
unfolding list_below
stops_in_range s [] [] leg e a b g = tt
stops_in_range s [] (u ∷ t) leg e a b g = absurd (omega arith)
stops_in_range s (p ∷ l) [] leg e a b g = absurd (omega arith)
stops_in_range s (p ∷ l) (u ∷ t) leg e a b g =
    let i : p ≤ 2 = a 0 (omega arith) in
    let j : u ≤ 4 = b 0 (omega arith) in
    let m : s ≡ s + 0 = omega arith in
    let r : leg_right limits 1 s (leg 0) ≡ true = ap (leg_right limits 1 s) (g 0 ∙ ap plain_leg (sym m)) ∙ plain-right limits s in
    (omega arith, omega arith, r, stops_in_range (suc s) l t (λ i. leg (suc i)) (omega arith) (λ i k. a (suc i) (omega arith)) (λ i k. b (suc i) (omega arith)) (λ i. g (suc i) ∙ ap plain_leg (later s i)))

route_in_range : (x : SmallRoute) → Within x → StopsInRange limits 1 0 x.locations x.times (small_legs x)
route_in_range x w = stops_in_range 0 x.locations x.times plain_leg w.timed w.places w.early (λ i. ap plain_leg (sym (zero-add i)))

-- the leg into every stop but stop 0
one_leg_lem : (x : SmallRoute) (s : ℕ) → suc s < route_length x → at (small_legs x) (suc s) ≡ 1
unfolding plain_leg
one_leg_lem x s l = get_d_list_below (route_length x) plain_leg 0 (suc s) l ∙ rw (ne_eqb (suc s) 0 (λ (z : suc s ≡ 0). omega arith)) refl

module _ (x y : SmallRoute) (wx : Within x) (wy : Within y) where
  abbrev ds : List Route
  ds = plan_routes (plan_with x y)

  pub in_limits : InLimits limits 1 ds
  unfolding good_name name_bytes is_name_byte elem same
  in_limits =
      let a = wx.few in
      let b = wy.few in (
        omega arith,
        omega arith,
        (
          refl,
          refl,
          wx.some,
          omega arith,
          route_in_range x wx,
          (refl, refl, wy.some, omega arith, route_in_range y wy, tt),
        ),
        omega arith,
        omega arith,
      )

  -- its names have no capitals
  own : small_names ds ≡ ds
  own = limits-round_trip.no_capitals 1 ds in_limits

  short : length (routes_text 1 ds) ≤ limits.text
  short = omega (arith, limits-round_trip.written_bound 1 ds in_limits)

  -- ---- the plan of the two routes, without a site text

  abbrev F : FieldPlan
  F = routes_plan (meets_in []) ds

  first_flies : Flies F 0 x
  first_flies = record { some = wx.some; last_is = refl; location_is = λ s l. refl; time_is = λ s l. refl; leg_is = one_leg_lem x }

  second_flies : Flies F 1 y
  second_flies = record { some = wy.some; last_is = refl; location_is = λ s l. refl; time_is = λ s l. refl; leg_is = one_leg_lem y }

  stops_few : stops_in ds ≤ 6
  unfolding start sum_below
  stops_few = let a = wx.few in let b = wy.few in omega arith

  few_dependencies : F.count ≤ limits.dependencies
  few_dependencies =
      let R = follows (routes_visits (meets_in []) ds) in
      omega (arith, sum_bound (stops_in ds) (λ v. count_below (stops_in ds) (R v)) 6 (λ v l. le_six (count_le (stops_in ds) (R v)) stops_few), stops_few)
    where
      le_six : {m n : ℕ} → m ≤ n → n ≤ 6 → m ≤ 6
      le_six a b = omega arith

  pub taken_exactly : (t : Tables) → full_size limits t ≡ true → ((read_plan limits without (small_plan_text (plan_with x y)) t).reply ≡ taken) ↔ (plan_checked x y ≡ true)
  unfolding small_plan_text
  taken_exactly t full = (said, says)
    where
      said : (read_plan limits without (routes_text 1 ds) t).reply ≡ taken → plan_checked x y ≡ true
      said h =
          let q = ((limits-taken_exactly without (routes_text 1 ds) t).0 h).1 in
          let texts : routes_text q.form (small_names q.typed) ≡ routes_text 1 ds =
          sym (limits-round_trip.names_alone q.form q.typed q.in_limits.4) ∙ (ap small_form (sym q.as_typed) ∙ (limits-round_trip.names_alone 1 ds (omega arith) ∙ ap (routes_text 1) own)) in
          let e : small_names q.typed ≡ ds = (limits-round_trip.one_plan q.form 1 (small_names q.typed) ds q.in_limits in_limits texts).1 in
          let checked : Checked (routes_plan (meets_in q.pairs) (small_names q.typed)) = (rules_checked limits q.form q.pairs (small_names q.typed) q.in_limits).0 (q.stops, q.apart) in
          plan_said F x y refl none_meet first_flies second_flies (subst (λ (p : List ℕ). Checked (routes_plan (meets_in p) ds)) q.site (subst (λ (r : List Route). Checked (routes_plan (meets_in q.pairs) r)) e checked))

      says : plan_checked x y ≡ true → (read_plan limits without (routes_text 1 ds) t).reply ≡ taken
      says h = (limits-taken_exactly without (routes_text 1 ds) t).1
          (full, follows-own limits without [] (routes_text 1 ds) 1 ds refl own refl in_limits short ((rules_checked limits 1 [] ds in_limits).1 (says-checked F x y refl none_meet first_flies second_flies h)) few_dependencies)

-- two plans of one text are one plan
abbrev table_route : List Route → SmallRoute
table_route [] = route_with [] []
table_route (r ∷ rs) = route_with r.locations r.times

abbrev after : List Route → List Route
after [] = []
after (r ∷ rs) = rs

pub same_plan : (a b : SmallPlan) → Within a.first → Within a.second → Within b.first → Within b.second → small_plan_text a ≡ small_plan_text b → a ≡ b
unfolding small_plan_text
same_plan a b i j k l h =
    let e : plan_routes a ≡ plan_routes b = (limits-round_trip.one_plan 1 1 (plan_routes a) (plan_routes b) (in_limits a.first a.second i j) (in_limits b.first b.second k l) h).1 in
    ap (λ (rs : List Route). plan_with (table_route rs) (table_route (after rs))) e

-- ---- the list's own test

filled-full : full_size limits (filled 0 limits) ≡ true
unfolding full_size
filled-full = refl

pub accepted_is : (x y : SmallRoute) → Within x → Within y → would_be_taken (plan_with x y) ≡ plan_checked x y
unfolding would_be_taken
accepted_is x y a b =
    let (to, back) = taken_exactly x y a b (filled 0 limits) filled-full in
    same_test _ _ (λ h. to (is_taken_lem _ h)) (λ h. ap is_taken (back h))
