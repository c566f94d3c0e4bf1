-- The claims about the list of every small plan.
use mathlib.Core.Path.{◌≡◌, sym, ◌∙◌}
use mathlib.Core.Bool.{true}
use mathlib.Core.List.{List, []}
use Prim.Native.Nat.{ℕ, ◌<◌}
use lib.ListN.{length}
use Rattle.tables.specs.Limits.{limits}
use Rattle.tables.specs.Tables.{Tables, full_size}
use Rattle.reading.specs.Reading.{without, read_plan}
use Rattle.reading.specs.Replies.{taken}
use Rattle.accepted.proofs.Taken.{limits-taken_exactly}
use Rattle.small_plans.specs.Routes.{map, filter, SmallRoute, route_with, Within, small_routes}
use Rattle.small_plans.specs.Plans.{SmallPlan, plan_with, small_plan_text, would_be_taken, small_plans, plan_at}
use Rattle.small_plans.specs.Claims.{SmallPlanClaims}
use Rattle.small_plans.proofs.Lists.{Among, among-map, among-flat_map, among-filter, map-among, flat_map-among, filter-among, among-index, index-among}
use Rattle.small_plans.proofs.Figures.{within-among, among-within}
use Rattle.small_plans.proofs.Accepting.{taken_exactly, accepted_is, same_plan}
use Rattle.small_plans.proofs.Listed.{plans_many}
use Rattle.small_plans.proofs.Ordered.{plans_rise, plan_once}

abbrev row : SmallRoute → List SmallPlan
row x = filter would_be_taken (map (λ y. plan_with x y) small_routes)

in_list : (p : SmallPlan) (t : Tables) → Within p.first → Within p.second → (read_plan limits without (small_plan_text p) t).reply ≡ taken → Among p small_plans
unfolding small_plans
in_list p t a b h =
    let x = p.first in
    let y = p.second in
    let full : full_size limits t ≡ true = ((limits-taken_exactly without (small_plan_text p) t).0 h).0 in
    let e : would_be_taken p ≡ true = accepted_is x y a b ∙ (taken_exactly x y a b t full).0 h in
    among-flat_map row x small_routes p (within-among x a) (among-filter would_be_taken p (map (λ y. plan_with x y) small_routes) (among-map (λ y. plan_with x y) y small_routes (within-among y b)) e)

-- what an entry of the list is
record Kept (p : SmallPlan) : Type 0 where
  first_in : Within p.first
  second_in : Within p.second
  passes : would_be_taken p ≡ true

of_list : (p : SmallPlan) → Among p small_plans → Kept p
unfolding small_plans
of_list p h =
    let (x, a, k) = flat_map-among row small_routes p h in
    let (m, e) = filter-among would_be_taken (map (λ y. plan_with x y) small_routes) p k in
    let (y, b, q) = map-among (λ y. plan_with x y) small_routes p m in
    record { first_in = rw q (among-within x a); second_in = rw q (among-within y b); passes = e }

of_number : (k : ℕ) → k < length small_plans → Kept (plan_at k)
of_number k l = of_list (plan_at k) (index-among (plan_with (route_with [] []) (route_with [] [])) small_plans k l)

pub small_plan_claims : SmallPlanClaims
small_plan_claims = record {
  many = plans_many;
  rising = plans_rise;
  once = plan_once;
  text_once = λ i j a b e.
      let p = of_number i a in
      let q = of_number j b in
      plan_once i j a b (same_plan (plan_at i) (plan_at j) p.first_in p.second_in q.first_in q.second_in e);
  none_missing = λ p t a b h. among-index (plan_with (route_with [] []) (route_with [] [])) p small_plans (in_list p t a b h);
  none_too_many = λ k l.
      let p = plan_at k in
      let b = of_number k l in
      (b.first_in, b.second_in, λ t full. (taken_exactly p.first p.second b.first_in b.second_in t full).1 (sym (accepted_is p.first p.second b.first_in b.second_in) ∙ b.passes));
}
