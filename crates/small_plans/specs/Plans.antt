-- Every small plan that the conductor accepts, in order. Assumes nothing.
use Rattle.std.specs.Prelude.{Bool, ◌&&◌, ◌||◌, List, [], ◌∷◌, ℕ, get_or}
use Rattle.tables.specs.Limits.{limits}
use Rattle.text.specs.Written.{Route, routes_text}
use Rattle.reading.specs.Replies.{is_taken}
use Rattle.reading.specs.Reading.{without, read_plan}
use Rattle.tables.specs.Zero.{filled}
use Rattle.small_plans.specs.Routes.{map, flat_map, filter, SmallRoute, route_with, small_legs, small_routes, route_before, same_route}

-- ---- a plan of two drones

-- the first drone's route and the second's
pub record SmallPlan : Type 0 where
  pub first : SmallRoute
  pub second : SmallRoute

abbrev pub plan_with : SmallRoute → SmallRoute → SmallPlan
plan_with x y = record { first = x; second = y }

-- the route of a drone whose name is one byte
abbrev pub named : ℕ → SmallRoute → Route
named byte x = record { name = byte ∷ []; locations = x.locations; times = x.times; legs = small_legs x }

-- "two drones named a and b"
abbrev pub plan_routes : SmallPlan → List Route
plan_routes p = named 97 p.first ∷ named 98 p.second ∷ []

-- its text: "the box of point 9 keeps to `plan=1`"
unfoldable pub small_plan_text : SmallPlan → List ℕ
small_plan_text p = routes_text 1 (plan_routes p)

-- ---- all of them

-- "that the conductor would accept without a site text": reading its text takes it
unfoldable pub would_be_taken : SmallPlan → Bool
would_be_taken p = is_taken (read_plan limits without (small_plan_text p) (filled 0 limits)).reply

-- "Plans are ordered by the first drone's route, then the second's. Plans are numbered from 0"
unfoldable pub small_plans : List SmallPlan
small_plans = flat_map small_routes (λ x. filter would_be_taken (map (λ y. plan_with x y) small_routes))

abbrev pub plan_at : ℕ → SmallPlan
plan_at k = get_or small_plans k (plan_with (route_with [] []) (route_with [] []))

unfoldable pub plan_before : SmallPlan → SmallPlan → Bool
plan_before p q = route_before p.first q.first || (same_route p.first q.first && route_before p.second q.second)
