-- The plan check of two routes, each by itself and the two against each other: what decides whether a small plan is accepted, by computing. No claim about the
-- list of small plans speaks of it. Assumes nothing.
use Rattle.std.specs.Prelude.{Bool, cond, not, ◌&&◌, ◌||◌, List, [], ℕ, suc, ◌-◌, ltb, eqb, get_or}
use Rattle.below.specs.Below.{at, all_below}
use Rattle.small_plans.specs.Routes.{filter, SmallRoute, route_with, route_length, small_routes}

-- "Stop 0 has time 0 and a drone's times strictly rise. Neighbouring stops of a drone have different locations."
unfoldable pub route_checked : SmallRoute → Bool
route_checked x = eqb (at x.times 0) 0 && all_below (route_length x - 1) (λ s. ltb (at x.times s) (at x.times (suc s)) && not (eqb (at x.locations s) (at x.locations (suc s))))

-- the span of x at its stop s ends before that of y at its stop k begins
unfoldable pub gone : SmallRoute → ℕ → SmallRoute → ℕ → Bool
gone x s y k = ltb (suc s) (route_length x) && ltb (at x.times (suc s)) (at y.times k)

-- the two do not collide
unfoldable pub routes_apart : SmallRoute → SmallRoute → Bool
routes_apart x y = all_below (route_length x) (λ s. all_below (route_length y) (λ k. not (eqb (at x.locations s) (at y.locations k)) || (gone x s y k || gone y k x s)))

-- the routes that pass by themselves, in order
unfoldable pub checked_routes : List SmallRoute
checked_routes = filter route_checked small_routes

-- the route of a number among them
unfoldable pub checked_route_at : ℕ → SmallRoute
checked_route_at r = get_or checked_routes r (route_with [] [])

-- the whole check
unfoldable pub plan_checked : SmallRoute → SmallRoute → Bool
plan_checked x y = route_checked x && (route_checked y && routes_apart x y)

-- its number of stops: 3 routes have one, 24 have two, the others three
unfoldable pub stop_count : ℕ → ℕ
stop_count r = cond (ltb r 3) 1 (cond (ltb r 27) 2 3)
