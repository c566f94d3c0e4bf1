-- The tables of the code, and their rules, each by one test that is computed over the whole table: the routes in order, and the plans in order.
use mathlib.Core.Path.{◌≡◌, refl, sym, ap, ◌∙◌}
use mathlib.Core.Bool.{true}
use mathlib.Core.List.{List, [], ◌∷◌}
use Prim.Native.Nat.{ℕ, zero, suc, ◌*◌, ◌<◌}
use native.Mathlib.Omega.{arith}
use lib.Dec.{ltb, eqb}
use lib.ListN.{length, get_or, take, drop}
use borrow.Author.Tests.{ltb-true, eqb-true}
use Rattle.below.specs.Below.{at, all_below, list_below}
use Rattle.below.proofs.Every.{all_below-at}
use Rattle.below.proofs.Index.{get_d_list_below}
use Rattle.small_plans.specs.Routes.{map, flat_map, filter, tuples, SmallRoute, route_with, route_length, small_routes}
use Rattle.small_plans.specs.Plans.{SmallPlan, plan_with, small_plans, plan_at}
use Rattle.small_plans.specs.Check.{route_checked, gone, routes_apart, checked_routes, checked_route_at, stop_count}
use Rattle.small_plans.proofs.Filtered.{computed, plans_computed}

-- ---- the tables

unfoldable pub firsts : List ℕ
firsts =
    0 ∷ 0 ∷ 0 ∷ 0 ∷ 0 ∷ 0 ∷ 0 ∷ 0 ∷ 0 ∷ 0 ∷ 0 ∷ 0 ∷ 0 ∷ 0 ∷ 0 ∷ 0 ∷ 0 ∷ 0 ∷ 0 ∷ 0 ∷ 0 ∷ 0 ∷ 1 ∷ 1 ∷ 1 ∷ 1 ∷ 1 ∷ 1 ∷ 1 ∷ 1 ∷ 1 ∷ 1 ∷ 1 ∷ 1 ∷ 1 ∷ 1 ∷ 1 ∷ 1 ∷ 1 ∷ 1
    ∷ 1 ∷ 1 ∷ 1 ∷ 1 ∷ 2 ∷ 2 ∷ 2 ∷ 2 ∷ 2 ∷ 2 ∷ 2 ∷ 2 ∷ 2 ∷ 2 ∷ 2 ∷ 2 ∷ 2 ∷ 2 ∷ 2 ∷ 2 ∷ 2 ∷ 2 ∷ 2 ∷ 2 ∷ 2 ∷ 2 ∷ 3 ∷ 3 ∷ 3 ∷ 3 ∷ 3 ∷ 3 ∷ 3 ∷ 4 ∷ 4 ∷ 4 ∷ 4 ∷ 4 ∷ 4 ∷ 4
    ∷ 5 ∷ 5 ∷ 5 ∷ 5 ∷ 5 ∷ 5 ∷ 5 ∷ 6 ∷ 6 ∷ 6 ∷ 6 ∷ 6 ∷ 6 ∷ 6 ∷ 7 ∷ 7 ∷ 7 ∷ 7 ∷ 7 ∷ 7 ∷ 7 ∷ 8 ∷ 8 ∷ 8 ∷ 8 ∷ 8 ∷ 8 ∷ 8 ∷ 9 ∷ 9 ∷ 9 ∷ 9 ∷ 9 ∷ 9 ∷ 9 ∷ 10 ∷ 10 ∷ 10 ∷ 10 ∷ 10
    ∷ 10 ∷ 10 ∷ 11 ∷ 11 ∷ 11 ∷ 11 ∷ 11 ∷ 11 ∷ 11 ∷ 12 ∷ 12 ∷ 12 ∷ 12 ∷ 12 ∷ 12 ∷ 12 ∷ 13 ∷ 13 ∷ 13 ∷ 13 ∷ 13 ∷ 13 ∷ 13 ∷ 14 ∷ 14 ∷ 14 ∷ 14 ∷ 14 ∷ 14 ∷ 14 ∷ 15 ∷ 15 ∷ 15 ∷ 15 ∷ 15 ∷ 15 ∷ 15 ∷ 16 ∷ 16 ∷ 16
    ∷ 16 ∷ 16 ∷ 16 ∷ 16 ∷ 17 ∷ 17 ∷ 17 ∷ 17 ∷ 17 ∷ 17 ∷ 17 ∷ 18 ∷ 18 ∷ 18 ∷ 18 ∷ 18 ∷ 18 ∷ 18 ∷ 19 ∷ 19 ∷ 19 ∷ 19 ∷ 19 ∷ 19 ∷ 19 ∷ 20 ∷ 20 ∷ 20 ∷ 20 ∷ 20 ∷ 20 ∷ 20 ∷ 21 ∷ 21 ∷ 21 ∷ 21 ∷ 21 ∷ 21 ∷ 21 ∷ 22
    ∷ 22 ∷ 22 ∷ 22 ∷ 22 ∷ 22 ∷ 22 ∷ 23 ∷ 23 ∷ 23 ∷ 23 ∷ 23 ∷ 23 ∷ 23 ∷ 24 ∷ 24 ∷ 24 ∷ 24 ∷ 24 ∷ 24 ∷ 24 ∷ 25 ∷ 25 ∷ 25 ∷ 25 ∷ 25 ∷ 25 ∷ 25 ∷ 26 ∷ 26 ∷ 26 ∷ 26 ∷ 26 ∷ 26 ∷ 26 ∷ 27 ∷ 27 ∷ 27 ∷ 27 ∷ 28 ∷ 28
    ∷ 29 ∷ 29 ∷ 30 ∷ 30 ∷ 30 ∷ 30 ∷ 31 ∷ 31 ∷ 32 ∷ 32 ∷ 32 ∷ 32 ∷ 34 ∷ 34 ∷ 35 ∷ 35 ∷ 37 ∷ 37 ∷ 39 ∷ 39 ∷ 39 ∷ 39 ∷ 40 ∷ 40 ∷ 41 ∷ 41 ∷ 42 ∷ 42 ∷ 42 ∷ 42 ∷ 43 ∷ 43 ∷ 44 ∷ 44 ∷ 44 ∷ 44 ∷ 46 ∷ 46 ∷ 47 ∷ 47
    ∷ 49 ∷ 49 ∷ 51 ∷ 51 ∷ 51 ∷ 51 ∷ 52 ∷ 52 ∷ 53 ∷ 53 ∷ 54 ∷ 54 ∷ 54 ∷ 54 ∷ 55 ∷ 55 ∷ 56 ∷ 56 ∷ 56 ∷ 56 ∷ 58 ∷ 58 ∷ 59 ∷ 59 ∷ 61 ∷ 61 ∷ 64 ∷ 64 ∷ 65 ∷ 65 ∷ 67 ∷ 67 ∷ 69 ∷ 69 ∷ 69 ∷ 69 ∷ 70 ∷ 70 ∷ 71 ∷ 71
    ∷ 72 ∷ 72 ∷ 72 ∷ 72 ∷ 73 ∷ 73 ∷ 74 ∷ 74 ∷ 74 ∷ 74 ∷ 76 ∷ 76 ∷ 77 ∷ 77 ∷ 79 ∷ 79 ∷ 81 ∷ 81 ∷ 81 ∷ 81 ∷ 82 ∷ 82 ∷ 83 ∷ 83 ∷ 84 ∷ 84 ∷ 84 ∷ 84 ∷ 85 ∷ 85 ∷ 86 ∷ 86 ∷ 86 ∷ 86 ∷ 88 ∷ 88 ∷ 89 ∷ 89 ∷ 91 ∷ 91
    ∷ 93 ∷ 93 ∷ 93 ∷ 93 ∷ 94 ∷ 94 ∷ 95 ∷ 95 ∷ 96 ∷ 96 ∷ 96 ∷ 96 ∷ 97 ∷ 97 ∷ 98 ∷ 98 ∷ 98 ∷ 98 ∷ []

unfoldable pub seconds : List ℕ
seconds =
    1 ∷ 2 ∷ 15 ∷ 16 ∷ 17 ∷ 18 ∷ 23 ∷ 24 ∷ 25 ∷ 26 ∷ 69 ∷ 70 ∷ 71 ∷ 72 ∷ 73 ∷ 74 ∷ 93 ∷ 94 ∷ 95 ∷ 96 ∷ 97 ∷ 98 ∷ 0 ∷ 2 ∷ 7 ∷ 8 ∷ 9 ∷ 10 ∷ 19 ∷ 20 ∷ 21 ∷ 22 ∷ 39 ∷ 40 ∷ 41 ∷ 42 ∷ 43 ∷ 44 ∷ 81 ∷ 82
    ∷ 83 ∷ 84 ∷ 85 ∷ 86 ∷ 0 ∷ 1 ∷ 3 ∷ 4 ∷ 5 ∷ 6 ∷ 11 ∷ 12 ∷ 13 ∷ 14 ∷ 27 ∷ 28 ∷ 29 ∷ 30 ∷ 31 ∷ 32 ∷ 51 ∷ 52 ∷ 53 ∷ 54 ∷ 55 ∷ 56 ∷ 2 ∷ 20 ∷ 21 ∷ 22 ∷ 84 ∷ 85 ∷ 86 ∷ 2 ∷ 15 ∷ 21 ∷ 22 ∷ 64 ∷ 65 ∷ 86
    ∷ 2 ∷ 15 ∷ 16 ∷ 22 ∷ 65 ∷ 67 ∷ 93 ∷ 2 ∷ 15 ∷ 16 ∷ 17 ∷ 93 ∷ 94 ∷ 96 ∷ 1 ∷ 12 ∷ 13 ∷ 14 ∷ 54 ∷ 55 ∷ 56 ∷ 1 ∷ 13 ∷ 14 ∷ 23 ∷ 56 ∷ 88 ∷ 89 ∷ 1 ∷ 14 ∷ 23 ∷ 24 ∷ 69 ∷ 89 ∷ 91 ∷ 1 ∷ 23 ∷ 24 ∷ 25 ∷ 69
    ∷ 70 ∷ 72 ∷ 2 ∷ 24 ∷ 25 ∷ 26 ∷ 96 ∷ 97 ∷ 98 ∷ 2 ∷ 7 ∷ 25 ∷ 26 ∷ 46 ∷ 47 ∷ 98 ∷ 2 ∷ 7 ∷ 8 ∷ 26 ∷ 47 ∷ 49 ∷ 81 ∷ 2 ∷ 7 ∷ 8 ∷ 9 ∷ 81 ∷ 82 ∷ 84 ∷ 0 ∷ 4 ∷ 5 ∷ 6 ∷ 30 ∷ 31 ∷ 32 ∷ 0 ∷ 5 ∷ 6
    ∷ 19 ∷ 32 ∷ 76 ∷ 77 ∷ 0 ∷ 6 ∷ 19 ∷ 20 ∷ 39 ∷ 77 ∷ 79 ∷ 0 ∷ 19 ∷ 20 ∷ 21 ∷ 39 ∷ 40 ∷ 42 ∷ 1 ∷ 16 ∷ 17 ∷ 18 ∷ 72 ∷ 73 ∷ 74 ∷ 1 ∷ 3 ∷ 17 ∷ 18 ∷ 34 ∷ 35 ∷ 74 ∷ 1 ∷ 3 ∷ 4 ∷ 18 ∷ 35 ∷ 37 ∷ 51 ∷ 1
    ∷ 3 ∷ 4 ∷ 5 ∷ 51 ∷ 52 ∷ 54 ∷ 0 ∷ 8 ∷ 9 ∷ 10 ∷ 42 ∷ 43 ∷ 44 ∷ 0 ∷ 9 ∷ 10 ∷ 11 ∷ 44 ∷ 58 ∷ 59 ∷ 0 ∷ 10 ∷ 11 ∷ 12 ∷ 27 ∷ 59 ∷ 61 ∷ 0 ∷ 11 ∷ 12 ∷ 13 ∷ 27 ∷ 28 ∷ 30 ∷ 2 ∷ 25 ∷ 26 ∷ 98 ∷ 2 ∷ 26
    ∷ 2 ∷ 84 ∷ 2 ∷ 15 ∷ 26 ∷ 71 ∷ 2 ∷ 15 ∷ 2 ∷ 15 ∷ 16 ∷ 93 ∷ 20 ∷ 79 ∷ 20 ∷ 21 ∷ 21 ∷ 64 ∷ 1 ∷ 17 ∷ 18 ∷ 74 ∷ 1 ∷ 18 ∷ 1 ∷ 54 ∷ 1 ∷ 18 ∷ 23 ∷ 95 ∷ 1 ∷ 23 ∷ 1 ∷ 23 ∷ 24 ∷ 69 ∷ 12 ∷ 61 ∷ 12 ∷ 13
    ∷ 13 ∷ 88 ∷ 2 ∷ 21 ∷ 22 ∷ 86 ∷ 2 ∷ 22 ∷ 2 ∷ 96 ∷ 2 ∷ 7 ∷ 22 ∷ 41 ∷ 2 ∷ 7 ∷ 2 ∷ 7 ∷ 8 ∷ 81 ∷ 24 ∷ 91 ∷ 24 ∷ 25 ∷ 25 ∷ 46 ∷ 4 ∷ 37 ∷ 4 ∷ 5 ∷ 5 ∷ 76 ∷ 0 ∷ 9 ∷ 10 ∷ 44 ∷ 0 ∷ 10 ∷ 0 ∷ 30
    ∷ 0 ∷ 10 ∷ 19 ∷ 83 ∷ 0 ∷ 19 ∷ 0 ∷ 19 ∷ 20 ∷ 39 ∷ 16 ∷ 67 ∷ 16 ∷ 17 ∷ 17 ∷ 34 ∷ 1 ∷ 13 ∷ 14 ∷ 56 ∷ 1 ∷ 14 ∷ 1 ∷ 72 ∷ 1 ∷ 3 ∷ 14 ∷ 29 ∷ 1 ∷ 3 ∷ 1 ∷ 3 ∷ 4 ∷ 51 ∷ 8 ∷ 49 ∷ 8 ∷ 9 ∷ 9 ∷ 58
    ∷ 0 ∷ 5 ∷ 6 ∷ 32 ∷ 0 ∷ 6 ∷ 0 ∷ 42 ∷ 0 ∷ 6 ∷ 11 ∷ 53 ∷ 0 ∷ 11 ∷ 0 ∷ 11 ∷ 12 ∷ 27 ∷ []

unfoldable pub places : List ℕ
places =
    0 ∷ 0 ∷ 0 ∷ 1 ∷ 0 ∷ 0 ∷ 2 ∷ 0 ∷ 0 ∷ 0 ∷ 1 ∷ 0 ∷ 0 ∷ 1 ∷ 0 ∷ 0 ∷ 1 ∷ 0 ∷ 0 ∷ 1 ∷ 0 ∷ 0 ∷ 2 ∷ 0 ∷ 0 ∷ 2 ∷ 0 ∷ 0 ∷ 2 ∷ 0 ∷ 0 ∷ 2 ∷ 0 ∷ 1 ∷ 0 ∷ 0 ∷ 1 ∷ 0 ∷ 0 ∷ 1
    ∷ 0 ∷ 0 ∷ 1 ∷ 0 ∷ 0 ∷ 1 ∷ 2 ∷ 0 ∷ 1 ∷ 2 ∷ 0 ∷ 1 ∷ 2 ∷ 0 ∷ 1 ∷ 2 ∷ 0 ∷ 2 ∷ 0 ∷ 0 ∷ 2 ∷ 0 ∷ 0 ∷ 2 ∷ 0 ∷ 0 ∷ 2 ∷ 0 ∷ 0 ∷ 2 ∷ 1 ∷ 0 ∷ 2 ∷ 1 ∷ 0 ∷ 2 ∷ 1 ∷ 0 ∷ 2 ∷ 1
    ∷ 0 ∷ 0 ∷ 1 ∷ 0 ∷ 0 ∷ 1 ∷ 0 ∷ 0 ∷ 1 ∷ 0 ∷ 0 ∷ 1 ∷ 0 ∷ 0 ∷ 1 ∷ 0 ∷ 0 ∷ 1 ∷ 0 ∷ 0 ∷ 1 ∷ 2 ∷ 0 ∷ 1 ∷ 2 ∷ 0 ∷ 1 ∷ 2 ∷ 0 ∷ 1 ∷ 2 ∷ 0 ∷ 1 ∷ 2 ∷ 0 ∷ 1 ∷ 2 ∷ 0 ∷ 2 ∷ 0
    ∷ 0 ∷ 2 ∷ 0 ∷ 0 ∷ 2 ∷ 0 ∷ 0 ∷ 2 ∷ 0 ∷ 0 ∷ 2 ∷ 0 ∷ 0 ∷ 2 ∷ 0 ∷ 0 ∷ 2 ∷ 1 ∷ 0 ∷ 2 ∷ 1 ∷ 0 ∷ 2 ∷ 1 ∷ 0 ∷ 2 ∷ 1 ∷ 0 ∷ 2 ∷ 1 ∷ 0 ∷ 2 ∷ 1 ∷ 1 ∷ 0 ∷ 1 ∷ 1 ∷ 0 ∷ 1 ∷ 1
    ∷ 0 ∷ 1 ∷ 1 ∷ 0 ∷ 1 ∷ 1 ∷ 0 ∷ 1 ∷ 1 ∷ 0 ∷ 1 ∷ 1 ∷ 0 ∷ 2 ∷ 1 ∷ 0 ∷ 2 ∷ 1 ∷ 0 ∷ 2 ∷ 1 ∷ 0 ∷ 2 ∷ 1 ∷ 0 ∷ 2 ∷ 1 ∷ 0 ∷ 2 ∷ 1 ∷ 2 ∷ 0 ∷ 1 ∷ 2 ∷ 0 ∷ 1 ∷ 2 ∷ 0 ∷ 1 ∷ 2
    ∷ 0 ∷ 1 ∷ 2 ∷ 0 ∷ 1 ∷ 2 ∷ 0 ∷ 1 ∷ 2 ∷ 1 ∷ 1 ∷ 2 ∷ 1 ∷ 1 ∷ 2 ∷ 1 ∷ 1 ∷ 2 ∷ 1 ∷ 1 ∷ 2 ∷ 1 ∷ 1 ∷ 2 ∷ 1 ∷ 2 ∷ 0 ∷ 1 ∷ 2 ∷ 0 ∷ 1 ∷ 2 ∷ 0 ∷ 1 ∷ 2 ∷ 0 ∷ 1 ∷ 2 ∷ 0 ∷ 1
    ∷ 2 ∷ 0 ∷ 1 ∷ 2 ∷ 0 ∷ 2 ∷ 2 ∷ 0 ∷ 2 ∷ 2 ∷ 0 ∷ 2 ∷ 2 ∷ 0 ∷ 2 ∷ 2 ∷ 0 ∷ 2 ∷ 2 ∷ 0 ∷ 2 ∷ 2 ∷ 1 ∷ 0 ∷ 2 ∷ 1 ∷ 0 ∷ 2 ∷ 1 ∷ 0 ∷ 2 ∷ 1 ∷ 0 ∷ 2 ∷ 1 ∷ 0 ∷ 2 ∷ 1 ∷ 0 ∷ 2
    ∷ 1 ∷ 2 ∷ 2 ∷ 1 ∷ 2 ∷ 2 ∷ 1 ∷ 2 ∷ 2 ∷ 1 ∷ 2 ∷ 2 ∷ 1 ∷ 2 ∷ 2 ∷ 1 ∷ 2 ∷ []

unfoldable pub moments : List ℕ
moments =
    0 ∷ 0 ∷ 0 ∷ 0 ∷ 0 ∷ 0 ∷ 0 ∷ 0 ∷ 0 ∷ 0 ∷ 1 ∷ 0 ∷ 0 ∷ 2 ∷ 0 ∷ 0 ∷ 3 ∷ 0 ∷ 0 ∷ 4 ∷ 0 ∷ 0 ∷ 1 ∷ 0 ∷ 0 ∷ 2 ∷ 0 ∷ 0 ∷ 3 ∷ 0 ∷ 0 ∷ 4 ∷ 0 ∷ 0 ∷ 1 ∷ 0 ∷ 0 ∷ 2 ∷ 0 ∷ 0
    ∷ 3 ∷ 0 ∷ 0 ∷ 4 ∷ 0 ∷ 0 ∷ 1 ∷ 0 ∷ 0 ∷ 2 ∷ 0 ∷ 0 ∷ 3 ∷ 0 ∷ 0 ∷ 4 ∷ 0 ∷ 0 ∷ 1 ∷ 0 ∷ 0 ∷ 2 ∷ 0 ∷ 0 ∷ 3 ∷ 0 ∷ 0 ∷ 4 ∷ 0 ∷ 0 ∷ 1 ∷ 0 ∷ 0 ∷ 2 ∷ 0 ∷ 0 ∷ 3 ∷ 0 ∷ 0 ∷ 4
    ∷ 0 ∷ 0 ∷ 1 ∷ 2 ∷ 0 ∷ 1 ∷ 3 ∷ 0 ∷ 1 ∷ 4 ∷ 0 ∷ 2 ∷ 3 ∷ 0 ∷ 2 ∷ 4 ∷ 0 ∷ 3 ∷ 4 ∷ 0 ∷ 1 ∷ 2 ∷ 0 ∷ 1 ∷ 3 ∷ 0 ∷ 1 ∷ 4 ∷ 0 ∷ 2 ∷ 3 ∷ 0 ∷ 2 ∷ 4 ∷ 0 ∷ 3 ∷ 4 ∷ 0 ∷ 1 ∷ 2
    ∷ 0 ∷ 1 ∷ 3 ∷ 0 ∷ 1 ∷ 4 ∷ 0 ∷ 2 ∷ 3 ∷ 0 ∷ 2 ∷ 4 ∷ 0 ∷ 3 ∷ 4 ∷ 0 ∷ 1 ∷ 2 ∷ 0 ∷ 1 ∷ 3 ∷ 0 ∷ 1 ∷ 4 ∷ 0 ∷ 2 ∷ 3 ∷ 0 ∷ 2 ∷ 4 ∷ 0 ∷ 3 ∷ 4 ∷ 0 ∷ 1 ∷ 2 ∷ 0 ∷ 1 ∷ 3 ∷ 0
    ∷ 1 ∷ 4 ∷ 0 ∷ 2 ∷ 3 ∷ 0 ∷ 2 ∷ 4 ∷ 0 ∷ 3 ∷ 4 ∷ 0 ∷ 1 ∷ 2 ∷ 0 ∷ 1 ∷ 3 ∷ 0 ∷ 1 ∷ 4 ∷ 0 ∷ 2 ∷ 3 ∷ 0 ∷ 2 ∷ 4 ∷ 0 ∷ 3 ∷ 4 ∷ 0 ∷ 1 ∷ 2 ∷ 0 ∷ 1 ∷ 3 ∷ 0 ∷ 1 ∷ 4 ∷ 0 ∷ 2
    ∷ 3 ∷ 0 ∷ 2 ∷ 4 ∷ 0 ∷ 3 ∷ 4 ∷ 0 ∷ 1 ∷ 2 ∷ 0 ∷ 1 ∷ 3 ∷ 0 ∷ 1 ∷ 4 ∷ 0 ∷ 2 ∷ 3 ∷ 0 ∷ 2 ∷ 4 ∷ 0 ∷ 3 ∷ 4 ∷ 0 ∷ 1 ∷ 2 ∷ 0 ∷ 1 ∷ 3 ∷ 0 ∷ 1 ∷ 4 ∷ 0 ∷ 2 ∷ 3 ∷ 0 ∷ 2 ∷ 4
    ∷ 0 ∷ 3 ∷ 4 ∷ 0 ∷ 1 ∷ 2 ∷ 0 ∷ 1 ∷ 3 ∷ 0 ∷ 1 ∷ 4 ∷ 0 ∷ 2 ∷ 3 ∷ 0 ∷ 2 ∷ 4 ∷ 0 ∷ 3 ∷ 4 ∷ 0 ∷ 1 ∷ 2 ∷ 0 ∷ 1 ∷ 3 ∷ 0 ∷ 1 ∷ 4 ∷ 0 ∷ 2 ∷ 3 ∷ 0 ∷ 2 ∷ 4 ∷ 0 ∷ 3 ∷ 4 ∷ 0
    ∷ 1 ∷ 2 ∷ 0 ∷ 1 ∷ 3 ∷ 0 ∷ 1 ∷ 4 ∷ 0 ∷ 2 ∷ 3 ∷ 0 ∷ 2 ∷ 4 ∷ 0 ∷ 3 ∷ 4 ∷ []

-- ---- routes

-- the route of a number, as the tables have it
unfoldable pub table_route : ℕ → SmallRoute
table_route r = route_with (take (stop_count r) (drop (3 * r) places)) (take (stop_count r) (drop (3 * r) moments))

routes_right : checked_routes ≡ list_below 99 table_route
unfolding checked_routes small_routes flat_map map tuples filter route_checked all_below list_below table_route stop_count places moments
routes_right = refl

pub route_is : (r : ℕ) → r < 99 → checked_route_at r ≡ table_route r
unfolding checked_route_at
route_is r h = ap (λ (l : List SmallRoute). get_or l r (route_with [] [])) routes_right ∙ get_d_list_below 99 table_route (route_with [] []) r h

-- ---- plans

unfoldable pub listed : List ℕ → List ℕ → List SmallPlan
listed [] ss = []
listed (f ∷ fs) [] = []
listed (f ∷ fs) (s ∷ ss) = plan_with (table_route f) (table_route s) ∷ listed fs ss

plans_right : computed ≡ listed firsts seconds
unfolding checked_routes small_routes flat_map map tuples filter route_checked gone routes_apart all_below listed table_route stop_count places moments firsts seconds
plans_right = refl

pub plans_listed : small_plans ≡ listed firsts seconds
plans_listed = plans_computed ∙ plans_right

listed_at : (fs ss : List ℕ) (d : SmallPlan) (k : ℕ) → k < length fs → k < length ss → get_or (listed fs ss) k d ≡ plan_with (table_route (at fs k)) (table_route (at ss k))
unfolding listed
listed_at [] ss d k a b = absurd (omega arith)
listed_at (f ∷ fs) [] d k a b = absurd (omega arith)
listed_at (f ∷ fs) (s ∷ ss) d zero a b = refl
listed_at (f ∷ fs) (s ∷ ss) d (suc k) a b = listed_at fs ss d k (omega arith) (omega arith)

pub plans_many : length small_plans ≡ 378
unfolding listed firsts seconds
plans_many = ap (λ (l : List SmallPlan). length l) plans_listed

-- ---- each entry

firsts-right : all_below 378 (λ k. ltb (at firsts k) 99) ≡ true
unfolding all_below firsts
firsts-right = refl

seconds_right : all_below 378 (λ k. ltb (at seconds k) 99) ≡ true
unfolding all_below seconds
seconds_right = refl

firsts_long : length firsts ≡ 378
unfolding firsts
firsts_long = refl

seconds_long : length seconds ≡ 378
unfolding seconds
seconds_long = refl

plan_is : (k : ℕ) → k < 378 → plan_at k ≡ plan_with (table_route (at firsts k)) (table_route (at seconds k))
plan_is k h = ap (λ (l : List SmallPlan). get_or l k (plan_with (route_with [] []) (route_with [] []))) plans_listed ∙ listed_at firsts seconds (plan_with (route_with [] []) (route_with [] [])) k (omega (arith, firsts_long)) (omega (arith, seconds_long))

pub first_right : (k r : ℕ) → k < 378 → r ≡ at firsts k → (r < 99) × ((plan_at k).first ≡ checked_route_at r)
first_right k r h e =
    let l : r < 99 = omega (arith, e, ltb-true (at firsts k) 99 (all_below-at 378 _ firsts-right k h)) in
    (l, ap (λ (p : SmallPlan). p.first) (plan_is k h) ∙ (ap table_route (sym e) ∙ sym (route_is r l)))

pub second_right : (k r : ℕ) → k < 378 → r ≡ at seconds k → (r < 99) × ((plan_at k).second ≡ checked_route_at r)
second_right k r h e =
    let l : r < 99 = omega (arith, e, ltb-true (at seconds k) 99 (all_below-at 378 _ seconds_right k h)) in
    (l, ap (λ (p : SmallPlan). p.second) (plan_is k h) ∙ (ap table_route (sym e) ∙ sym (route_is r l)))

counts_right : all_below 99 (λ r. eqb (route_length (table_route r)) (stop_count r)) ≡ true
unfolding all_below table_route stop_count places moments
counts_right = refl

pub stops_are : (r : ℕ) → r < 99 → route_length (table_route r) ≡ stop_count r
stops_are r h = eqb-true (route_length (table_route r)) (stop_count r) (all_below-at 99 _ counts_right r h)
