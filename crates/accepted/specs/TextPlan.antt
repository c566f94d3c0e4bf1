-- The plan of a plan text, with a site text or without, from their lines alone: nothing of the lent tables goes into it (document 01, "Plan text" and "The graph"; requests 7 and 14). Assumes nothing.
use Rattle.std.specs.Prelude.{Bool, List, [], ◌∷◌, ℕ, zero, suc, ◌-◌, length}
use Rattle.below.specs.Below.{at}
use Rattle.tables.specs.Limits.{Limits}
use Rattle.text.specs.LinesRead.{LinesRead, lines_at}
use Rattle.text.specs.Written.{Route, counts_of, locations_of, times_of, routes_from}
use Rattle.near.specs.Near.{meets_in}
use Rattle.plan.specs.Stops.{start, owner, stop_number}
use Rattle.plan.specs.Visits.{Visits, visits_with}
use Rattle.plan.specs.Dependencies.{dependency_total, column}
use Rattle.plan.specs.Field.{FieldPlan}
use Rattle.reading.specs.Reading.{Site, site_read}
use Rattle.lines.specs.declared.refusal.Refusal.{Refusal as LineRefusal}
use Rattle.std.specs.Prelude.{Result}

-- the route of drone d; one without stops where there is no such drone
abbrev pub route_at : List Route → ℕ → Route
route_at [] d = record { name = []; locations = []; times = []; legs = [] }
route_at (r ∷ rs) zero = r
route_at (r ∷ rs) (suc d) = route_at rs d

module _ (routes : List Route) where
  -- the stops of all routes numbered through, those of drone 0 first: how many they are, and each one's drone and number
  abbrev pub stops_in : ℕ
  stops_in = start (counts_of routes) (length routes)

  abbrev pub owner_of : ℕ → ℕ
  owner_of = owner (length routes) (counts_of routes)

  abbrev pub stop_number_of : ℕ → ℕ
  stop_number_of = stop_number (length routes) (counts_of routes)

-- where some locations meet
module _ (meets : ℕ → ℕ → Bool) (routes : List Route) where
  -- .. with its location and time
  abbrev pub routes_visits : Visits
  routes_visits = visits_with meets (owner_of routes) (stop_number_of routes) (at (locations_of routes)) (at (times_of routes)) (stops_in routes)

  -- f of each dependency of the routes, in order, (v, w) being its two stops
  abbrev pub dependency_list : (ℕ → ℕ → ℕ) → List ℕ
  dependency_list f = column routes_visits f

  -- the plan that the routes make
  abbrev pub routes_plan : FieldPlan
  routes_plan = record {
    drones = length routes;
    last = λ d. length (route_at routes d).locations - 1;
    location = λ d s. at (route_at routes d).locations s;
    time = λ d s. at (route_at routes d).times s;
    leg = λ d s. at (route_at routes d).legs s;
    meets = meets;
    count = dependency_total routes_visits;
    dependency = λ w. record {
      first = at (dependency_list (λ v w. owner_of routes v)) w;
      first_stop = at (dependency_list (λ v w. stop_number_of routes v)) w;
      second = at (dependency_list (λ v w. owner_of routes w)) w;
      second_stop = at (dependency_list (λ v w. stop_number_of routes w)) w;
    };
  }

-- those that lines give
abbrev pub lines_routes : LinesRead (Result ℕ LineRefusal) → List Route
lines_routes f = routes_from f.rows f.counts f.locations f.times f.legs

-- the routes of a text, with its names in small letters
abbrev pub text_routes : Limits → List ℕ → List Route
text_routes L text = lines_routes (lines_at L text)

-- the numbers of the pairs of a site text, none without one; and which locations meet: "when their locations are equal or near"
abbrev pub pairs_on : Limits → Site → List ℕ
pairs_on L s = (site_read L s).numbers

abbrev pub site_meets : Limits → Site → ℕ → ℕ → Bool
site_meets L s = meets_in (pairs_on L s)

-- the plan of a text, on that site
abbrev pub text_plan : Limits → Site → List ℕ → FieldPlan
text_plan L s text = routes_plan (site_meets L s) (text_routes L text)

-- the form of a text: 1 of a `plan=1` text, 2 of a `plan=2` text
abbrev pub text_form : Limits → List ℕ → ℕ
text_form L text = (lines_at L text).form
