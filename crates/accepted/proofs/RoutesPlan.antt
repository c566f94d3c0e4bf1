-- The plan that routes make, and the plan in lists that hold these routes and their dependencies, agree. What was read of a text is cut into its routes again.
use mathlib.Core.Path.{◌≡◌, refl, sym, ap, ◌∙◌, subst, fun_ext}
use mathlib.Core.Logic.{◌↔◌}
use mathlib.Core.Bool.{Bool, true}
use mathlib.Core.List.{List, [], ◌∷◌, ◌++◌}
use Prim.Native.Nat.{ℕ, zero, suc, ◌+◌, ◌-◌, ◌≤◌, ◌<◌}
use native.Mathlib.Nat.{zero-add}
use native.Mathlib.Omega.{arith}
use lib.ListN.{length, get_or-append}
use lib.Seq.{take_at, drop_at, get_or-append-add}
use Rattle.below.specs.Below.{at}
use Rattle.below.proofs.Sum.{sum_first}
use Rattle.tables.specs.Limits.{Limits}
use Rattle.tables.specs.Legs.{plain_leg, leg_right}
use Rattle.tables.specs.Tables.{PlanLists, drones, dependencies}
use Rattle.lines.specs.Names.{row_of}
use Rattle.near.specs.Near.{meets_in}
use Rattle.lines.proofs.LegLaws.{plain_only}
use Rattle.lines.proofs.NameRoundTrip.{name_of_row}
use Rattle.text.specs.LinesRead.{LinesRead, lines_at}
use Rattle.text.specs.Written.{Route, rows_of, counts_of, locations_of, times_of, legs_of, lines_of, InLimitsFrom, InLimits, routes_from}
use Rattle.text.proofs.DroneTaken.{range_long}
use Rattle.text.proofs.Sizes.{counts_total}
use Rattle.plan.specs.Stops.{start, owner, stop_number}
use Rattle.plan.specs.Visits.{Visits, visits_with}
use Rattle.plan.specs.Answers.{check_of}
use Rattle.plan.specs.Dependencies.{flag_of, dependency_total, column}
use Rattle.plan.specs.Field.{FieldPlan, Checked, PlansAgree, meets_of, plan_of}
use Rattle.plan.specs.Claims.{owner_in, number_in, location_in, time_in, leg_in, stop_total, visits_in, HaveStops, HoldsPlanned, StopsChecked, Collides, Never}
use Rattle.plan.proofs.Numbering.{start_none, owner_in_lem, number_is, number_in_lem, place_in}
use Rattle.plan.proofs.Claims.{accepted_claims}
use Rattle.plan.proofs.PlansAgree.{agree_back, agree_stops, agree_never, agree_checked, start-same, owner-same, number_same, passes_exactly}
use Rattle.plan.proofs.Agree.{total-same, column-same, flag_same, check_same}
use Rattle.accepted.specs.TextPlan.{route_at, stops_in, owner_of, stop_number_of, routes_visits, dependency_list, routes_plan, lines_routes, text_routes, text_form}
use Rattle.accepted.proofs.Routes.{counts_some, route_range, InRange, range_at}
use Rattle.lines.specs.declared.refusal.Refusal.{Refusal as LineRefusal}
use Rattle.std.specs.Prelude.{Result}

-- ---- one route among all

count_of : (ds : List Route) (d : ℕ) → at (counts_of ds) d ≡ length (route_at ds d).locations
count_of [] d = refl
count_of (r ∷ ds) zero = refl
count_of (r ∷ ds) (suc d) = count_of ds d

pub start-after : (m : ℕ) (ms : List ℕ) (d : ℕ) → start (m ∷ ms) (suc d) ≡ m + start ms d
unfolding start
start-after m ms d = sum_first d (at (m ∷ ms))

-- lists with an entry for each stop, one after another: entry s of drone d's list is that of its stop s, numbered through
entry_of : (f : Route → List ℕ) (all : List Route → List ℕ) → ((r : Route) (rs : List Route) → all (r ∷ rs) ≡ f r ++ all rs)
    → (ds : List Route) → ((d : ℕ) → d < length ds → length (f (route_at ds d)) ≡ length (route_at ds d).locations)
    → (d s : ℕ) → d < length ds → s < length (route_at ds d).locations → at (all ds) (start (counts_of ds) d + s) ≡ at (f (route_at ds d)) s
entry_of f all joins [] long d s l k = absurd (omega arith)
entry_of f all joins (r ∷ ds) long zero s l k = rw (start_none (counts_of (r ∷ ds)), zero-add s, joins r ds) (get_or-append (f r) (all ds) 0 s (omega (arith, long 0 l)))
entry_of f all joins (r ∷ ds) long (suc d) s l k =
    let e : start (counts_of (r ∷ ds)) (suc d) + s ≡ length (f r) + (start (counts_of ds) d + s) = omega (arith, start-after (length r.locations) (counts_of ds) d, long 0 (omega arith)) in
    rw (e, joins r ds) (get_or-append-add (f r) (all ds) (start (counts_of ds) d + s) 0 ∙ entry_of f all joins ds (λ e h. long (suc e) (omega arith)) d s (omega arith) k)

-- as many times and legs as locations
module _ (L : Limits) (form : ℕ) (ds : List Route) (v : InLimits L form ds) where
  lists_long : (d : ℕ) → d < length ds → (length (route_at ds d).times ≡ length (route_at ds d).locations) × (length (route_at ds d).legs ≡ length (route_at ds d).locations)
  lists_long d l = range_long L form 0 (route_at ds d).locations (route_at ds d).times (route_at ds d).legs (route_range L form ds [] 0 v.2 d l)

  location_of : (d s : ℕ) → d < length ds → s < length (route_at ds d).locations → at (locations_of ds) (start (counts_of ds) d + s) ≡ at (route_at ds d).locations s
  location_of = entry_of (λ (r : Route). r.locations) locations_of (λ r rs. refl) ds (λ d l. refl)

  time_of : (d s : ℕ) → d < length ds → s < length (route_at ds d).locations → at (times_of ds) (start (counts_of ds) d + s) ≡ at (route_at ds d).times s
  time_of = entry_of (λ (r : Route). r.times) times_of (λ r rs. refl) ds (λ d l. (lists_long d l).0)

  leg_of : (d s : ℕ) → d < length ds → s < length (route_at ds d).locations → at (legs_of ds) (start (counts_of ds) d + s) ≡ at (route_at ds d).legs s
  leg_of = entry_of (λ (r : Route). r.legs) legs_of (λ r rs. refl) ds (λ d l. (lists_long d l).1)

  -- stop s of drone d is in range
  route_in_range : (d s : ℕ) → d < length ds → s < length (route_at ds d).locations → InRange L form s (at (route_at ds d).locations s) (at (route_at ds d).times s) (at (route_at ds d).legs s)
  route_in_range d s l k =
      subst (λ (x : ℕ). InRange L form x (at (route_at ds d).locations s) (at (route_at ds d).times s) (at (route_at ds d).legs s)) (zero-add s)
      (range_at L form 0 (route_at ds d).locations (route_at ds d).times (route_at ds d).legs (route_range L form ds [] 0 v.2 d l) s k)

  -- each stop, numbered through, is in range
  pub stop-in_range : (u : ℕ) → u < stops_in ds → InRange L form (stop_number_of ds u) (at (locations_of ds) u) (at (times_of ds) u) (at (legs_of ds) u)
  stop-in_range u l =
      let d : ℕ = owner_of ds u in
      let s : ℕ = stop_number_of ds u in
      let i : d < length ds = owner_in_lem (length ds) (counts_of ds) u l in
      let k : s < length (route_at ds d).locations = omega (arith, number_in_lem (length ds) (counts_of ds) u l, count_of ds d) in
      let (a, b, c) = route_in_range d s i k in
      let here : InRange L form s (at (locations_of ds) (start (counts_of ds) d + s)) (at (times_of ds) (start (counts_of ds) d + s)) (at (legs_of ds) (start (counts_of ds) d + s)) =
      (omega (arith, a, location_of d s i k), omega (arith, b, time_of d s i k), ap (leg_right L form s) (leg_of d s i k) ∙ c) in
      subst (λ (x : ℕ). InRange L form s (at (locations_of ds) x) (at (times_of ds) x) (at (legs_of ds) x)) (number_is (length ds) (counts_of ds) u l) here

-- ---- lists that hold routes

-- the lists hold the stops of the routes, and pairs by which the same locations meet
pub record HoldsStops (meets : ℕ → ℕ → Bool) (ds : List Route) (p : PlanLists) : Type 0 where
  pub meets_are : (a b : ℕ) → meets_of p a b ≡ meets a b
  pub drones_are : drones p ≡ length ds
  pub counts_are : (d : ℕ) → d < length ds → at p.stop_counts d ≡ at (counts_of ds) d
  pub locations_are : (v : ℕ) → v < length (locations_of ds) → at p.locations v ≡ at (locations_of ds) v
  pub times_are : (v : ℕ) → v < length (locations_of ds) → at p.times v ≡ at (times_of ds) v
  pub legs_are : (v : ℕ) → v < length (locations_of ds) → at p.legs v ≡ at (legs_of ds) v

-- the first n stops of lists
abbrev held_visits : PlanLists → ℕ → Visits
held_visits p n = visits_with (meets_of p) (owner_in p) (number_in p) (location_in p) (time_in p) n

module _ (L : Limits) (form : ℕ) (ds : List Route) (v : InLimits L form ds) where
  pub stops_many : stops_in ds ≡ length (locations_of ds)
  unfolding start
  stops_many = counts_total ds

  -- each drone has a stop
  pub some_stop : (d : ℕ) → d < length ds → 1 ≤ at (counts_of ds) d
  some_stop d l = counts_some L form ds [] 0 v.2 d l

  -- "A `plan=1` text reads as legs of one, 0 at stop 0"
  pub routes_plain : (meets : ℕ → ℕ → Bool) → form ≡ 1 → (d s : ℕ) → d < length ds → s ≤ (routes_plan meets ds).last d → (routes_plan meets ds).leg d s ≡ plain_leg s
  routes_plain meets one d s l k =
      let g : ℕ = at (route_at ds d).legs s in
      plain_only L s g (subst (λ (f : ℕ). leg_right L f s g ≡ true) one (route_in_range L form ds v d s l (omega (arith, some_stop d l, count_of ds d))).2)

  module _ {meets : ℕ → ℕ → Bool} (p : PlanLists) (h : HoldsStops meets ds p) where
    meets_is : meets_of p ≡ meets
    meets_is = fun_ext (λ a. fun_ext (λ b. h.meets_are a b))

    pub held_stops : HaveStops p
    held_stops d l = let k : d < length ds = omega (arith, h.drones_are) in omega (arith, some_stop d k, h.counts_are d k)

    pub owners_are : (u : ℕ) → owner_in p u ≡ owner_of ds u
    owners_are u = ap (λ (n : ℕ). owner n p.stop_counts u) h.drones_are ∙ owner-same (length ds) p.stop_counts (counts_of ds) h.counts_are u

    pub numbers_are : (u : ℕ) → number_in p u ≡ stop_number_of ds u
    numbers_are u = ap (λ (n : ℕ). stop_number n p.stop_counts u) h.drones_are ∙ number_same (length ds) p.stop_counts (counts_of ds) h.counts_are u

    starts_are : (d : ℕ) → d ≤ length ds → start p.stop_counts d ≡ start (counts_of ds) d
    starts_are = start-same (length ds) p.stop_counts (counts_of ds) h.counts_are

    pub stops_are : stop_total p ≡ stops_in ds
    stops_are = ap (start p.stop_counts) h.drones_are ∙ starts_are (length ds) (omega arith)

    location_is : (u : ℕ) → u < stops_in ds → location_in p u ≡ at (locations_of ds) u
    location_is u l = h.locations_are u (omega (arith, stops_many))

    time_is : (u : ℕ) → u < stops_in ds → time_in p u ≡ at (times_of ds) u
    time_is u l = h.times_are u (omega (arith, stops_many))

    leg_is : (u : ℕ) → u < stops_in ds → leg_in p u ≡ at (legs_of ds) u
    leg_is u l = h.legs_are u (omega (arith, stops_many))

    -- as many dependencies as the routes make, and the same ones
    pub held_total : dependency_total (visits_in p) ≡ (routes_plan meets ds).count
    held_total = ap (λ (n : ℕ). dependency_total (held_visits p n)) stops_are
        ∙ total-same (held_visits p (stops_in ds)) (owner_of ds) (stop_number_of ds) (at (locations_of ds)) (at (times_of ds)) (λ u l. owners_are u) location_is time_is
        ∙ ap (λ (m : ℕ → ℕ → Bool). dependency_total (routes_visits m ds)) meets_is

    pub held_column : (f g : ℕ → ℕ → ℕ) → ((u w : ℕ) → f u w ≡ g u w) → column (visits_in p) f ≡ dependency_list meets ds g
    held_column f g e = ap (λ (n : ℕ). column (held_visits p n) f) stops_are
        ∙ column-same (held_visits p (stops_in ds)) (owner_of ds) (stop_number_of ds) (at (locations_of ds)) (at (times_of ds)) (λ u l. owners_are u) location_is time_is f g (λ u w l k. e u w)
        ∙ ap (λ (m : ℕ → ℕ → Bool). dependency_list m ds g) meets_is

    -- .. with the same flag bytes; and the plan check says of the lists what it says of the routes
    pub held_flags : column (visits_in p) (flag_of (owner_in p) (number_in p) (stop_total p)) ≡ dependency_list meets ds (flag_of (owner_of ds) (stop_number_of ds) (stops_in ds))
    held_flags = ap (λ (n : ℕ). column (held_visits p n) (flag_of (owner_in p) (number_in p) n)) stops_are
        ∙ column-same (held_visits p (stops_in ds)) (owner_of ds) (stop_number_of ds) (at (locations_of ds)) (at (times_of ds)) (λ u l. owners_are u) location_is time_is _ _
        (flag_same (held_visits p (stops_in ds)) (owner_of ds) (stop_number_of ds) (at (locations_of ds)) (at (times_of ds)) (λ u l. owners_are u) location_is time_is (λ u l. numbers_are u))
        ∙ ap (λ (m : ℕ → ℕ → Bool). dependency_list m ds (flag_of (owner_of ds) (stop_number_of ds) (stops_in ds))) meets_is

    pub held_check : check_of (visits_in p) (leg_in p) ≡ check_of (routes_visits meets ds) (at (legs_of ds))
    held_check = ap (λ (n : ℕ). check_of (held_visits p n) (leg_in p)) stops_are
        ∙ check_same (held_visits p (stops_in ds)) (owner_of ds) (stop_number_of ds) (at (locations_of ds)) (at (times_of ds)) (λ u l. owners_are u) location_is time_is (λ u l. numbers_are u) (leg_in p) (at (legs_of ds)) leg_is
        ∙ ap (λ (m : ℕ → ℕ → Bool). check_of (routes_visits m ds) (at (legs_of ds))) meets_is

    -- a list with an entry for each stop
    stop_entry : (l xs : List ℕ) → ((u : ℕ) → u < length (locations_of ds) → at l u ≡ at xs u) → (d s : ℕ) → d < length ds → s ≤ length (route_at ds d).locations - 1
        → (own : List ℕ) → (s < length (route_at ds d).locations → at xs (start (counts_of ds) d + s) ≡ at own s) → at own s ≡ at l (start p.stop_counts d + s)
    stop_entry l xs same d s i k own e =
        let m : s < length (route_at ds d).locations = omega (arith, some_stop d i, count_of ds d) in
        let inside : start (counts_of ds) d + s < length (locations_of ds) = omega (arith, stops_many, place_in (length ds) (counts_of ds) d s i (omega (arith, count_of ds d))) in
        sym (e m) ∙ (sym (same (start (counts_of ds) d + s) inside) ∙ ap (λ (n : ℕ). at l (n + s)) (sym (starts_are d (omega arith))))

    pub held_agree : HoldsPlanned p → PlansAgree (routes_plan meets ds) (plan_of p)
    held_agree own = record {
      drones_agree = sym h.drones_are;
      lasts_agree = λ d l. ap (λ (m : ℕ). m - 1) (sym (count_of ds d) ∙ sym (h.counts_are d l));
      locations_agree = λ d s l k. stop_entry p.locations (locations_of ds) h.locations_are d s l k (route_at ds d).locations (location_of L form ds v d s l);
      times_agree = λ d s l k. stop_entry p.times (times_of ds) h.times_are d s l k (route_at ds d).times (time_of L form ds v d s l);
      legs_agree = λ d s l k. stop_entry p.legs (legs_of ds) h.legs_are d s l k (route_at ds d).legs (leg_of L form ds v d s l);
      meets_agree = λ a b. sym (h.meets_are a b);
      counts_agree = sym held_total ∙ sym own.total;
      dependencies_agree = λ w l.
          let k : w < dependencies p = omega (arith, held_total, own.total) in
          λ i. record {
            first = (entry (λ u w. owner_in p u) (λ u w. owner_of ds u) (λ u w. owners_are u) w ∙ sym (own.first_drones_lem w k)) i;
            first_stop = (entry (λ u w. number_in p u) (λ u w. stop_number_of ds u) (λ u w. numbers_are u) w ∙ sym (own.first_stops_lem w k)) i;
            second = (entry (λ u w. owner_in p w) (λ u w. owner_of ds w) (λ u w. owners_are w) w ∙ sym (own.second_drones_lem w k)) i;
            second_stop = (entry (λ u w. number_in p w) (λ u w. stop_number_of ds w) (λ u w. numbers_are w) w ∙ sym (own.second_stops_lem w k)) i;
          };
    }
      where
        entry : (f g : ℕ → ℕ → ℕ) → ((u w : ℕ) → f u w ≡ g u w) → (w : ℕ) → at (dependency_list meets ds g) w ≡ at (column (visits_in p) f) w
        entry f g e w = ap (λ (c : List ℕ). at c w) (sym (held_column f g e))

-- ---- lists made of routes

abbrev lists_of : List ℕ → List Route → PlanLists
lists_of pairs ds = record {
  drone_count = length ds ∷ [];
  dependency_count = (routes_plan (meets_in pairs) ds).count ∷ [];
  form = [];
  names = [];
  stop_counts = counts_of ds;
  locations = locations_of ds;
  times = times_of ds;
  legs = legs_of ds;
  first_drones = dependency_list (meets_in pairs) ds (λ v w. owner_of ds v);
  first_stops = dependency_list (meets_in pairs) ds (λ v w. stop_number_of ds v);
  second_drones = dependency_list (meets_in pairs) ds (λ v w. owner_of ds w);
  second_stops = dependency_list (meets_in pairs) ds (λ v w. stop_number_of ds w);
  pairs = pairs;
}

lists_hold : (pairs : List ℕ) (ds : List Route) → HoldsStops (meets_in pairs) ds (lists_of pairs ds)
lists_hold pairs ds = record { meets_are = λ a b. refl; drones_are = refl; counts_are = λ d l. refl; locations_are = λ v l. refl; times_are = λ v l. refl; legs_are = λ v l. refl }

lists_own : (pairs : List ℕ) (ds : List Route) → HoldsPlanned (lists_of pairs ds)
lists_own pairs ds = record { total = refl; first_drones_lem = λ k l. refl; first_stops_lem = λ k l. refl; second_drones_lem = λ k l. refl; second_stops_lem = λ k l. refl }

-- the single stops' rules and 004's Definition 1 are the plan check
pub rules_checked : (L : Limits) (form : ℕ) (pairs : List ℕ) (ds : List Route) → InLimits L form ds
    → (StopsChecked (routes_plan (meets_in pairs) ds) × Never (routes_plan (meets_in pairs) ds) (Collides (routes_plan (meets_in pairs) ds))) ↔ Checked (routes_plan (meets_in pairs) ds)
rules_checked L form pairs ds v =
    let p : PlanLists = lists_of pairs ds in
    let F : FieldPlan = routes_plan (meets_in pairs) ds in
    let have : HaveStops p = held_stops L form ds v p (lists_hold pairs ds) in
    let to : PlansAgree F (plan_of p) = held_agree L form ds v p (lists_hold pairs ds) (lists_own pairs ds) in
    let back : PlansAgree (plan_of p) F = agree_back to in (
      λ (c, never). agree_checked F (plan_of p) to ((accepted_claims.taken_exactly p have).0 ((passes_exactly p have).1 (agree_stops (plan_of p) F back c, agree_never (plan_of p) F back never))),
      λ c. let (stops, never) = (passes_exactly p have).0 ((accepted_claims.taken_exactly p have).1 (agree_checked (plan_of p) F back c)) in
          (agree_stops F (plan_of p) to stops, agree_never F (plan_of p) to never),
    )

-- the rules of single stops do not ask which locations meet
pub stops_anywhere : (meets others : ℕ → ℕ → Bool) (ds : List Route) → StopsChecked (routes_plan meets ds) → StopsChecked (routes_plan others ds)
stops_anywhere meets others ds c = record { starts = c.starts; rises = c.rises; rises_by_leg = c.rises_by_leg; moves = c.moves }

-- ---- the routes of a text

-- what the tables hold of a valid plan, cut into routes
cut : (L : Limits) (form : ℕ) (ds : List Route) (earlier : List (List ℕ)) (total : ℕ) → InLimitsFrom L form earlier total ds → routes_from (rows_of L ds) (counts_of ds) (locations_of ds) (times_of ds) (legs_of ds) ≡ ds
cut L form [] earlier total v = refl
cut L form (r ∷ ds) earlier total v =
    let m = range_long L form 0 r.locations r.times r.legs v.4 in
    rw (
      name_of_row L r.name v.0,
      take_at r.locations (locations_of ds) (length r.locations) refl,
      take_at r.times (times_of ds) (length r.locations) m.0,
      take_at r.legs (legs_of ds) (length r.locations) m.1,
      drop_at r.locations (locations_of ds) (length r.locations) refl,
      drop_at r.times (times_of ds) (length r.locations) m.0,
      drop_at r.legs (legs_of ds) (length r.locations) m.1,
      cut L form ds (earlier ++ row_of L r.name ∷ []) (total + length r.locations) v.5,
    )

pub routes_read : (L : Limits) (form : ℕ) (text : List ℕ) (ds : List Route) → InLimits L form ds → lines_at L text ≡ lines_of L form ds → text_routes L text ≡ ds
routes_read L form text ds v e = ap lines_routes e ∙ cut L form ds [] 0 v.2

-- .. and its form
pub form_read : (L : Limits) (form : ℕ) (text : List ℕ) (ds : List Route) → lines_at L text ≡ lines_of L form ds → text_form L text ≡ form
form_read L form text ds e = ap (λ (f : LinesRead (Result ℕ LineRefusal)). f.form) e
