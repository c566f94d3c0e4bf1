-- Sound tables hold a plan and pairs whose own texts are accepted, into whatever tables they are read.
use mathlib.Core.Path.{◌≡◌, refl, sym, ap, ◌∙◌, subst}
use mathlib.Core.Bool.{Bool, true, ◌&&◌}
use mathlib.Core.List.{List, [], ◌++◌}
use Prim.Native.Nat.{ℕ, ◌+◌, ◌*◌, ◌^◌, ◌≤◌, ◌<◌}
use native.Mathlib.Nat.{mul-le-mul_right}
use native.Mathlib.Omega.{arith}
use lib.Dec.{ltb, leb}
use borrow.Author.Tests.{ltb-true, ltb-false, le-ltb, leb-true, eqb-true}
use lib.ListN.{length, take}
use lib.Seq.{length-take-le, get_or-take}
use Rattle.below.specs.Below.{at, all_below}
use Rattle.below.proofs.Tests.{by_cases, and_left, and_right}
use Rattle.below.proofs.Every.{all_below-at}
use Rattle.tables.specs.Limits.{Limits, limits, most_pairs}
use Rattle.tables.specs.Legs.{leg_right}
use Rattle.tables.specs.Tables.{PlanLists, Tables, drones, form_of, full_size, Sizes}
use Rattle.tables.proofs.SizeLaws.{full_sizes}
use Rattle.lines.specs.Keys.{first_line, agents_key, last_line}
use Rattle.lines.specs.Stops.{count_line}
use Rattle.near.specs.Near.{pair_count, meets_in, pairs_sound, SoundPairs}
use Rattle.near.proofs.NearLaws.{meets_entries}
use Rattle.site.specs.Claims.{SitePairs}
use Rattle.site.specs.Site.{PairList, site_at}
use Rattle.text.specs.LinesRead.{lines_at}
use Rattle.text.specs.TextWritten.{rows_in, tables_text}
use Rattle.text.specs.Written.{drone_lines, Route, routes_text, locations_of, lines_of, InLimits, routes_from}
use Rattle.text.specs.Claims.{text_bound, RoundTrip}
use Rattle.text.proofs.RoundTrips.{limits-round_trip, limits-room}
use Rattle.plan.specs.Stops.{start}
use Rattle.plan.specs.Field.{FieldPlan, AcceptedPlan, PlansAgree, meets_of, plan_of}
use Rattle.plan.specs.Claims.{HaveStops, StopsChecked, Collides, Never, number_in, stop_total}
use Rattle.plan.proofs.Numbering.{place_in, place_number}
use Rattle.plan.proofs.Claims.{accepted_claims}
use Rattle.plan.proofs.PlansAgree.{start-same, agree_stops, agree_never, passes_exactly}
use Rattle.sound.specs.Sound.{zero_from, name_sound, names_differ, in_range, names_sound, site_sound, lists_sound, plan_accepted_lem}
use Rattle.sound.proofs.Clauses.{Sound, sound-says}
use Rattle.sound.proofs.SiteZeros.{site_indexed}
use Rattle.sound.proofs.Legs.{accepted_form, accepted_legs}
use Rattle.call_log.proofs.SoundParts.{drones_in, have_stops, stops_in_lem, dependencies_in, accepted_plan}
use Rattle.reading.specs.Reading.{given, read_plan}
use Rattle.reading.specs.Replies.{taken as Taken}
use Rattle.accepted.specs.TextPlan.{routes_plan, text_routes, pairs_on}
use Rattle.accepted.specs.Claims.{own_text, own_site, SiteFollows, SoundMeansAccepted}
use Rattle.accepted.proofs.Stored.{at-past}
use Rattle.accepted.proofs.SiteTexts.{sound_numbers, follows_read}
use Rattle.accepted.proofs.Routes.{InRange}
use Rattle.accepted.proofs.RoutesPlan.{HoldsStops, stops_anywhere, held_agree, routes_read, form_read}
use Rattle.accepted.proofs.TablesRoutes.{Cut, cut_back, EachInRange, cut_valid, rows_in_many, sound_row, rows_differ}
use Rattle.accepted.proofs.ReadSound.{left_pairs}
use Rattle.accepted.proofs.Taken.{taken_exactly, follows-own}
use Rattle.site.specs.declared.SiteRefusal.{SiteRefusal}
use Rattle.std.specs.Prelude.{⊤, Result, Ok}

-- ---- the plan in the tables would be accepted: what that says of names and numbers

module _ (L : Limits) (p : PlanLists) (accepted : plan_accepted_lem L p ≡ true) where
  in_range_lem : in_range L p ≡ true
  unfolding plan_accepted_lem
  in_range_lem = and_left _ _ accepted

  lists_sound_lem : lists_sound L p ≡ true
  unfolding plan_accepted_lem
  lists_sound_lem = and_left _ _ (and_right (in_range L p) _ accepted)

  names_sound_lem : names_sound L p ≡ true
  unfolding lists_sound
  names_sound_lem = and_left _ _ lists_sound_lem

  site_sound_lem : site_sound L p ≡ true
  unfolding lists_sound
  site_sound_lem = and_right (names_sound L p) _ lists_sound_lem

  site_clauses : (pairs_sound L p.pairs && zero_from (2 * pair_count p.pairs) (2 * most_pairs) p.pairs) ≡ true
  site_clauses = sym (site_indexed L p) ∙ site_sound_lem

  pub pairs_sound_lem : pairs_sound L p.pairs ≡ true
  pairs_sound_lem = and_left _ _ site_clauses

  pairs_zero : zero_from (2 * pair_count p.pairs) (2 * most_pairs) p.pairs ≡ true
  pairs_zero = and_right (pairs_sound L p.pairs) _ site_clauses

  pub some_drone : 1 ≤ drones p
  unfolding in_range
  some_drone = leb-true 1 (drones p) (and_left _ (leb (drones p) L.drones) (and_left (leb 1 (drones p) && leb (drones p) L.drones) _ in_range_lem))

  stop-in_range : (v : ℕ) → v < stop_total p → InRange L (form_of p) (number_in p v) (at p.locations v) (at p.times v) (at p.legs v)
  unfolding in_range
  stop-in_range v l =
      let after_form_lem = and_right (leb 1 (form_of p) && leb (form_of p) L.form) _ (and_right (leb 1 (drones p) && leb (drones p) L.drones) _ in_range_lem) in
      let after_counts = and_right (all_below (drones p) (λ d. leb 1 (at p.stop_counts d))) _ after_form_lem in
      let h = all_below-at (stop_total p) _ (and_right (leb (stop_total p) L.stops) _ after_counts) v l in
      (leb-true _ _ (and_left _ _ h), leb-true _ _ (and_left _ _ (and_right (leb (at p.locations v) L.location) _ h)), accepted_legs L p accepted v l)

  name_sound_lem : (d : ℕ) → d < drones p → name_sound L p.names d ≡ true
  unfolding names_sound
  name_sound_lem = all_below-at (drones p) _ (and_left _ _ names_sound_lem)

  names_differ_lem : names_differ L p.names (drones p) ≡ true
  unfolding names_sound
  names_differ_lem = and_right (all_below (drones p) (name_sound L p.names)) _ names_sound_lem

-- an entry that is zero
zero-at : (used full : ℕ) (l : List ℕ) → zero_from used full l ≡ true → (i : ℕ) → used ≤ i → i < full → at l i ≡ 0
unfolding zero_from
zero-at used full l h i a b = let q = all_below-at full _ h i b in eqb-true _ 0 (rw (le-ltb i used a) at q)

-- ---- the routes in sound tables

module _ (L : Limits) (t : Tables) (full : full_size L t ≡ true) (clauses : Sound L t) where
  abbrev p : PlanLists
  p = t.plan

  abbrev counts : List ℕ
  counts = take (drones p) p.stop_counts

  abbrev locations : List ℕ
  locations = take (stop_total p) p.locations

  abbrev times : List ℕ
  times = take (stop_total p) p.times

  abbrev legs : List ℕ
  legs = take (stop_total p) p.legs

  abbrev rows : List (List ℕ)
  rows = rows_in L (drones p) p.names

  abbrev pub routes : List Route
  routes = routes_from rows counts locations times legs

  pub sizes : Sizes L t
  sizes = full_sizes L t full

  pub few_drones : drones p ≤ L.drones
  few_drones = drones_in L p clauses.accepted

  pub few_stops : stop_total p ≤ L.stops
  few_stops = stops_in_lem L p clauses.accepted

  have : HaveStops p
  have = have_stops L p clauses.accepted

  counts_long : length counts ≡ drones p
  counts_long = length-take-le (drones p) p.stop_counts (omega (arith, few_drones, sizes.stop_counts_lem))

  locations_long : length locations ≡ stop_total p
  locations_long = length-take-le (stop_total p) p.locations (omega (arith, few_stops, sizes.locations))

  times_long : length times ≡ stop_total p
  times_long = length-take-le (stop_total p) p.times (omega (arith, few_stops, sizes.times))

  legs_long : length legs ≡ stop_total p
  legs_long = length-take-le (stop_total p) p.legs (omega (arith, few_stops, sizes.legs))

  starts : (d : ℕ) → d ≤ drones p → start counts d ≡ start p.stop_counts d
  starts = start-same (drones p) counts p.stop_counts (λ d l. get_or-take (drones p) p.stop_counts d 0 l)

  all_stops : start counts (length counts) ≡ stop_total p
  all_stops = ap (start counts) counts_long ∙ starts (drones p) (omega arith)

  rows_many : length rows ≡ drones p
  rows_many = rows_in_many L (drones p) p.names

  cut : Cut (form_of p) rows counts locations times legs
  cut = cut_back (form_of p) rows counts locations times legs (rows_many ∙ sym counts_long) (locations_long ∙ sym all_stops) (times_long ∙ sym all_stops) (legs_long ∙ sym all_stops)

  pub many : length routes ≡ drones p
  many = cut.many ∙ rows_many

  names_room : drones p * L.name ≤ length p.names
  names_room = omega (arith, sizes.names, mul-le-mul_right L.name few_drones)

  each-in_range : EachInRange L (form_of p) counts locations times legs
  each-in_range d s l k =
      let x : d < drones p = omega (arith, counts_long) in
      let y : s < at p.stop_counts d = omega (arith, k, get_or-take (drones p) p.stop_counts d 0 x) in
      let i : ℕ = start p.stop_counts d + s in
      let m : i < stop_total p = place_in (drones p) p.stop_counts d s x y in
      let (a, b, c) = stop-in_range L p clauses.accepted i m in
      let here : InRange L (form_of p) s (at locations i) (at times i) (at legs i) = (
        omega (arith, a, get_or-take (stop_total p) p.locations i 0 m),
        omega (arith, b, get_or-take (stop_total p) p.times i 0 m),
        ap (leg_right L (form_of p) s) (get_or-take (stop_total p) p.legs i 0 m) ∙ (ap (λ (n : ℕ). leg_right L (form_of p) n (at p.legs i)) (sym (place_number (drones p) p.stop_counts d s x y)) ∙ c),
      ) in
      subst (λ (n : ℕ). InRange L (form_of p) s (at locations (n + s)) (at times (n + s)) (at legs (n + s))) (sym (starts d (omega arith))) here

  -- they are a plan within the limits, in the form that the tables hold
  pub in_limits : InLimits L (form_of p) routes
  in_limits = (
    omega (arith, many, some_drone L p clauses.accepted),
    omega (arith, many, few_drones),
    cut_valid L (form_of p) [] 0 rows counts locations times legs (record {
      good = λ d l. let k : d < drones p = omega (arith, rows_many) in sound_row L (drones p) p.names names_room d k (name_sound_lem L p clauses.accepted d k);
      differ = λ d e l h. rows_differ L (drones p) p.names names_room (names_differ_lem L p clauses.accepted) d e (omega (arith, rows_many)) (omega arith);
      rows_many = rows_many ∙ sym counts_long;
      some = λ d l. let k : d < drones p = omega (arith, counts_long) in omega (arith, have d k, get_or-take (drones p) p.stop_counts d 0 k);
      locations_many = locations_long ∙ sym all_stops;
      times_many = times_long ∙ sym all_stops;
      legs_many = legs_long ∙ sym all_stops;
      within = omega (arith, all_stops, few_stops);
      range = each-in_range;
    }),
    (accepted_form L p clauses.accepted).0,
    (accepted_form L p clauses.accepted).1,
  )

  -- the text of the tables is theirs
  pub own_text_lem : own_text L t ≡ routes_text (form_of p) routes
  unfolding tables_text start
  own_text_lem =
      ap (λ (n : ℕ). first_line (form_of p) ++ count_line agents_key n ++ drone_lines (form_of p) rows counts locations times legs ++ last_line) (sym many)
      ∙ ap (λ (x : List ℕ). first_line (form_of p) ++ count_line agents_key (length routes) ++ x ++ last_line) (sym cut.lines)

  -- the pairs are those that a site text could give; their numbers, and the table past them
  pub pairs_ready : SoundPairs L p.pairs
  pairs_ready = record { has_pairs = sizes.pairs; sound_pairs = pairs_sound_lem L p clauses.accepted }

  abbrev pub numbers : List ℕ
  numbers = take (2 * pair_count p.pairs) p.pairs

  pub pairs_right : SitePairs L (pair_count p.pairs) numbers
  pairs_right = sound_numbers L p.pairs pairs_ready

  pub pairs_are : (i : ℕ) → i < 2 * most_pairs → at p.pairs i ≡ at numbers i
  pairs_are i l =
      let c : ℕ = 2 * pair_count p.pairs in
      by_cases (ltb i c)
      (λ e. sym (get_or-take c p.pairs i 0 (ltb-true i c e)))
      (λ e. let k : c ≤ i = ltb-false i c e in zero-at c (2 * most_pairs) p.pairs (pairs_zero L p clauses.accepted) i k l ∙ sym (at-past numbers i (omega (arith, pairs_right.many))))

  meets_are : (a b : ℕ) → meets_of p a b ≡ meets_in numbers a b
  meets_are = meets_entries p.pairs numbers pairs_are

  holds : HoldsStops (meets_in numbers) routes p
  holds = record {
    meets_are = meets_are;
    drones_are = sym many;
    counts_are = λ d l. sym (get_or-take (drones p) p.stop_counts d 0 (omega (arith, many))) ∙ ap (λ (x : List ℕ). at x d) (sym cut.counts);
    locations_are = λ u l. sym (get_or-take (stop_total p) p.locations u 0 (inside u l)) ∙ ap (λ (x : List ℕ). at x u) (sym cut.locations);
    times_are = λ u l. sym (get_or-take (stop_total p) p.times u 0 (inside u l)) ∙ ap (λ (x : List ℕ). at x u) (sym cut.times);
    legs_are = λ u l. sym (get_or-take (stop_total p) p.legs u 0 (inside u l)) ∙ ap (λ (x : List ℕ). at x u) (sym cut.legs);
  }
    where
      inside : (u : ℕ) → u < length (locations_of routes) → u < stop_total p
      inside u l = omega (arith, ap (λ (x : List ℕ). length x) cut.locations, locations_long)

  plan_accepted : AcceptedPlan (plan_of p)
  plan_accepted = accepted_plan L p clauses.accepted clauses.dependencies_own

  abbrev F : FieldPlan
  F = routes_plan (meets_in numbers) routes

  agree : PlansAgree F (plan_of p)
  agree = held_agree L (form_of p) routes in_limits p holds ((accepted_claims.accepted_exactly p have).1 plan_accepted).2

  -- they pass the plan check: its rules for single stops, and no two of them collide
  pub rules : StopsChecked F × Never F (Collides F)
  rules =
      let (e, a, own, flies) = (accepted_claims.accepted_exactly p have).1 plan_accepted in
      let (c, never) = (passes_exactly p have).0 (e, a) in
      (agree_stops F (plan_of p) agree c, agree_never F (plan_of p) agree never)

  -- .. the former whatever locations meet
  pub stops_checked : (meets : ℕ → ℕ → Bool) → StopsChecked (routes_plan meets routes)
  stops_checked meets = stops_anywhere (meets_in numbers) meets routes rules.0

  pub few : F.count ≤ L.dependencies
  few = omega (arith, agree.counts_agree, dependencies_in L p clauses.accepted clauses.dependencies_own)

  -- the site text of the tables is taken, and read as their pairs
  pub follows : SiteFollows L (given (own_site t)) numbers
  follows = (pair_count p.pairs, pairs_right, refl)

  pub own_site_lem : L.location < 10 ^ 7 → site_at L (own_site t) ≡ record { numbers = numbers; answer = Ok tt }
  own_site_lem u = follows_read L u (given (own_site t)) numbers follows

  site_again : L.location < 10 ^ 7 → pairs_on L (given (own_site t)) ≡ numbers
  site_again u = ap (λ (x : PairList (Result ⊤ SiteRefusal)). x.numbers) (own_site_lem u)

-- where the limit of the text leaves room for every plan
pub sound_means_accepted : (L : Limits) → RoundTrip L → L.location < 10 ^ 7 → text_bound L ≤ L.text → SoundMeansAccepted L
sound_means_accepted L trip u room t z full s into =
    let clauses : Sound L t = sound-says L t s in
    let ds : List Route = routes L t full clauses in
    let ns : List ℕ = numbers L t full clauses in
    let form : ℕ = form_of t.plan in
    let v : InLimits L form ds = in_limits L t full clauses in
    let e : own_text L t ≡ routes_text form ds = own_text_lem L t full clauses in
    let short : length (own_text L t) ≤ L.text = omega (arith, ap (λ (x : List ℕ). length x) e, trip.written_bound form ds v) in
    let read : lines_at L (own_text L t) ≡ lines_of L form ds = ap (lines_at L) e ∙ trip.written_is_read form ds v in
    let again = site_again L t full clauses u in
    let taken : (read_plan L (given (own_site t)) (own_text L t) z).reply ≡ Taken =
    (taken_exactly L trip u (given (own_site t)) (own_text L t) z).1 (into, follows-own L (given (own_site t)) ns (own_text L t) form ds (follows L t full clauses) (trip.no_capitals form ds v) e v short (rules L t full clauses) (few L t full clauses)) in
    record {
      is_taken_lem = taken;
      plan_again = subst (λ (x : List ℕ). PlansAgree (routes_plan (meets_in x) (text_routes L (own_text L t))) (plan_of t.plan)) (sym again)
          (subst (λ (x : List Route). PlansAgree (routes_plan (meets_in ns) x) (plan_of t.plan)) (sym (routes_read L form (own_text L t) ds v read)) (agree L t full clauses));
      form_again = form_read L form (own_text L t) ds read;
      pairs_again = λ i l. left_pairs L (given (own_site t)) (own_text L t) z taken i l ∙ ap (λ (x : List ℕ). at x i) again ∙ sym (pairs_are L t full clauses i l);
    }

pub limits-sound_means_accepted : SoundMeansAccepted limits
limits-sound_means_accepted = sound_means_accepted limits limits-round_trip (omega arith) limits-room
