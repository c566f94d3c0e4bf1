-- A text is accepted exactly when it follows the document: each place of the table of refusals is passed by one clause. What was accepted is written out again.
use mathlib.Core.Path.{◌≡◌, refl, sym, ap, ◌∙◌, subst}
use mathlib.Core.Bool.{true}
use mathlib.Core.List.{List}
use Prim.Native.Nat.{ℕ, ◌*◌, ◌^◌, ◌≤◌, ◌<◌}
use native.Mathlib.Omega.{arith}
use lib.ListN.{length}
use borrow.Author.Tests.{le-ltb, le-leb}
use Rattle.tables.specs.Limits.{Limits, limits, most_pairs}
use Rattle.tables.specs.Tables.{PlanLists, Tables, drones, form_of, full_size}
use Rattle.tables.specs.Zero.{zeroed, zeroed_tables}
use Rattle.tables.proofs.Zero.{zeroed-length}
use Rattle.near.specs.Near.{meets_in}
use Rattle.site.specs.Site.{PairList}
use Rattle.text.specs.LinesRead.{LinesRead, lines_at}
use Rattle.text.specs.Written.{Route, routes_text, small_names, lines_of, InLimits}
use Rattle.text.specs.Names.{names_small}
use Rattle.text.specs.TextWritten.{tables_text}
use Rattle.text.specs.Claims.{PlanOfText, RoundTrip}
use Rattle.text.proofs.Capitals.{names_many}
use Rattle.text.proofs.TakenIsWritten.{TextTaken, text_taken}
use Rattle.text.proofs.LineStarts.{named-length}
use Rattle.text.proofs.SmallTexts.{lines_alike}
use Rattle.text.proofs.ReadIsWritten.{tables_kept}
use Rattle.text.proofs.RoundTrips.{limits-round_trip}
use Rattle.plan.specs.Field.{FieldPlan, PlansAgree, plan_of}
use Rattle.plan.specs.Check.{first_fault}
use Rattle.plan.specs.Claims.{stop_total, leg_in, visits_in, collider_in, HaveStops, NoFault, NoCollision, StopsChecked, Collides, Never, planned_total}
use Rattle.plan.specs.Answers.{check_of}
use Rattle.plan.proofs.Claims.{accepted_claims}
use Rattle.plan.proofs.PlansAgree.{agree_back, agree_stops, agree_never, passes_exactly}
use Rattle.call_log.proofs.Whole.{stays_same}
use Rattle.reading.specs.Reading.{Site, site_read, with_site, with_text, with_dependencies, check_in, after_site, read_plan, read_lines}
use Rattle.reading.specs.Replies.{taken as Taken}
use Rattle.accepted.specs.TextPlan.{routes_plan, pairs_on}
use Rattle.accepted.specs.Claims.{SiteFollows, PlanFollows, TakenExactly, own_text, WrittenBack, ReadAlike}
use Rattle.accepted.proofs.SiteTexts.{read_pairs, read_follows, follows_read, numbers_fit}
use Rattle.accepted.proofs.ReadCases.{no_fault, no_collision, read_taken, read_short, read_site}
use Rattle.accepted.proofs.RoutesPlan.{held_stops, held_total}
use Rattle.accepted.proofs.ReadSound.{before, stored_holds, stored_stops, stored_agree, read_is_sound}
use Rattle.lines.specs.declared.refusal.Refusal.{Refusal as LineRefusal}
use Rattle.site.specs.declared.SiteRefusal.{SiteRefusal}
use Rattle.std.specs.Prelude.{⊤, Result, Ok, Err}

-- the plan check passes where it finds nothing
pub check_fine : (p : PlanLists) → NoFault p → NoCollision p → check_in p ≡ Taken
unfolding check_of
check_fine p e a =
    let c : collider_in p ≡ stop_total p = (accepted_claims.reported_exactly p).0 a in
    rw (le-ltb (first_fault (visits_in p) (leg_in p)) (stop_total p) (omega (arith, e)), le-ltb (collider_in p) (stop_total p) (omega (arith, c))) refl

-- tables in which the numbers of a site's pairs and what was read of a text stand, f being the routes' values
module _ (L : Limits) (t : Tables) (full : full_size L t ≡ true) (ns : List ℕ) (fit : length ns ≤ 2 * most_pairs) (f : LinesRead (Result ℕ LineRefusal)) (n form : ℕ) (ds : List Route) (many : length ds ≡ n) (v : InLimits L form ds) (read : f ≡ lines_of L form ds) where
  abbrev laid : Tables
  laid = with_text f n (with_site ns (zeroed_tables L t))

  abbrev F : FieldPlan
  F = routes_plan (meets_in ns) ds

  laid_have : HaveStops laid.plan
  laid_have = held_stops L form ds v laid.plan (stored_stops L t full ns f n form ds many v read fit)

  laid-total : planned_total laid.plan ≡ F.count
  laid-total = held_total L form ds v laid.plan (stored_stops L t full ns f n form ds many v read fit)

  -- with its dependencies the plan in them is that of the routes, and the check passes exactly where the routes keep the rules
  module _ (room : planned_total laid.plan ≤ L.dependencies) where
    abbrev lists : PlanLists
    lists = (with_dependencies laid).plan

    agree : PlansAgree F (plan_of lists)
    agree = stored_agree L t full ns f n form ds many v read fit room

    keeps : check_in laid.plan ≡ Taken → StopsChecked F × Never F (Collides F)
    keeps h =
        let (c, never) = (passes_exactly lists laid_have).0 (no_fault laid.plan h, no_collision laid.plan h) in
        (agree_stops F (plan_of lists) agree c, agree_never F (plan_of lists) agree never)

    passes : StopsChecked F → Never F (Collides F) → check_in laid.plan ≡ Taken
    passes c never =
        let back : PlansAgree (plan_of lists) F = agree_back agree in
        let (e, a) = (passes_exactly lists laid_have).1 (agree_stops (plan_of lists) F back c, agree_never (plan_of lists) F back never) in
        check_fine laid.plan e a

module _ (L : Limits) (trip : RoundTrip L) (s : Site) (text : List ℕ) (t : Tables) where
  follows : (read_plan L s text t).reply ≡ Taken → (full_size L t ≡ true) × PlanFollows L s text
  follows h =
      let (full, r) = read_taken L s text t h in
      let ns : List ℕ = pairs_on L s in
      let (m, p) = read_pairs L s (read_site L s text t h) in
      let fit = numbers_fit L m ns p in
      let w : PlanOfText L text r.number = trip.well_formed_is_written text r.number r.lines_taken in
      let ds : List Route = small_names w.typed in
      let many : length ds ≡ r.number = names_many w.typed ∙ w.many in
      let (c, never) = keeps L t full ns fit (lines_at L text) r.number w.form ds many w.in_limits w.read r.room r.check_passed in (
        full,
        record {
          pairs = ns;
          site = read_follows L s (read_site L s text t h);
          form = w.form;
          typed = w.typed;
          as_typed = w.as_typed;
          in_limits = w.in_limits;
          short = read_short L s text t h;
          stops = c;
          apart = never;
          few = omega (arith, laid-total L t full ns fit (lines_at L text) r.number w.form ds many w.in_limits w.read, r.room);
        },
      )

  -- after a site text of these pairs
  after-taken : full_size L t ≡ true → (q : PlanFollows L s text) → length q.pairs ≤ 2 * most_pairs → (after_site L q.pairs text t (Ok tt)).reply ≡ Taken
  unfolding read_lines
  after-taken full q fit =
      let ns : List ℕ = q.pairs in
      let ds : List Route = small_names q.typed in
      let form : ℕ = q.form in
      let found : lines_at L text ≡ lines_of L form ds = ap (lines_at L) q.as_typed ∙ trip.capitals_are_read form q.typed q.in_limits in
      let p : PlanLists = (with_text (lines_of L form ds) (length ds) (with_site ns (zeroed_tables L t))).plan in
      let room : planned_total p ≤ L.dependencies = omega (arith, laid-total L t full ns fit (lines_of L form ds) (length ds) form ds refl q.in_limits refl, q.few) in
      rw (le-ltb L.text (length text) q.short, found, passes L t full ns fit (lines_of L form ds) (length ds) form ds refl q.in_limits refl room q.stops q.apart, le-leb (planned_total p) L.dependencies room) refl

  taken : L.location < 10 ^ 7 → (full_size L t ≡ true) × PlanFollows L s text → (read_plan L s text t).reply ≡ Taken
  unfolding read_plan
  taken u (full, q) =
      let e : site_read L s ≡ record { numbers = q.pairs; answer = Ok tt } = follows_read L u s q.pairs q.site in
      let numbers : (site_read L s).numbers ≡ q.pairs = ap (λ (x : PairList (Result ⊤ SiteRefusal)). x.numbers) e in
      let answer : (site_read L s).answer ≡ Ok tt = ap (λ (x : PairList (Result ⊤ SiteRefusal)). x.answer) e in
      let (m, p) = read_pairs L s answer in
      rw (full, answer, numbers) (after-taken full q (omega (arith, numbers_fit L m (site_read L s).numbers p, ap length numbers)))

pub taken_exactly : (L : Limits) → RoundTrip L → L.location < 10 ^ 7 → TakenExactly L
taken_exactly L trip u s text t = (follows L trip s text t, taken L trip s text t u)

pub limits-taken_exactly : TakenExactly limits
limits-taken_exactly = taken_exactly limits limits-round_trip (omega arith)

-- a text of routes whose names are in small letters, on a site of these pairs
pub follows-own : (L : Limits) (s : Site) (pairs text : List ℕ) (form : ℕ) (ds : List Route) → SiteFollows L s pairs → small_names ds ≡ ds → text ≡ routes_text form ds → InLimits L form ds → length text ≤ L.text
    → StopsChecked (routes_plan (meets_in pairs) ds) × Never (routes_plan (meets_in pairs) ds) (Collides (routes_plan (meets_in pairs) ds)) → (routes_plan (meets_in pairs) ds).count ≤ L.dependencies → PlanFollows L s text
follows-own L s pairs text form ds site own e v short (c, never) few = record {
  pairs = pairs;
  site = site;
  form = form;
  typed = ds;
  as_typed = e;
  in_limits = subst (InLimits L form) (sym own) v;
  short = short;
  stops = subst (λ (x : List Route). StopsChecked (routes_plan (meets_in pairs) x)) (sym own) c;
  apart = subst (λ (x : List Route). Never (routes_plan (meets_in pairs) x) (Collides (routes_plan (meets_in pairs) x))) (sym own) never;
  few = subst (λ (x : List Route). (routes_plan (meets_in pairs) x).count ≤ L.dependencies) (sym own) few;
}

-- ---- the text written out again

-- the text of the tables in which a plan's values were laid
laid_text : (L : Limits) (t : Tables) → full_size L t ≡ true → (ns : List ℕ) (form : ℕ) (ds : List Route) → InLimits L form ds → own_text L (with_text (lines_of L form ds) (length ds) (with_site ns (zeroed_tables L t))) ≡ routes_text form ds
laid_text L t full ns form ds v =
    let sizes = before L t full ns (lines_of L form ds) (length ds) in
    let F = L.drones * L.name in
    let held = stored_holds L t full ns (lines_of L form ds) (length ds) form ds refl v refl in
    rw (held.drones_are, held.form_is) (tables_kept L form ds v (zeroed F t.plan.names) (zeroed L.drones t.plan.stop_counts) (zeroed L.stops t.plan.locations) (zeroed L.stops t.plan.times) (zeroed L.stops t.plan.legs)
    (omega (arith, sizes.names, zeroed-length F t.plan.names)) (omega (arith, sizes.stop_counts_lem, zeroed-length L.drones t.plan.stop_counts))
    (omega (arith, sizes.locations, zeroed-length L.stops t.plan.locations)) (omega (arith, sizes.times, zeroed-length L.stops t.plan.times))
    (omega (arith, sizes.legs, zeroed-length L.stops t.plan.legs)))

-- what was read of a text is laid as its routes
pub same-laid : (L : Limits) (t : Tables) (ns : List ℕ) (f : LinesRead (Result ℕ LineRefusal)) (n form : ℕ) (ds : List Route) → f ≡ lines_of L form ds → length ds ≡ n
    → with_text f n (with_site ns (zeroed_tables L t)) ≡ with_text (lines_of L form ds) (length ds) (with_site ns (zeroed_tables L t))
same-laid L t ns f n form ds e m = rw (e, ← m) refl

pub written_back : (L : Limits) → WrittenBack L
written_back L s text t calls h =
    let (full, r) = read_taken L s text t h in
    let w : TextTaken L text r.number (lines_at L text) = text_taken L text r.number r.lines_taken in
    ap (λ (p : PlanLists). tables_text L (form_of p) (drones p) p.names p.stop_counts p.locations p.times p.legs) (stays_same L _ _ (read_is_sound L s text t h) calls).plan_same
    ∙ ap (own_text L) r.tables_are
    ∙ ap (own_text L) (same-laid L t (pairs_on L s) (lines_at L text) r.number w.form w.routes w.read w.many)
    ∙ laid_text L t full (pairs_on L s) w.form w.routes w.in_limits
    ∙ sym w.written

-- whatever is said of the site text
after_alike : (L : Limits) (numbers text : List ℕ) (t : Tables) (a : Result ⊤ SiteRefusal) → after_site L numbers (names_small text) t a ≡ after_site L numbers text t a
unfolding read_lines
after_alike L numbers text t (Err r) = refl
after_alike L numbers text t (Ok _) = rw (named-length text, lines_alike L text) refl

pub read_alike : (L : Limits) → ReadAlike L
unfolding read_plan
read_alike L s text t = rw (after_alike L (site_read L s).numbers text t (site_read L s).answer) refl
