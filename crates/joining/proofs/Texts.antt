-- A joined text read as any text: two texts that were taken, joined, and what the third tables hold of a joining that was taken. Assumes nothing.
use mathlib.Core.Path.{◌≡◌, refl, sym, ap, ◌∙◌, subst}
use mathlib.Core.Bool.{Bool, true, false, cond}
use mathlib.Core.List.{List, [], ◌∷◌, ◌++◌}
use Prim.Native.Nat.{ℕ, ◌*◌, ◌^◌, ◌≤◌, ◌<◌, max}
use native.Mathlib.Omega.{arith}
use lib.ListN.{length, take, length-append}
use Rattle.below.specs.Below.{at}
use Rattle.below.proofs.Tests.{and_both}
use Rattle.below.proofs.Every.{all_below_all}
use Rattle.tables.specs.Limits.{Limits, most_pairs}
use Rattle.tables.specs.Tables.{Tables, drones, dependencies, form_of, full_size}
use Rattle.tables.specs.Flags.{under_way_bit, withdrawn_bit, turned_bit, fixed_flag}
use Rattle.lines.specs.Names.{small_form}
use Rattle.lines.proofs.Letters.{small-length}
use Rattle.near.specs.Near.{pair_count}
use Rattle.site.specs.Site.{PairList}
use Rattle.site.specs.Written.{site_text}
use Rattle.text.specs.LinesRead.{LinesRead, lines_at}
use Rattle.text.specs.Written.{Route, routes_text, small_named, small_names, lines_of, InLimits}
use Rattle.text.specs.Claims.{PlanOfText, RoundTrip}
use Rattle.text.proofs.Capitals.{names_many}
use Rattle.text.proofs.RoundTrips.{round_trip}
use Rattle.plan.specs.Field.{plan_of, fixed}
use Rattle.plan.specs.Status.{status_in}
use Rattle.sound.proofs.Clauses.{sound-says}
use Rattle.call_log.specs.Calls.{AsRead, tables_after}
use Rattle.call_log.specs.Claims.{Usable}
use Rattle.call_log.proofs.SoundParts.{drones_in}
use Rattle.reading.specs.Replies.{taken, refused_by}
use Rattle.reading.specs.Reading.{Site, given, site_read, ReadingAnswer, with_reply, after_site, read_lines, read_plan}
use Rattle.accepted.specs.TextPlan.{pairs_on}
use Rattle.accepted.specs.Claims.{HoldsPairs, own_text, own_site}
use Rattle.accepted.proofs.ReadCases.{read_taken as taken-cases, read_site}
use Rattle.accepted.proofs.ReadSound.{read_is_sound, tables_sound, tables_hold_site, left_pairs}
use Rattle.accepted.proofs.SoundAccepted.{own_text_lem, pairs_are}
use Rattle.accepted.proofs.Taken.{written_back}
use Rattle.copying.specs.Reckoned.{AllInRange}
use Rattle.copying.proofs.Offsets.{well_formed_valid}
use Rattle.copying.proofs.PairLaws.{range_append, read_reckoned}
use Rattle.copying.proofs.ReadLaws.{read_as_reckoned}
use Rattle.copying.proofs.Wider.{all_in_range_wider}
use Rattle.joining.specs.Joining.{routes_of_plan, joined_form, joined_text, unstarted, not_started, join_plans}
use Rattle.joining.specs.Claims.{Joinable, FitTogether}
use Rattle.joining.proofs.SoundWrites.{range_from, routes_are, plan_in-limits}
use Rattle.joining.proofs.Decided.{none_started, as_read}
use Rattle.joining.proofs.Refusals.{Premises, known, knows, some, in_range_lem, both_read, site_taken}
use Rattle.joining.proofs.Numbers.{joined, read_taken}
use Rattle.lines.specs.declared.refusal.Refusal.{Refusal as LineRefusal}
use Rattle.site.specs.declared.SiteRefusal.{SiteRefusal}
use Rattle.std.specs.Prelude.{⊤, Result, Ok, Err}

-- ---- two texts that were taken

lines_same : (L : Limits) (numbers x y : List ℕ) (t : Tables) → lines_at L x ≡ lines_at L y → length x ≡ length y → after_site L numbers x t (Ok tt) ≡ after_site L numbers y t (Ok tt)
unfolding read_lines
lines_same L numbers x y t e l = rw (e, l) refl

-- the reading asks of a text its lines and its length alone
read_same : (L : Limits) (s : Site) (x y : List ℕ) (t : Tables) → lines_at L x ≡ lines_at L y → length x ≡ length y → read_plan L s x t ≡ read_plan L s y t
unfolding read_plan
read_same L s x y t e l = ap (λ (v : ReadingAnswer). cond (full_size L t) v (with_reply (refused_by 41) t)) (go (site_read L s).answer)
  where
    go : (w : Result ⊤ SiteRefusal) → after_site L (site_read L s).numbers x t w ≡ after_site L (site_read L s).numbers y t w
    go (Err r) = refl
    go (Ok _) = lines_same L (site_read L s).numbers x y t e l

-- .. and of a site text what is read of it
site_alike : (L : Limits) (s s' : Site) (text : List ℕ) (t : Tables) → site_read L s ≡ site_read L s' → read_plan L s text t ≡ read_plan L s' text t
unfolding read_plan
site_alike L s s' text t e = ap (λ (x : PairList (Result ⊤ SiteRefusal)). cond (full_size L t) (after_site L x.numbers text t x.answer) (with_reply (refused_by 41) t)) e

small-append : (ds es : List Route) → small_names (ds ++ es) ≡ small_names ds ++ small_names es
small-append [] es = refl
small-append (d ∷ ds) es = ap (λ (x : List Route). small_named d ∷ x) (small-append ds es)

unturned : (b : Bool) → turned_bit (fixed_flag b) ≡ false
unfolding turned_bit fixed_flag
unturned true = refl
unturned false = refl

no_mark : (under_way_bit 0 ≡ false) × (withdrawn_bit 0 ≡ false)
unfolding under_way_bit withdrawn_bit
no_mark = (refl, refl)

-- a plan that was just read has not been started
read_fresh : (L : Limits) (t : Tables) → AsRead L t.plan t → not_started t ≡ true
unfolding unstarted
read_fresh L t r = and_both _ _
    (all_below_all (drones t.plan) _ (λ d l.
    let k : d < L.drones = omega (arith, drones_in L t.plan r.plan_accepted, l) in
    rw (r.visited_zero d k, r.drone_flags_zero d k, no_mark.0, no_mark.1) refl))
    (all_below_all (dependencies t.plan) _ (λ w l. rw (r.flags_fixed w l, unturned (fixed (plan_of t.plan) w)) refl))

-- two tables that hold the same pairs have one site text
one_text : (table other ns ns' : List ℕ) → HoldsPairs ns table → HoldsPairs ns' other → ns ≡ ns'
    → site_text (pair_count table) (take (2 * pair_count table) table) ≡ site_text (pair_count other) (take (2 * pair_count other) other)
one_text table other ns ns' h k e =
    let count : pair_count table ≡ pair_count other = omega (arith, h.many, k.many, ap length e) in
    let numbers : take (2 * pair_count table) table ≡ take (2 * pair_count other) other =
    ap (λ (i : ℕ). take i table) h.many ∙ h.pairs ∙ e ∙ sym k.pairs ∙ ap (λ (i : ℕ). take i other) (sym k.many) in
    λ i. site_text (count i) (numbers i)

module _ (L : Limits) (p : Premises L) where
  pub trip : RoundTrip L
  trip = round_trip L p.seven

  pub own : (a : Tables) → Usable L a → own_text L a ≡ routes_text (form_of a.plan) (routes_of_plan L a.plan)
  own a w = own_text_lem L a w.0 (sound-says L a w.1) ∙ ap (routes_text (form_of a.plan)) (routes_are L a w.0 w.1)

  -- a text with capitals in names is read as the same with small letters, be its routes too many or their names equal
  capitals_alike : (s : Site) (form : ℕ) (ds : List Route) (t : Tables) → 1 ≤ form → form ≤ L.form → 1 ≤ length ds → length ds < 10 ^ 7 → AllInRange L form (small_names ds)
      → read_plan L s (routes_text form (small_names ds)) t ≡ read_plan L s (routes_text form ds) t
  capitals_alike s form ds t known knows some few v =
      let m = names_many ds in
      let e : lines_at L (routes_text form (small_names ds)) ≡ lines_at L (routes_text form ds) =
      read_reckoned L p.seven form (small_names ds) known knows (omega (arith, m, some)) (omega (arith, m, few)) v ∙ sym (read_as_reckoned L p.seven form ds known knows some few v) in
      let l : length (routes_text form (small_names ds)) ≡ length (routes_text form ds) = ap length (sym (trip.names_alone form ds (omega (arith, knows, p.seven.form)))) ∙ small-length (routes_text form ds) in
      read_same L s (routes_text form (small_names ds)) (routes_text form ds) t e l

  -- the joined text has its names in small letters
  pub joined_small : (a b : Tables) → Usable L a → Usable L b → small_form (joined_text L a.plan b.plan) ≡ joined_text L a.plan b.plan
  unfolding joined_text
  joined_small a b wa wb =
      let form : ℕ = joined_form a.plan b.plan in
      let ra : List Route = routes_of_plan L a.plan in
      let rb : List Route = routes_of_plan L b.plan in
      let la = plan_in-limits L a wa.0 wa.1 in
      let lb = plan_in-limits L b wb.0 wb.1 in
      trip.names_alone form (ra ++ rb) (omega (arith, knows L p a b wa wb, p.seven.form))
      ∙ ap (routes_text form) (small-append ra rb ∙ (λ i. trip.no_capitals (form_of a.plan) ra la i ++ trip.no_capitals (form_of b.plan) rb lb i))

  -- the tables after a taken reading
  module _ (s : Site) (x : List ℕ) (n : ℕ) (q : PlanOfText L x n) (a : Tables) (h : (read_plan L s x a).reply ≡ taken) where
    abbrev after : Tables
    after = (read_plan L s x a).tables

    usable : Usable L after
    usable = ((read_is_sound L s x a h).full, tables_sound L s x a h)

    not_begun : not_started after ≡ true
    not_begun = read_fresh L after (read_is_sound L s x a h)

    -- they hold the text's form, its routes and the site's pairs
    routes_held : (form_of after.plan ≡ q.form) × (routes_of_plan L after.plan ≡ small_names q.typed)
    unfolding tables_after
    routes_held = trip.one_plan (form_of after.plan) q.form (routes_of_plan L after.plan) (small_names q.typed) (plan_in-limits L after usable.0 usable.1) q.in_limits
        (sym (own after usable) ∙ (written_back L s x a [] h ∙ (ap small_form q.as_typed ∙ trip.names_alone q.form q.typed (omega (arith, q.in_limits.4, p.seven.form)))))

    pairs_held : HoldsPairs (pairs_on L s) after.plan.pairs
    unfolding tables_after
    pairs_held = tables_hold_site L s x a [] h

    -- so their own site text is read as the site was
    same_site : site_read L (given (own_site after)) ≡ site_read L s
    same_site =
        let e : take (2 * pair_count after.plan.pairs) after.plan.pairs ≡ pairs_on L s = ap (λ (k : ℕ). take k after.plan.pairs) pairs_held.many ∙ pairs_held.pairs in
        site_taken L p after after usable usable ∙ (λ i. record { numbers = e i; answer = sym (read_site L s x a h) i })

  pub of_two_texts : (s s' : Site) (x y : List ℕ) (n m : ℕ) (q : PlanOfText L x n) (r : PlanOfText L y m) (a b t : Tables) → (read_plan L s x a).reply ≡ taken → (read_plan L s' y b).reply ≡ taken → pairs_on L s ≡ pairs_on L s' → full_size L t ≡ true
      → join_plans L (read_plan L s x a).tables (read_plan L s' y b).tables t ≡ read_plan L s (routes_text (max q.form r.form) (q.typed ++ r.typed)) t
  unfolding joined_text
  of_two_texts s s' x y n m q r a b t h k same full =
      let A : Tables = (read_plan L s x a).tables in
      let B : Tables = (read_plan L s' y b).tables in
      let ua : Usable L A = usable s x n q a h in
      let ub : Usable L B = usable s' y m r b k in
      let ha = pairs_held s x n q a h in
      let hb = pairs_held s' y m r b k in
      let j : Joinable L A B t = record { first = ua; second = ub; third = full } in
      let f : FitTogether A B = record {
        first = none_started _ (status_in A) (not_begun s x n q a h);
        second = none_started _ (status_in B) (not_begun s' y m r b k);
        one_site = one_text A.plan.pairs B.plan.pairs (pairs_on L s) (pairs_on L s') ha hb same;
      } in
      let ds : List Route = q.typed in
      let es : List Route = r.typed in
      let form : ℕ = max q.form r.form in
      let lq = q.in_limits in
      let lr = r.in_limits in
      let v : AllInRange L form (small_names (ds ++ es)) =
      subst (AllInRange L form) (sym (small-append ds es)) (range_append L form (small_names ds) (small_names es)
      (all_in_range_wider L q.form form lq.3 (omega arith) p.leg (small_names ds) (range_from L q.form (small_names ds) [] 0 lq.2))
      (all_in_range_wider L r.form form lr.3 (omega arith) p.leg (small_names es) (range_from L r.form (small_names es) [] 0 lr.2))) in
      let la = length-append ds es in
      let (fa, ra) = routes_held s x n q a h in
      let (fb, rb) = routes_held s' y m r b k in
      as_read L p.seven.location A B t j f
      ∙ site_alike L (given (own_site A)) s (joined_text L A.plan B.plan) t (same_site s x n q a h)
      ∙ (λ i. read_plan L s (routes_text (max (fa i) (fb i)) (ra i ++ rb i)) t)
      ∙ ap (λ (z : List Route). read_plan L s (routes_text form z) t) (sym (small-append ds es))
      ∙ capitals_alike s form (ds ++ es) t (omega (arith, lq.3)) (omega (arith, lq.4, lr.4)) (omega (arith, la, names_many ds, lq.0)) (omega (arith, la, names_many ds, names_many es, lq.1, lr.1, p.few)) v

  -- a joining that was taken: the joined text is that of both plans' routes, within the limits, so the third tables hold these
  module _ (a b t : Tables) (h : (join_plans L a b t).reply ≡ taken) where
    abbrev joined_site : Site
    joined_site = given (own_site a)

    abbrev pub joined_routes : List Route
    joined_routes = routes_of_plan L a.plan ++ routes_of_plan L b.plan

    abbrev pub form : ℕ
    form = joined_form a.plan b.plan

    usable_both : Usable L a × Usable L b
    usable_both = let j = (joined L p a b t h).1 in (j.first, j.second)

    within : InLimits L form joined_routes
    unfolding joined_text
    within =
        let (wa, wb) = usable_both in
        let r = (taken-cases L joined_site (joined_text L a.plan b.plan) t (read_taken L p a b t h)).1 in
        well_formed_valid L form joined_routes r.number (known L p a b wa wb) (knows L p a b wa wb) (some L p a b wa wb) (in_range_lem L p a b wa wb)
        (sym (ap (λ (x : LinesRead (Result ℕ LineRefusal)). x.answer) (both_read L p a b wa wb)) ∙ r.lines_taken)

    small_both : small_names joined_routes ≡ joined_routes
    small_both = trip.no_capitals form joined_routes within

    joined_plan : PlanOfText L (joined_text L a.plan b.plan) (length joined_routes)
    unfolding joined_text
    joined_plan = record {
      form = form;
      typed = joined_routes;
      as_typed = refl;
      many = refl;
      in_limits = subst (InLimits L form) (sym small_both) within;
      read = trip.written_is_read form joined_routes within ∙ ap (lines_of L form) (sym small_both);
    }

    pub held : (form_of (join_plans L a b t).tables.plan ≡ form) × (routes_of_plan L (join_plans L a b t).tables.plan ≡ joined_routes)
    unfolding joined_plan
    held =
        let (f, r) = routes_held joined_site (joined_text L a.plan b.plan) (length joined_routes) joined_plan t (read_taken L p a b t h) in
        subst (λ (v : ReadingAnswer). (form_of v.tables.plan ≡ form) × (routes_of_plan L v.tables.plan ≡ joined_routes)) (sym (joined L p a b t h).0) (f, r ∙ small_both)

    pub held_pairs : (i : ℕ) → i < 2 * most_pairs → at (join_plans L a b t).tables.plan.pairs i ≡ at a.plan.pairs i
    held_pairs i l =
        let (wa, wb) = usable_both in
        ap (λ (v : ReadingAnswer). at v.tables.plan.pairs i) (joined L p a b t h).0
        ∙ left_pairs L joined_site (joined_text L a.plan b.plan) t (read_taken L p a b t h) i l
        ∙ ap (λ (x : PairList (Result ⊤ SiteRefusal)). at x.numbers i) (site_taken L p a b wa wb)
        ∙ sym (pairs_are L a wa.0 (sound-says L a wa.1) i l)
