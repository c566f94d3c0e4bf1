-- An accepted reading leaves the tables as the calls ask for them: the site's pairs and the text's values stand in zeroed tables, the plan check passed, and the dependencies
-- were laid.
use mathlib.Core.Path.{◌≡◌, sym, ap, ◌∙◌, subst}
use mathlib.Core.Bool.{true}
use mathlib.Core.List.{List, [], ◌∷◌}
use Prim.Native.Nat.{ℕ, ◌*◌, ◌≤◌, ◌<◌}
use native.Mathlib.Nat.{mul-le-mul_right}
use native.Mathlib.Omega.{arith}
use lib.ListN.{length, take}
use lib.Seq.{sets, length-sets}
use Rattle.below.specs.Below.{at}
use Rattle.below.proofs.Tests.{and_both}
use Rattle.tables.specs.Limits.{Limits, most_pairs}
use Rattle.tables.specs.Legs.{plain_leg}
use Rattle.tables.specs.Tables.{PlanLists, Tables, form_of, full_size, Sizes}
use Rattle.tables.specs.Zero.{zeroed, zeroed_tables}
use Rattle.tables.proofs.Zero.{zeroed-below, zeroed-length}
use Rattle.tables.proofs.SizeLaws.{SameLengths, full_size_lengths, full_sizes}
use Rattle.near.specs.Near.{pair_count, meets_in, SoundPairs}
use Rattle.near.proofs.NearLaws.{meets_entries}
use Rattle.site.specs.Written.{site_text}
use Rattle.site.specs.Claims.{SitePairs}
use Rattle.site.proofs.SiteSound.{table-sound}
use Rattle.text.specs.LinesRead.{LinesRead, lines_at, flat}
use Rattle.text.specs.Written.{Route, rows_of, counts_of, locations_of, times_of, legs_of, lines_of, InLimits}
use Rattle.text.proofs.TakenIsWritten.{TextTaken, text_taken}
use Rattle.plan.specs.Field.{FieldPlan, PlansAgree, meets_of, plan_of}
use Rattle.plan.proofs.PlansAgree.{agree_accepted}
use Rattle.sound.specs.Sound.{site_sound}
use Rattle.sound.proofs.SiteZeros.{site_indexed}
use Rattle.call_log.specs.Calls.{AsRead, step, tables_after}
use Rattle.call_log.proofs.SoundParts.{zero_from_lem, accepted_plan}
use Rattle.call_log.proofs.Whole.{stays_sound, stays_same}
use Rattle.reading.specs.Reading.{Site, given, with_site, with_text, with_dependencies, check_in, read_plan}
use Rattle.reading.specs.Replies.{taken as Taken}
use Rattle.accepted.specs.TextPlan.{routes_plan, text_routes, pairs_on, site_meets, text_plan}
use Rattle.accepted.specs.Claims.{HoldsPairs, TablesHoldPlan, TablesHoldForm, TablesHoldSite, SiteGivenBack, PlainLegs, AcceptedText, ReadIsSound, TablesSound}
use Rattle.accepted.proofs.Stored.{stored_at}
use Rattle.text.proofs.Sizes.{names_many, counts_many, stops_within, times_many, legs_many}
use Rattle.plan.specs.Claims.{planned_total}
use Rattle.accepted.proofs.PlanHeld.{HoldsRoutes, holds_stops}
use Rattle.accepted.proofs.ReadCases.{read_taken, read_site}
use Rattle.accepted.proofs.SiteTexts.{read_pairs, read_follows, numbers_fit, pairs_held}
use Rattle.accepted.proofs.RoutesPlan.{HoldsStops, held_agree, routes_read, form_read, routes_plain}
use Rattle.accepted.proofs.Built.{Blank, holds_planned, built_as_read}
use Rattle.lines.specs.declared.refusal.Refusal.{Refusal as LineRefusal}
use Rattle.std.specs.Prelude.{Result}

-- stored values that are known by an equation
stored_as : (full : ℕ) (t xs ys : List ℕ) → xs ≡ ys → length ys ≤ full → full ≤ length t → (i : ℕ) → i < full → at (sets (zeroed full t) 0 xs) i ≡ at ys i
stored_as full t xs ys e h r i l = ap (λ (x : List ℕ). at (sets (zeroed full t) 0 x) i) e ∙ stored_at full t ys h r i l

stored_long : (full : ℕ) (t xs : List ℕ) → length (sets (zeroed full t) 0 xs) ≡ length t
stored_long full t xs = length-sets (zeroed full t) 0 xs ∙ zeroed-length full t

module _ (L : Limits) (t : Tables) (full : full_size L t ≡ true) (ns : List ℕ) (f : LinesRead (Result ℕ LineRefusal)) (n : ℕ) where
  abbrev after_text : Tables
  after_text = with_text f n (with_site ns (zeroed_tables L t))

  -- the sizes of the tables before
  pub before : Sizes L t
  before = full_sizes L t full

  same_lengths : SameLengths after_text t
  same_lengths = record {
    drone_count_lem = stored_long 1 t.plan.drone_count (n ∷ []);
    dependency_count = zeroed-length 1 t.plan.dependency_count;
    form = stored_long 1 t.plan.form (f.form ∷ []);
    names = stored_long (L.drones * L.name) t.plan.names (flat f.rows);
    stop_counts_lem = stored_long L.drones t.plan.stop_counts f.counts;
    locations = stored_long L.stops t.plan.locations f.locations;
    times = stored_long L.stops t.plan.times f.times;
    legs = stored_long L.stops t.plan.legs f.legs;
    first_drones_lem = zeroed-length L.dependencies t.plan.first_drones;
    first_stops_lem = zeroed-length L.dependencies t.plan.first_stops;
    second_drones_lem = zeroed-length L.dependencies t.plan.second_drones;
    second_stops_lem = zeroed-length L.dependencies t.plan.second_stops;
    visited = zeroed-length L.drones t.visited;
    drone_flags = zeroed-length L.drones t.drone_flags;
    flags = zeroed-length L.dependencies t.flags;
    pairs = stored_long (2 * most_pairs) t.plan.pairs ns;
  }

  stored_sizes : Sizes L after_text
  stored_sizes = full_sizes L after_text (full_size_lengths L after_text t same_lengths ∙ full)

  stored_blank : Blank L after_text
  stored_blank = record {
    first_drones_lem = zeroed-below L.dependencies t.plan.first_drones;
    first_stops_lem = zeroed-below L.dependencies t.plan.first_stops;
    second_drones_lem = zeroed-below L.dependencies t.plan.second_drones;
    second_stops_lem = zeroed-below L.dependencies t.plan.second_stops;
    flags = zeroed-below L.dependencies t.flags;
    visited = zeroed-below L.drones t.visited;
    drone_flags = zeroed-below L.drones t.drone_flags;
  }

  -- the numbers of pairs in their table: the same locations meet by both, and the table is sound
  pub pairs_at_lem : length ns ≤ 2 * most_pairs → (i : ℕ) → i < 2 * most_pairs → at after_text.plan.pairs i ≡ at ns i
  pairs_at_lem fit = stored_at (2 * most_pairs) t.plan.pairs ns fit before.pairs

  pub pairs_meet : length ns ≤ 2 * most_pairs → (a b : ℕ) → meets_of after_text.plan a b ≡ meets_in ns a b
  pairs_meet fit = meets_entries after_text.plan.pairs ns (pairs_at_lem fit)

  site_right : (m : ℕ) → SitePairs L m ns → site_sound L after_text.plan ≡ true
  site_right m p =
      let s : SoundPairs L after_text.plan.pairs = table-sound L (zeroed (2 * most_pairs) t.plan.pairs) ns m (omega (arith, before.pairs, zeroed-length (2 * most_pairs) t.plan.pairs)) (zeroed-below (2 * most_pairs) t.plan.pairs) p.ordered p.many p.few in
      let h : HoldsPairs ns after_text.plan.pairs = pairs_held L m ns after_text.plan.pairs p s.has_pairs (pairs_at_lem (numbers_fit L m ns p)) in
      site_indexed L after_text.plan ∙ and_both _ _ s.sound_pairs (zero_from_lem _ _ after_text.plan.pairs (λ i a b. h.zeros i (omega (arith, a, h.many)) b))

  module _ (form : ℕ) (ds : List Route) (many : length ds ≡ n) (v : InLimits L form ds) (read : f ≡ lines_of L form ds) where
    pub stored_holds : HoldsRoutes L form ds after_text.plan
    stored_holds =
        let names-fit : length (flat (rows_of L ds)) ≤ L.drones * L.name = omega (arith, names_many L ds, mul-le-mul_right L.name v.1) in
        let counts-fit : length (counts_of ds) ≤ L.drones = omega (arith, counts_many ds, v.1) in
        let stops_fit : length (locations_of ds) ≤ L.stops = stops_within L form ds v in
        let times-fit : length (times_of ds) ≤ L.stops = omega (arith, times_many L form ds v) in
        let legs-fit : length (legs_of ds) ≤ L.stops = omega (arith, legs_many L form ds v) in
        record {
          drones_are = stored_at 1 t.plan.drone_count (n ∷ []) (omega arith) before.drone_count_lem 0 (omega arith) ∙ sym many;
          form_is = stored_at 1 t.plan.form (f.form ∷ []) (omega arith) before.form 0 (omega arith) ∙ ap (λ (g : LinesRead (Result ℕ LineRefusal)). g.form) read;
          names_are = stored_as (L.drones * L.name) t.plan.names (flat f.rows) (flat (rows_of L ds)) (ap (λ (g : LinesRead (Result ℕ LineRefusal)). flat g.rows) read) names-fit before.names;
          counts_are = stored_as L.drones t.plan.stop_counts f.counts (counts_of ds) (ap (λ (g : LinesRead (Result ℕ LineRefusal)). g.counts) read) counts-fit before.stop_counts_lem;
          locations_are = stored_as L.stops t.plan.locations f.locations (locations_of ds) (ap (λ (g : LinesRead (Result ℕ LineRefusal)). g.locations) read) stops_fit before.locations;
          times_are = stored_as L.stops t.plan.times f.times (times_of ds) (ap (λ (g : LinesRead (Result ℕ LineRefusal)). g.times) read) times-fit before.times;
          legs_are = stored_as L.stops t.plan.legs f.legs (legs_of ds) (ap (λ (g : LinesRead (Result ℕ LineRefusal)). g.legs) read) legs-fit before.legs;
        }

    pub stored_stops : length ns ≤ 2 * most_pairs → HoldsStops (meets_in ns) ds after_text.plan
    stored_stops fit = holds_stops L form ds v (meets_in ns) after_text.plan (pairs_meet fit) stored_holds

    -- with the dependencies laid, the plan in the tables is that of the routes
    pub stored_agree : length ns ≤ 2 * most_pairs → planned_total after_text.plan ≤ L.dependencies → PlansAgree (routes_plan (meets_in ns) ds) (plan_of (with_dependencies after_text).plan)
    stored_agree fit room =
        let s = stored_stops fit in
        held_agree L form ds v (with_dependencies after_text).plan (record { meets_are = s.meets_are; drones_are = s.drones_are; counts_are = s.counts_are; locations_are = s.locations_are; times_are = s.times_are; legs_are = s.legs_are }) (holds_planned L after_text stored_sizes stored_blank room)

    stored_as_read : (m : ℕ) → SitePairs L m ns → check_in after_text.plan ≡ Taken → planned_total after_text.plan ≤ L.dependencies → AsRead L (with_dependencies after_text).plan (with_dependencies after_text)
    stored_as_read m p passed room = built_as_read L after_text stored_sizes stored_blank room form ds v stored_holds passed (site_right m p)

pub read_is_sound : (L : Limits) → ReadIsSound L
read_is_sound L s text t h =
    let (full, r) = read_taken L s text t h in
    let (m, p) = read_pairs L s (read_site L s text t h) in
    let w : TextTaken L text r.number (lines_at L text) = text_taken L text r.number r.lines_taken in
    subst (λ (x : Tables). AsRead L x.plan x) (sym r.tables_are)
    (stored_as_read L t full (pairs_on L s) (lines_at L text) r.number w.form w.routes w.many w.in_limits w.read m p r.check_passed r.room)

pub tables_sound : (L : Limits) → TablesSound L
unfolding tables_after
tables_sound L s text t h = stays_sound L _ _ (read_is_sound L s text t h) []

-- ---- the text's own plan

pub tables_hold_plan : (L : Limits) → TablesHoldPlan L
tables_hold_plan L s text t h =
    let (full, r) = read_taken L s text t h in
    let (m, p) = read_pairs L s (read_site L s text t h) in
    let w : TextTaken L text r.number (lines_at L text) = text_taken L text r.number r.lines_taken in
    let same : text_plan L s text ≡ routes_plan (site_meets L s) w.routes = ap (routes_plan (site_meets L s)) (routes_read L w.form text w.routes w.in_limits w.read) in
    let agree = stored_agree L t full (pairs_on L s) (lines_at L text) r.number w.form w.routes w.many w.in_limits w.read (numbers_fit L m (pairs_on L s) p) r.room in
    subst (λ (x : Tables). PlansAgree (text_plan L s text) (plan_of x.plan)) (sym r.tables_are)
    (subst (λ (F : FieldPlan). PlansAgree F (plan_of (with_dependencies (with_text (lines_at L text) r.number (with_site (pairs_on L s) (zeroed_tables L t)))).plan)) (sym same) agree)

-- the form stands in its table, and the building does not write it
pub tables_hold_form : (L : Limits) → TablesHoldForm L
tables_hold_form L s text t h =
    let (full, r) = read_taken L s text t h in
    let w : TextTaken L text r.number (lines_at L text) = text_taken L text r.number r.lines_taken in
    ap (λ (x : Tables). form_of x.plan) r.tables_are
    ∙ (stored_holds L t full (pairs_on L s) (lines_at L text) r.number w.form w.routes w.many w.in_limits w.read).form_is
    ∙ sym (form_read L w.form text w.routes w.read)

-- the entries of the table of pairs
pub left_pairs : (L : Limits) (s : Site) (text : List ℕ) (t : Tables) → (read_plan L s text t).reply ≡ Taken → (i : ℕ) → i < 2 * most_pairs → at (read_plan L s text t).tables.plan.pairs i ≡ at (pairs_on L s) i
left_pairs L s text t h i l =
    let (full, r) = read_taken L s text t h in
    let (m, p) = read_pairs L s (read_site L s text t h) in
    ap (λ (x : Tables). at x.plan.pairs i) r.tables_are ∙ pairs_at_lem L t full (pairs_on L s) (lines_at L text) r.number (numbers_fit L m (pairs_on L s) p) i l

-- the pairs stand in theirs, and no call writes it
pub tables_hold_site : (L : Limits) → TablesHoldSite L
tables_hold_site L s text t calls h =
    let read = read_is_sound L s text t h in
    let (m, p) = read_pairs L s (read_site L s text t h) in
    subst (λ (x : PlanLists). HoldsPairs (pairs_on L s) x.pairs) (sym (stays_same L _ _ read calls).plan_same)
    (pairs_held L m (pairs_on L s) (read_plan L s text t).tables.plan.pairs p (full_sizes L _ read.full).pairs (left_pairs L s text t h))

-- so the site text of the tables is the one that was read
pub site_given_back : (L : Limits) → SiteGivenBack L
site_given_back L site text t calls h =
    let held = tables_hold_site L (given site) text t calls h in
    let (n, p, e) = read_follows L (given site) (read_site L (given site) text t h) in
    let ns : List ℕ = pairs_on L (given site) in
    let table : List ℕ = (tables_after (step L) (read_plan L (given site) text t).tables calls).plan.pairs in
    let many : pair_count table ≡ n = omega (arith, held.many, p.many) in
    ap (λ (k : ℕ). site_text (pair_count table) (take k table)) held.many ∙ (λ i. site_text (many i) (held.pairs i)) ∙ sym e

-- in the first form the leg into each stop is right only where it is the plain one
pub plain_legs : (L : Limits) → PlainLegs L
plain_legs L s text t h e d k l m =
    let (full, r) = read_taken L s text t h in
    let w : TextTaken L text r.number (lines_at L text) = text_taken L text r.number r.lines_taken in
    let one : w.form ≡ 1 = sym (form_read L w.form text w.routes w.read) ∙ e in
    let same : text_routes L text ≡ w.routes = routes_read L w.form text w.routes w.in_limits w.read in
    subst (λ (x : List Route). (d k : ℕ) → d < (routes_plan (site_meets L s) x).drones → k ≤ (routes_plan (site_meets L s) x).last d → (routes_plan (site_meets L s) x).leg d k ≡ plain_leg k) (sym same)
    (routes_plain L w.form w.routes w.in_limits (site_meets L s) one) d k l m

pub accepted_text : (L : Limits) → AcceptedText L
accepted_text L s text t h =
    let r = read_is_sound L s text t h in
    let p = (read_plan L s text t).tables.plan in
    agree_accepted (text_plan L s text) (plan_of p) (tables_hold_plan L s text t h) (accepted_plan L p r.plan_accepted r.dependencies_own)
