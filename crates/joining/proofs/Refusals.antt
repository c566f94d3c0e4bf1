-- What reading a joined text can say: 1, 4, 5, 6, 10 and 11 and no other number, 4, 5 and 6 at the first line at fault, and never one of a single stop; and what each leaves. Assumes nothing.
use mathlib.Core.Path.{◌≡◌, refl, sym, ap, ◌∙◌, subst}
use mathlib.Core.Logic.{◌⊎◌, ◌≢◌, inl, inr}
use mathlib.Core.Bool.{Bool, true, false}
use mathlib.Core.List.{List, [], ◌∷◌, ◌++◌}
use Prim.Native.Nat.{ℕ, zero, suc, ◌+◌, ◌-◌, ◌^◌, ◌≤◌, ◌<◌}
use native.Mathlib.Omega.{arith}
use lib.Dec.{ltb, leb}
use borrow.Author.Tests.{ltb-true, ltb-false}
use lib.ListN.{length, length-append}
use Rattle.below.specs.Below.{at}
use Rattle.below.proofs.Tests.{by_cases}
use Rattle.tables.specs.Limits.{Limits}
use Rattle.tables.specs.Tables.{Tables, form_of, full_size}
use Rattle.tables.specs.Zero.{zeroed_tables}
use Rattle.lines.specs.Numbers.{SevenDigits}
use Rattle.lines.specs.declared.refusal.Refusal.{Refusal}
use Rattle.lines.specs.declared.refusal.Refusal.TheVariants.{Range}
use Rattle.site.specs.Site.{PairList}
use Rattle.text.specs.LinesRead.{LinesRead, lines_at}
use Rattle.text.specs.Written.{Route, routes_text, InLimits}
use Rattle.text.proofs.Capitals.{names_many}
use Rattle.text.proofs.RoundTrips.{round_trip}
use Rattle.plan.specs.declared.check.StopAt.{StopAt}
use Rattle.plan.specs.Answers.{check_of}
use Rattle.plan.specs.Claims.{StopsChecked, visits_in, leg_in, planned_total}
use Rattle.plan.specs.Field.{FieldPlan}
use Rattle.sound.proofs.Clauses.{sound-says}
use Rattle.call_log.specs.Claims.{Usable}
use Rattle.reading.specs.Replies.{ReadingReply, taken, refused_by, refused_at, refused_stop, refused_stops, is_taken, line_meant, check_meant}
use Rattle.reading.specs.Reading.{Site, given, site_read, ReadingAnswer, with_reply, with_site, with_text, after_check, from_lines, read_lines, read_plan}
use Rattle.accepted.specs.TextPlan.{route_at, routes_plan, text_routes, site_meets, text_plan}
use Rattle.accepted.specs.Claims.{own_site}
use Rattle.accepted.specs.Reported.{Breaks}
use Rattle.accepted.proofs.SiteRead.{site_long, site_lines, other_readings}
use Rattle.accepted.proofs.RoutesPlan.{routes_read}
use Rattle.accepted.proofs.Reported.{reported_of_texts}
use Rattle.accepted.proofs.SoundAccepted.{numbers, stops_checked, own_site_lem}
use Rattle.copying.specs.Reckoned.{text_reckoned, AllInRange}
use Rattle.copying.specs.Claims.{RouteAtFault}
use Rattle.copying.proofs.Offsets.{offsets_reckoned, well_formed_valid}
use Rattle.copying.proofs.PairLaws.{range_append, read_reckoned}
use Rattle.copying.proofs.Wider.{all_in_range_wider}
use Rattle.joining.specs.Joining.{routes_of_plan, joined_form, joined_text}
use Rattle.joining.proofs.SoundWrites.{range_from, routes_are, plan_in-limits}
use Rattle.plan.specs.declared.check.PlanFault.TheVariants as check
use Rattle.plan.specs.declared.check.PlanFault.{PlanFault}
use Rattle.site.specs.declared.SiteRefusal.{SiteRefusal}
use Rattle.std.specs.Prelude.{⊤, Result, Ok, Err}

-- ---- the replies, one by one

-- the refusal r is that of the first line at fault: 4 of too many drones, or 5 or 6 of a drone
abbrev pub Fault : Limits → ℕ → List Route → Refusal → Type 0
Fault L form ds r = ((L.drones < length ds) × (r ≡ Range 7)) ⊎ ((length ds ≤ L.drones) × RouteAtFault L form ds r)

-- the answer to reading the text of routes in a form into the tables t
pub data Said (L : Limits) (form : ℕ) (ds : List Route) (t : Tables) (v : ReadingAnswer) : Type 0 where
  is_taken_lem : v.reply ≡ taken → Said L form ds t v
  too_long : v ≡ with_reply (refused_at 1 L.text) t → Said L form ds t v
  at_line : (r : Refusal) → Fault L form ds r → v ≡ with_reply (line_meant r) (zeroed_tables L t) → Said L form ds t v
  collided : (s u : StopAt) → v ≡ with_reply (refused_stops 10 s u) (zeroed_tables L t) → Said L form ds t v
  too_many_lem : v ≡ with_reply (refused_by 11) (zeroed_tables L t) → Said L form ds t v

module _ (L : Limits) (s : Site) (form : ℕ) (ds : List Route) (t : Tables) (full : full_size L t ≡ true) (fine : (site_read L s).answer ≡ Ok tt)
    (read : lines_at L (routes_text form ds) ≡ text_reckoned L form ds) (no_stop : (n : ℕ) (x : StopAt) → (read_plan L s (routes_text form ds) t).reply ≡ refused_stop n x → ⊥) where
  abbrev text : List ℕ
  text = routes_text form ds

  abbrev answer : ReadingAnswer
  answer = read_plan L s text t

  -- the tables that the lines are read into
  abbrev blank : Tables
  blank = with_site (site_read L s).numbers (zeroed_tables L t)

  module _ (short : length text ≤ L.text) where
    -- a refusal leaves zeroed tables
    refused_by_lem : (r : ReadingReply) → is_taken r ≡ false → answer.reply ≡ r → answer ≡ with_reply r (zeroed_tables L t)
    refused_by_lem r e h = let q = other_readings L s text t full short (ap is_taken h ∙ e) in λ i. with_reply (h i) (q i)

    by_check : (x : Tables) (k : Result ⊤ PlanFault) → answer.reply ≡ (after_check L (zeroed_tables L blank) x (check_meant k)).reply → Said L form ds t answer
    by_check x (Ok _) h = by_cases (leb (planned_total x.plan) L.dependencies)
        (λ o. is_taken_lem (rw o at h))
        (λ o. too_many_lem (refused_by_lem (refused_by 11) refl (rw o at h)))
    by_check x (Err (check.StartsLate y)) h = absurd (no_stop 7 y h)
    by_check x (Err (check.NotRising y)) h = absurd (no_stop 8 y h)
    by_check x (Err (check.LegTooLong y)) h = absurd (no_stop 12 y h)
    by_check x (Err (check.SameLocation y)) h = absurd (no_stop 9 y h)
    by_check x (Err (check.Collision y z)) h = collided y z (refused_by_lem (refused_stops 10 y z) refl h)

    by_lines : (f : LinesRead (Result ℕ Refusal)) (a : Result ℕ Refusal) → (lines_at L text).answer ≡ a → answer.reply ≡ (from_lines L blank f a).reply → Said L form ds t answer
    by_lines f (Err r) q h =
        at_line r (offsets_reckoned L form ds r (sym (ap (λ (w : LinesRead (Result ℕ Refusal)). w.answer) read) ∙ q)) (refused_by_lem (line_meant r) refl h)
    by_lines f (Ok m) q h = by_check (with_text f m blank) (check_of (visits_in (with_text f m blank).plan) (leg_in (with_text f m blank).plan)) h

  said : Said L form ds t answer
  unfolding read_lines
  said = by_cases (ltb L.text (length text))
      (λ l. too_long (site_long L s text t full fine (ltb-true _ _ l)))
      (λ l. let short = ltb-false L.text (length text) l in
      by_lines short (lines_at L text) (lines_at L text).answer refl (ap (λ (x : ReadingAnswer). x.reply) (site_lines L s text t full fine short)))

-- ---- of one stop: never

-- what the plan check asks of a route by itself
abbrev Good : Route → Type 0
Good r = (at r.times 0 ≡ 0)
    × ((s : ℕ) → s < length r.locations - 1 → at r.times s < at r.times (suc s))
    × ((s : ℕ) → s < length r.locations - 1 → at r.times s + at r.legs (suc s) ≤ at r.times (suc s))
    × ((s : ℕ) → s < length r.locations - 1 → at r.locations s ≢ at r.locations (suc s))

each_good : (ds es : List Route) → ((d : ℕ) → d < length ds → Good (route_at ds d)) → ((d : ℕ) → d < length es → Good (route_at es d)) → (d : ℕ) → d < length (ds ++ es) → Good (route_at (ds ++ es) d)
each_good [] es f g d l = g d l
each_good (r ∷ ds) es f g zero l = f zero (omega arith)
each_good (r ∷ ds) es f g (suc d) l = each_good ds es (λ k m. f (suc k) (omega (arith, m))) g d (omega (arith, l))

-- single stops that pass, pass beside other routes
both_checked : (m : ℕ → ℕ → Bool) (ds es : List Route) → StopsChecked (routes_plan m ds) → StopsChecked (routes_plan m es) → StopsChecked (routes_plan m (ds ++ es))
both_checked m ds es p q =
    let g = each_good ds es (λ d l. (p.starts d l, λ s k. p.rises d s l k, λ s k. p.rises_by_leg d s l k, λ s k. p.moves d s l k)) (λ d l. (q.starts d l, λ s k. q.rises d s l k, λ s k. q.rises_by_leg d s l k, λ s k. q.moves d s l k)) in
    record { starts = λ d l. (g d l).0; rises = λ d s l k. (g d l).1 s k; rises_by_leg = λ d s l k. (g d l).2 s k; moves = λ d s l k. (g d l).3 s k }

no_break : (F : FieldPlan) → StopsChecked F → (n d s : ℕ) → d < F.drones → s ≤ F.last d → Breaks F n d s → ⊥
no_break F c n d zero l k (e, b) = b (c.starts d l)
no_break F c n d (suc s) l k (inl (e, b)) = omega (arith, b, c.rises d s l (omega (arith, k)))
no_break F c n d (suc s) l k (inr (inl (e, b))) = omega (arith, b, c.rises_by_leg d s l (omega (arith, k)))
no_break F c n d (suc s) l k (inr (inr (e, b))) = c.moves d s l (omega (arith, k)) (sym b)

module _ (L : Limits) (seven : SevenDigits L) (site : Site) (form : ℕ) (ds : List Route) (known : 1 ≤ form) (knows : form ≤ L.form) (some : 1 ≤ length ds) (v : AllInRange L form ds)
    (read : lines_at L (routes_text form ds) ≡ text_reckoned L form ds) (c : (m : ℕ → ℕ → Bool) → StopsChecked (routes_plan m ds)) (t : Tables) where
  no_stop : (n : ℕ) (s : StopAt) → (read_plan L site (routes_text form ds) t).reply ≡ refused_stop n s → ⊥
  no_stop n s h =
      let (come, first) = ((reported_of_texts L).first_fault_lem site (routes_text form ds) t n s).0 h in
      let w : (lines_at L (routes_text form ds)).answer ≡ Ok come.number =
      ap (λ (x : LinesRead (Result ℕ Refusal)). x.answer) come.lines.read ∙ ap Ok (names_many come.lines.typed ∙ come.lines.many) in
      let k : InLimits L form ds = well_formed_valid L form ds come.number known knows some v (sym (ap (λ (x : LinesRead (Result ℕ Refusal)). x.answer) read) ∙ w) in
      let e : text_routes L (routes_text form ds) ≡ ds = routes_read L form (routes_text form ds) ds k ((round_trip L seven).written_is_read form ds k) in
      let c' : StopsChecked (text_plan L site (routes_text form ds)) = subst (λ (x : List Route). StopsChecked (routes_plan (site_meets L site) x)) (sym e) (c (site_meets L site)) in
      no_break (text_plan L site (routes_text form ds)) c' n s.drone s.stop first.drone_in first.stop_in first.broken

-- ---- two plans in usable tables

-- the single stops of a plan in usable tables pass
checked_in : (L : Limits) (t : Tables) → Usable L t → (m : ℕ → ℕ → Bool) → StopsChecked (routes_plan m (routes_of_plan L t.plan))
checked_in L t (full, s) m = subst (λ (ds : List Route). StopsChecked (routes_plan m ds)) (routes_are L t full s) (stops_checked L t full (sound-says L t s) m)

-- what is asked of the limits: numbers have at most seven digits, that of both plans' drones too, and there is a leg
pub record Premises (L : Limits) : Type 0 where
  pub seven : SevenDigits L
  pub few : L.drones + L.drones < 10 ^ 7
  pub leg : 1 ≤ L.leg

module _ (L : Limits) (given-of : Premises L) (a b : Tables) (first : Usable L a) (second : Usable L b) where
  abbrev pub both : List Route
  both = routes_of_plan L a.plan ++ routes_of_plan L b.plan

  abbrev pub form : ℕ
  form = joined_form a.plan b.plan

  abbrev la : InLimits L (form_of a.plan) (routes_of_plan L a.plan)
  la = plan_in-limits L a first.0 first.1

  abbrev lb : InLimits L (form_of b.plan) (routes_of_plan L b.plan)
  lb = plan_in-limits L b second.0 second.1

  pub known : 1 ≤ form
  known = omega (arith, la.3)

  pub knows : form ≤ L.form
  knows = omega (arith, la.4, lb.4)

  pub some : 1 ≤ length both
  some = omega (arith, length-append (routes_of_plan L a.plan) (routes_of_plan L b.plan), la.0)

  pub few_both : length both < 10 ^ 7
  few_both = omega (arith, length-append (routes_of_plan L a.plan) (routes_of_plan L b.plan), la.1, lb.1, given-of.few)

  pub in_range_lem : AllInRange L form both
  in_range_lem = range_append L form (routes_of_plan L a.plan) (routes_of_plan L b.plan)
      (all_in_range_wider L (form_of a.plan) form la.3 (omega arith) given-of.leg (routes_of_plan L a.plan) (range_from L (form_of a.plan) (routes_of_plan L a.plan) [] 0 la.2))
      (all_in_range_wider L (form_of b.plan) form lb.3 (omega arith) given-of.leg (routes_of_plan L b.plan) (range_from L (form_of b.plan) (routes_of_plan L b.plan) [] 0 lb.2))

  pub both_read : lines_at L (routes_text form both) ≡ text_reckoned L form both
  both_read = read_reckoned L given-of.seven form both known knows some few_both in_range_lem

  checked : (m : ℕ → ℕ → Bool) → StopsChecked (routes_plan m both)
  checked m = both_checked m (routes_of_plan L a.plan) (routes_of_plan L b.plan) (checked_in L a first m) (checked_in L b second m)

  -- the site text of the first plan's pairs is taken
  pub site_taken : site_read L (given (own_site a)) ≡ record { numbers = numbers L a first.0 (sound-says L a first.1); answer = Ok tt }
  site_taken = own_site_lem L a first.0 (sound-says L a first.1) given-of.seven.location

  pub joined_said : (t : Tables) → full_size L t ≡ true → Said L form both t (read_plan L (given (own_site a)) (joined_text L a.plan b.plan) t)
  unfolding joined_text
  joined_said t full =
      said L (given (own_site a)) form both t full (ap (λ (x : PairList (Result ⊤ SiteRefusal)). x.answer) site_taken) both_read (no_stop L given-of.seven (given (own_site a)) form both known knows some in_range_lem both_read checked t)
