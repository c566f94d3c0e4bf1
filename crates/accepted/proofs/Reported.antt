-- A reading that replies with stops came to the plan check, whose lists hold the text's plan: they are the first stop at fault or the lowest pair of that plan. Assumes
-- nothing.
use mathlib.Core.Path.{◌≡◌, refl, sym, ap, ◌∙◌, subst}
use mathlib.Core.Logic.{◌↔◌}
use mathlib.Core.Bool.{Bool, true, false, cond, false≢true}
use mathlib.Core.List.{List, [], ◌∷◌}
use Prim.Native.Nat.{ℕ}
use lib.Dec.{ltb, leb}
use borrow.Author.Tests.{ltb-false, le-ltb}
use lib.ListN.{length}
use Rattle.below.proofs.Tests.{true_or_false}
use Rattle.tables.specs.Limits.{Limits}
use Rattle.tables.specs.Tables.{PlanLists, Tables, full_size}
use Rattle.tables.specs.Zero.{zeroed_tables}
use Rattle.text.specs.LinesRead.{LinesRead, lines_at}
use Rattle.text.specs.Written.{Route, small_names, lines_of, InLimits}
use Rattle.text.specs.Claims.{PlanOfText}
use Rattle.text.proofs.Capitals.{names_many}
use Rattle.text.proofs.TakenIsWritten.{TextTaken, text_taken}
use Rattle.plan.specs.declared.check.StopAt.{StopAt}
use Rattle.plan.specs.Field.{FieldPlan, PlansAgree, plan_of}
use Rattle.plan.specs.Claims.{owner_in, number_in, HaveStops, StopsChecked, planned_total, planned_list}
use Rattle.plan.proofs.PlansAgree.{agree_back, agree_stops}
use Rattle.reading.specs.Replies.{ReadingReply, taken as Taken, refused_by, refused_at, refused_stop, refused_stops}
use Rattle.reading.specs.Reading.{Site, site_read, ReadingAnswer, with_reply, with_site, with_text, with_dependencies, check_in, after_check, from_lines, after_site, read_plan, read_lines}
use Rattle.accepted.specs.TextPlan.{routes_plan, pairs_on, site_meets, text_plan}
use Rattle.accepted.specs.Reported.{FirstAtFault, LowestPair, ComesToCheck, stop_pair, ReportedOfTexts}
use Rattle.accepted.proofs.RoutesPlan.{HoldsStops, held_stops, held_agree, routes_read}
use Rattle.accepted.proofs.ReadSound.{stored_stops}
use Rattle.accepted.proofs.SiteTexts.{read_pairs, numbers_fit}
use Rattle.accepted.proofs.CheckSays.{fault_exactly, pair_exactly, fault_agrees, lowest-agrees}
use Rattle.lines.specs.declared.refusal.Refusal.{Refusal as LineRefusal}
use Rattle.site.specs.declared.SiteRefusal.{SiteRefusal}
use Rattle.std.specs.Prelude.{⊤, Result, Ok, Err}

-- a reply with stops
abbrev with_stops : ReadingReply → Bool
with_stops Taken = false
with_stops (refused_by n) = false
with_stops (refused_at n o) = false
with_stops (refused_stop n s) = true
with_stops (refused_stops n s u) = true

-- lists with the dependencies of their plan
abbrev with_own : PlanLists → PlanLists
with_own p = record {
  drone_count = p.drone_count;
  dependency_count = planned_total p ∷ [];
  form = p.form;
  names = p.names;
  stop_counts = p.stop_counts;
  locations = p.locations;
  times = p.times;
  legs = p.legs;
  first_drones = planned_list p (λ v w. owner_in p v);
  first_stops = planned_list p (λ v w. number_in p v);
  second_drones = planned_list p (λ v w. owner_in p w);
  second_stops = planned_list p (λ v w. number_in p w);
  pairs = p.pairs;
}

-- well-formed lines are those of a plan, and the other way round
module _ (L : Limits) (text : List ℕ) (n : ℕ) where
  pub well_formed_plan : (lines_at L text).answer ≡ Ok n → PlanOfText L text n
  well_formed_plan h =
      let w : TextTaken L text n (lines_at L text) = text_taken L text n h in
      let e : w.routes ≡ small_names w.typed = w.routes_are in
      record {
        form = w.form;
        typed = w.typed;
        as_typed = w.as_typed;
        many = sym (names_many w.typed) ∙ (ap length (sym e) ∙ w.many);
        in_limits = subst (InLimits L w.form) e w.in_limits;
        read = w.read ∙ ap (lines_of L w.form) e;
      }

  routes_many : (w : PlanOfText L text n) → length (small_names w.typed) ≡ n
  routes_many w = names_many w.typed ∙ w.many

  pub plan_well_formed : PlanOfText L text n → (lines_at L text).answer ≡ Ok n
  plan_well_formed w = ap (λ (f : LinesRead (Result ℕ LineRefusal)). f.answer) w.read ∙ ap Ok (routes_many w)

module _ (L : Limits) where
  built-without : (z t : Tables) (b : Bool) → with_stops (cond b (with_reply Taken (with_dependencies t)) (with_reply (refused_by 11) z)).reply ≡ false
  built-without z t true = refl
  built-without z t false = refl

  -- a reply with stops is the check's
  checked_reply : (z t : Tables) (r : ReadingReply) → with_stops (after_check L z t r).reply ≡ true → r ≡ (after_check L z t r).reply
  checked_reply z t Taken h = true_or_false h (built-without z t (leb (planned_total t.plan) L.dependencies))
  checked_reply z t (refused_by n) h = refl
  checked_reply z t (refused_at n o) h = refl
  checked_reply z t (refused_stop n s) h = refl
  checked_reply z t (refused_stops n s u) h = refl

  reply_checked : (z t : Tables) (r : ReadingReply) → with_stops r ≡ true → (after_check L z t r).reply ≡ r
  reply_checked z t Taken h = absurd (false≢true h)
  reply_checked z t (refused_by n) h = refl
  reply_checked z t (refused_at n o) h = refl
  reply_checked z t (refused_stop n s) h = refl
  reply_checked z t (refused_stops n s u) h = refl

  lines_reply : (z : Tables) (f : LinesRead (Result ℕ LineRefusal)) (a : Result ℕ LineRefusal) → with_stops (from_lines L z f a).reply ≡ true → (m : ℕ) × (a ≡ Ok m) × (check_in (with_text f m z).plan ≡ (from_lines L z f a).reply)
  lines_reply z f (Err x) h = absurd (false≢true h)
  lines_reply z f (Ok m) h = (m, refl, checked_reply (zeroed_tables L z) (with_text f m z) (check_in (with_text f m z).plan) h)

  module _ (s : Site) (text : List ℕ) (t : Tables) where
    -- the tables that the lines are read into, and the lists that the check is made of, m being the number of drones
    abbrev pub blank : Tables
    blank = with_site (pairs_on L s) (zeroed_tables L t)

    abbrev pub checked_lists : ℕ → PlanLists
    checked_lists m = (with_text (lines_at L text) m blank).plan

    abbrev Comes : ReadingReply → Type 0
    Comes r = (c : ComesToCheck L s text t) × (check_in (checked_lists c.number) ≡ r)

    -- after the site text
    site_comes : full_size L t ≡ true → (a : Result ⊤ SiteRefusal) → (site_read L s).answer ≡ a → with_stops (after_site L (pairs_on L s) text t a).reply ≡ true → Comes (after_site L (pairs_on L s) text t a).reply
    unfolding read_lines
    site_comes full (Err r) k h = absurd (false≢true h)
    site_comes full (Ok _) k h = by_length (ltb L.text (length text)) refl (from_lines L blank (lines_at L text) (lines_at L text).answer) (λ q. lines_reply blank (lines_at L text) (lines_at L text).answer q) h
      where
        by_length : (b : Bool) → ltb L.text (length text) ≡ b → (r : ReadingAnswer)
            → (with_stops r.reply ≡ true → (m : ℕ) × ((lines_at L text).answer ≡ Ok m) × (check_in (checked_lists m) ≡ r.reply))
            → with_stops (cond b (with_reply (refused_at 1 L.text) t) r).reply ≡ true
            → Comes (cond b (with_reply (refused_at 1 L.text) t) r).reply
        by_length true g r go h = absurd (false≢true h)
        by_length false g r go h = let (m, w, q) = go h in (record { full = full; site = k; short = ltb-false _ _ g; number = m; lines = well_formed_plan L text m w }, q)

    comes : with_stops (read_plan L s text t).reply ≡ true → Comes (read_plan L s text t).reply
    unfolding read_plan
    comes h = by_size (full_size L t) refl (after_site L (pairs_on L s) text t (site_read L s).answer) (λ full k. site_comes full (site_read L s).answer refl k) h
      where
        by_size : (a : Bool) → full_size L t ≡ a → (r : ReadingAnswer) → (full_size L t ≡ true → with_stops r.reply ≡ true → Comes r.reply)
            → with_stops (cond a r (with_reply (refused_by 41) t)).reply ≡ true → Comes (cond a r (with_reply (refused_by 41) t)).reply
        by_size true e r go h = go e h
        by_size false e r go h = absurd (false≢true h)

    replies : (c : ComesToCheck L s text t) (r : ReadingReply) → with_stops r ≡ true → check_in (checked_lists c.number) ≡ r → (read_plan L s text t).reply ≡ r
    unfolding read_plan read_lines
    replies c r h e =
        rw (c.full, c.site, le-ltb L.text (length text) c.short, plan_well_formed L text c.number c.lines, e) (reply_checked (zeroed_tables L blank) (with_text (lines_at L text) c.number blank) r h)

    -- the lists hold the text's plan
    module _ (c : ComesToCheck L s text t) where
      abbrev pub held_lists : PlanLists
      held_lists = with_own (checked_lists c.number)

      abbrev routes : List Route
      routes = small_names c.lines.typed

      holds : HoldsStops (site_meets L s) routes held_lists
      holds =
          let (m, p) = read_pairs L s c.site in
          let h = stored_stops L t c.full (pairs_on L s) (lines_at L text) c.number c.lines.form routes (routes_many L text c.number c.lines) c.lines.in_limits c.lines.read (numbers_fit L m (pairs_on L s) p) in
          record { meets_are = h.meets_are; drones_are = h.drones_are; counts_are = h.counts_are; locations_are = h.locations_are; times_are = h.times_are; legs_are = h.legs_are }

      pub have : HaveStops held_lists
      have = held_stops L c.lines.form routes c.lines.in_limits held_lists holds

      pub agree : PlansAgree (text_plan L s text) (plan_of held_lists)
      agree = subst (λ (F : FieldPlan). PlansAgree F (plan_of held_lists)) (sym (ap (routes_plan (site_meets L s)) (routes_read L c.lines.form text routes c.lines.in_limits c.lines.read)))
          (held_agree L c.lines.form routes c.lines.in_limits held_lists holds (record { total = refl; first_drones_lem = λ k l. refl; first_stops_lem = λ k l. refl; second_drones_lem = λ k l. refl; second_stops_lem = λ k l. refl }))

    first_fault_lem : (n : ℕ) (x : StopAt) → ((read_plan L s text t).reply ≡ refused_stop n x) ↔ (ComesToCheck L s text t × FirstAtFault (text_plan L s text) n x.drone x.stop)
    first_fault_lem n x = (
      λ h. let (c, e) = comes (ap with_stops h) in
          (c, fault_agrees (plan_of (held_lists c)) (text_plan L s text) (agree_back (agree c)) n x.drone x.stop ((fault_exactly (held_lists c) (have c) n x).0 (e ∙ h))),
      λ (c, f). replies c (refused_stop n x) refl ((fault_exactly (held_lists c) (have c) n x).1 (fault_agrees (text_plan L s text) (plan_of (held_lists c)) (agree c) n x.drone x.stop f)),
    )

    lowest_pair : (n : ℕ) (x u : StopAt) → ((read_plan L s text t).reply ≡ refused_stops n x u) ↔ (ComesToCheck L s text t × (n ≡ 10) × StopsChecked (text_plan L s text) × LowestPair (text_plan L s text) (stop_pair x u))
    lowest_pair n x u = (
      λ h. let (c, e) = comes (ap with_stops h) in
          let (q, stops, k) = (pair_exactly (held_lists c) (have c) n x u).0 (e ∙ h) in
          (c, q, agree_stops (text_plan L s text) (plan_of (held_lists c)) (agree c) stops, lowest-agrees (plan_of (held_lists c)) (text_plan L s text) (agree_back (agree c)) (stop_pair x u) k),
      λ (c, q, stops, k). replies c (refused_stops n x u) refl ((pair_exactly (held_lists c) (have c) n x u).1
          (q, agree_stops (plan_of (held_lists c)) (text_plan L s text) (agree_back (agree c)) stops, lowest-agrees (text_plan L s text) (plan_of (held_lists c)) (agree c) (stop_pair x u) k)),
    )

pub reported_of_texts : (L : Limits) → ReportedOfTexts L
reported_of_texts L = record { first_fault_lem = first_fault_lem L; lowest_pair = lowest_pair L }
