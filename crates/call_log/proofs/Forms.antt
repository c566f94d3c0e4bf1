-- On usable tables the calls read a plan's legs and never its form; with legs of one the rounds are those that take a drone to its next stop. Assumes nothing.
use mathlib.Core.Path.{◌≡◌, refl, sym, ap, ap₂, ◌∙◌, fun_ext, subst}
use mathlib.Core.Logic.{◌≢◌}
use mathlib.Core.Bool.{Bool, true, false, cond, ◌&&◌}
use mathlib.Core.List.{List, [], ◌∷◌}
use Prim.Native.Nat.{ℕ, ◌+◌, ◌≤◌, ◌<◌}
use native.Mathlib.Omega.{arith}
use lib.Dec.{leb, eqb}
use lib.ListN.{length}
use borrow.Author.Tests.{leb-true, eqb-false, le-leb}
use Rattle.below.specs.Below.{at, all_below, first_below, sum_below, pair_before}
use Rattle.below.proofs.Tests.{by_cases, and_left, and_right, and_both}
use Rattle.below.proofs.Every.{all_below-at, all_below_all}
use Rattle.below.proofs.Sum.{sum_ext}
use Rattle.tables.specs.Limits.{Limits}
use Rattle.tables.specs.Legs.{longest_leg, leg_right}
use Rattle.tables.specs.Tables.{PlanLists, Tables, drones, form_of, full_size}
use Rattle.tables.specs.Flags.{set_under_way}
use Rattle.tables.proofs.FlagLaws.{set_keeps_withdrawn}
use Rattle.precedence.specs.Graph.{Plan, play, finished, unvisited, legs_left, visited_after, reached, remaining, cost, makespan, one_round}
use Rattle.precedence.proofs.Agreement.{agree_self, AwaitedIn, awaited_in, SameLegs, legs_left_agree, flown_agree, remaining_agree, makespan_agree}
use Rattle.precedence.proofs.Legs.{one_played, one_left}
use Rattle.near.specs.Near.{listed_in, near, meets_in, pair_count, pair_sound, pairs_sound}
use Rattle.plan.specs.Stops.{start}
use Rattle.plan.specs.Claims.{stop_total, owner_in, number_in, leg_in}
use Rattle.plan.specs.Field.{FieldPlan, plan_of, graph, place_of, Status}
use Rattle.plan.specs.Status.{status_in}
use Rattle.plan.proofs.Numbering.{owner_in_lem, number_is, number_in_lem}
use Rattle.sound.specs.Sound.{in_range, names_sound, site_sound, lists_sound, zeros, passes_check, plan_accepted_lem, dependencies_sound, plan_unused_lem, flags_sound, drone_flags_sound, progress_unused}
use Rattle.sound.proofs.Clauses.{Sound, sound-says, says-sound}
use Rattle.call_log.specs.CallLog.{Call, grant, arrive, withdraw, turn, turn_all, accepted, is_accepted, Reply, Entry, entry_of, status_by, log_of}
use Rattle.call_log.specs.Calls.{Answer, changed_if_accepted, granted, reply_of, grant_step, arrive_step, withdraw_step, turn_step, turn_all_step, step, costs, cost_reply, rounds as lands_after, rounds_reply, AsRead, recorded, tables_after}
use Rattle.call_log.specs.Claims.{Usable}
use Rattle.call_log.specs.Preview.{preview_of, preview, preview_all}
use Rattle.call_log.specs.Delays.{EveryLegOne}
use Rattle.call_log.specs.Forms.{in_form, CountsFullLeg, AsPlain, stops_to_go, all_to_go, FinishesByStops, CountedByStops, FormClaims}
use Rattle.call_log.proofs.Exactly.{granted_exactly}
use Rattle.call_log.proofs.SoundKept.{stays_usable}
use Rattle.sound.proofs.Legs.{accepted_legs}
use Rattle.call_log.proofs.SoundParts.{in_range_lem, after-drones, after_range, legs_plain, accepted_plan}
use Rattle.call_log.proofs.SameStatus.{graph_in}
use Rattle.call_log.proofs.Steps.{reply, cost_0}
use Rattle.call_log.proofs.Costs.{formed}
use Rattle.call_log.proofs.WithdrawalClaims.{keeps_marks}
use Rattle.call_log.proofs.Delays.{form_one_legs}
use Rattle.call_log.proofs.Whole.{demand3}

-- ---- an accepted grant changes neither cost nor rounds

module _ (L : Limits) (t : Tables) where
  abbrev F : FieldPlan
  F = plan_of t.plan

  -- the status with its marks
  abbrev with_marks : (ℕ → Bool) → Status
  with_marks w = record { place = at t.visited; under_way = λ d. false; withdrawn = w; turned = (status_in t).turned }

  marks_same : (d : ℕ) → (status_in (granted t d)).withdrawn ≡ (status_in t).withdrawn
  marks_same d = fun_ext (keeps_marks set_under_way set_keeps_withdrawn t.drone_flags d)

  rounds_0 : Usable L t → rounds_reply L t ≡ lands_after (makespan (graph F (status_in t)) F.leg (place_of F (status_in t)))
  unfolding rounds_reply
  rounds_0 (f, s) = rw (f, s) refl

full_leg : (L : Limits) (t : Tables) (d : ℕ) → (grant_step L t d).reply ≡ accepted → CountsFullLeg L t d
unfolding grant_step
full_leg L t d a =
    let u : Usable L t = ((granted_exactly L t d).0 a).0 in
    let after : Usable L (granted t d) = rw (ap is_accepted a) at (stays_usable L t u (grant d)) in
    record {
      cost_stays = rw (ap is_accepted a) (cost_0 L (granted t d) after.0 after.1 ∙ ap (λ (w : ℕ → Bool). costs (cost (graph (F L t) (with_marks L t w)) (F L t).leg (place_of (F L t) (with_marks L t w)))) (marks_same L t d) ∙ sym (cost_0 L t u.0 u.1));
      rounds_stay = rw (ap is_accepted a) (rounds_0 L (granted t d) after ∙ ap (λ (w : ℕ → Bool). lands_after (makespan (graph (F L t) (with_marks L t w)) (F L t).leg (place_of (F L t) (with_marks L t w)))) (marks_same L t d) ∙ sym (rounds_0 L t u));
    }

-- ---- legs of one in another form

-- every leg of a plan takes one round
right-plain : (L : Limits) (form s g : ℕ) → leg_right L form s g ≡ true → (s ≢ 0 → g ≡ 1) → leg_right L 1 s g ≡ true
unfolding leg_right longest_leg
right-plain L form s g right one = by_cases (eqb s 0)
    (λ e. rw e (rw e at right))
    (λ e. let q : g ≡ 1 = one (eqb-false s 0 e) in rw (e, q) refl)

module _ (L : Limits) (t : Tables) (s : Sound L t) (one : EveryLegOne t) where
  abbrev p : PlanLists
  p = t.plan

  abbrev p' : PlanLists
  p' = (in_form 1 t).plan

  stop-right : (v : ℕ) → v < stop_total p → leg_right L 1 (number_in p v) (leg_in p v) ≡ true
  stop-right v l = right-plain L (form_of p) (number_in p v) (leg_in p v) (accepted_legs L p s.accepted v l) (λ z.
      let at-v : start p.stop_counts (owner_in p v) + number_in p v ≡ v = number_is (drones p) p.stop_counts v l in
      subst (λ (w : ℕ). leg_in p w ≡ 1) at-v (one (owner_in p v) (number_in p v) (owner_in_lem (drones p) p.stop_counts v l) (omega arith) (omega (arith, number_in_lem (drones p) p.stop_counts v l))))

  range_plain : in_range L p' ≡ true
  unfolding in_range
  range_plain =
      let h₁ = after-drones L p s.accepted in
      let form = and_left (leb 1 (form_of p) && leb (form_of p) L.form) _ h₁ in
      let h₂ = and_right (leb 1 (form_of p) && leb (form_of p) L.form) _ h₁ in
      let h₃ = and_right (all_below (drones p) (λ d. leb 1 (at p.stop_counts d))) _ h₂ in
      let h₄ = and_right (leb (stop_total p) L.stops) _ h₃ in
      let lowest : 1 ≤ form_of p = leb-true 1 (form_of p) (and_left _ _ form) in
      let known : form_of p ≤ L.form = leb-true (form_of p) L.form (and_right (leb 1 (form_of p)) _ form) in
      let some : (leb 1 (drones p) && leb (drones p) L.drones) ≡ true = and_left _ _ (in_range_lem L p s.accepted) in
      let stopped : all_below (drones p) (λ d. leb 1 (at p.stop_counts d)) ≡ true = and_left _ _ h₂ in
      let few : leb (stop_total p) L.stops ≡ true = and_left _ _ h₃ in
      let each : all_below (stop_total p) (λ v. leb (at p.locations v) L.location && (leb (at p.times v) L.time && leg_right L 1 (number_in p v) (leg_in p v))) ≡ true = all_below_all (stop_total p) _ (λ v l.
      let x = all_below-at (stop_total p) _ h₄ v l in
      let location-in : leb (at p.locations v) L.location ≡ true = and_left _ _ x in
      let time-in : leb (at p.times v) L.time ≡ true = and_left _ _ (and_right (leb (at p.locations v) L.location) _ x) in
      and_both _ _ location-in (and_both _ _ time-in (stop-right v l))) in
      and_both _ _ some (and_both _ _ (le-leb 1 L.form (omega arith)) (and_both _ _ stopped (and_both _ _ few each)))

  sound-plain : Sound L (in_form 1 t)
  unfolding plan_accepted_lem names_sound site_sound lists_sound zeros pairs_sound pair_sound pair_before pair_count meets_in near listed_in passes_check dependencies_sound plan_unused_lem flags_sound drone_flags_sound progress_unused
  sound-plain = record {
    accepted = and_both _ _ range_plain (after_range L p s.accepted);
    dependencies_own = s.dependencies_own;
    flags_right = s.flags_right;
    fixed_unturned_lem = s.fixed_unturned_lem;
    no_cycle = s.no_cycle;
    drone_flags = s.drone_flags;
    within = s.within;
    waits_kept_lem = s.waits_kept_lem;
    plan_unused = s.plan_unused;
    progress_unused_lem = s.progress_unused_lem;
  }

full-plain : (L : Limits) (t : Tables) → full_size L t ≡ true → full_size L (in_form 1 t) ≡ true
unfolding full_size
full-plain L t f =
    let h₁ = and_right (leb 1 (length t.plan.drone_count)) _ f in
    let h₂ = and_right (leb 1 (length t.plan.dependency_count)) _ h₁ in
    let one-count : leb 1 (length t.plan.drone_count) ≡ true = and_left _ _ f in
    let another : leb 1 (length t.plan.dependency_count) ≡ true = and_left _ _ h₁ in
    and_both _ _ one-count (and_both _ _ another (and_right (leb 1 (length t.plan.form)) _ h₂))

usable_plain : (L : Limits) (t : Tables) → Usable L t → EveryLegOne t → Usable L (in_form 1 t)
usable_plain L t (f, s) one = (full-plain L t f, says-sound L (in_form 1 t) (sound-plain L t (sound-says L t s) one))

-- what an accepted call leaves, in the other form
changed : (t x : Tables) (r r' : Reply) → r' ≡ r → changed_if_accepted (in_form 1 t) r' (in_form 1 x) ≡ record { reply = r; tables = in_form 1 (cond (is_accepted r) x t) }
changed t x r r' q = rw q (go (is_accepted r))
  where
    go : (b : Bool) → ◌≡◌ {A = Answer} (record { reply = r; tables = cond b (in_form 1 x) (in_form 1 t) }) (record { reply = r; tables = in_form 1 (cond b x t) })
    go true = refl
    go false = refl

-- a call leaves the plan
left : (b : Bool) (t x : Tables) → x.plan ≡ t.plan → (cond b x t).plan ≡ t.plan
left true t x q = q
left false t x q = refl

plan_left : (L : Limits) (t : Tables) (c : Call) → (step L t c).tables.plan ≡ t.plan
unfolding grant_step arrive_step withdraw_step turn_step turn_all_step
plan_left L t (grant d) = left (is_accepted (reply_of L t (grant d))) t _ refl
plan_left L t (arrive d) = left (is_accepted (reply_of L t (arrive d))) t _ refl
plan_left L t (withdraw d) = left (is_accepted (reply_of L t (withdraw d))) t _ refl
plan_left L t (turn w) = left (is_accepted (reply_of L t (turn w))) t _ refl
plan_left L t (turn_all ws) = left (is_accepted (reply_of L t (turn_all ws))) t _ refl

module _ (L : Limits) where
  same_reply_lem : (t : Tables) → Usable L t → EveryLegOne t → (c : Call) → reply_of L (in_form 1 t) c ≡ reply_of L t c
  same_reply_lem t u one c = let u' = usable_plain L t u one in reply L (in_form 1 t) u'.0 u'.1 c ∙ sym (reply L t u.0 u.1 c)

  one_step : (t : Tables) → Usable L t → EveryLegOne t → (c : Call) → step L (in_form 1 t) c ≡ record { reply = (step L t c).reply; tables = in_form 1 (step L t c).tables }
  unfolding grant_step arrive_step withdraw_step turn_step turn_all_step
  one_step t u one (grant d) = changed t _ _ _ (same_reply_lem t u one (grant d))
  one_step t u one (arrive d) = changed t _ _ _ (same_reply_lem t u one (arrive d))
  one_step t u one (withdraw d) = changed t _ _ _ (same_reply_lem t u one (withdraw d))
  one_step t u one (turn w) = changed t _ _ _ (same_reply_lem t u one (turn w))
  one_step t u one (turn_all ws) = changed t _ _ _ (same_reply_lem t u one (turn_all ws))

  legs_after : (t : Tables) → EveryLegOne t → (c : Call) → EveryLegOne (step L t c).tables
  legs_after t one c = subst (λ (x : PlanLists). (d s : ℕ) → d < (plan_of x).drones → 0 < s → s ≤ (plan_of x).last d → (plan_of x).leg d s ≡ 1) (sym (plan_left L t c)) one

  replies_plain : (calls : List Call) (t : Tables) → Usable L t → EveryLegOne t → recorded (step L) (in_form 1 t) calls ≡ recorded (step L) t calls
  unfolding recorded
  replies_plain [] t u one = refl
  replies_plain (c ∷ cs) t u one = rw (one_step t u one c) (ap (λ (es : List Entry). entry_of c (step L t c).reply ∷ es) (replies_plain cs (step L t c).tables (stays_usable L t u c) (legs_after t one c)))

  tables_plain : (calls : List Call) (t : Tables) → Usable L t → EveryLegOne t → tables_after (step L) (in_form 1 t) calls ≡ in_form 1 (tables_after (step L) t calls)
  unfolding tables_after
  tables_plain [] t u one = refl
  tables_plain (c ∷ cs) t u one = rw (one_step t u one c) (tables_plain cs (step L t c).tables (stays_usable L t u c) (legs_after t one c))

  cost-plain : (t : Tables) → Usable L t → EveryLegOne t → cost_reply L (in_form 1 t) ≡ cost_reply L t
  cost-plain t u one = let u' = usable_plain L t u one in cost_0 L (in_form 1 t) u'.0 u'.1 ∙ sym (cost_0 L t u.0 u.1)

  preview-plain : (t : Tables) → Usable L t → EveryLegOne t → (c : Call) → preview_of L (in_form 1 t) (step L (in_form 1 t) c) ≡ preview_of L t (step L t c)
  preview-plain t u one c = rw (one_step t u one c, cost-plain (step L t c).tables (stays_usable L t u c) (legs_after t one c), cost-plain t u one) refl

  as_plain : (t : Tables) → Usable L t → EveryLegOne t → AsPlain L t
  unfolding preview preview_all
  as_plain t u one = record {
    usable_too = usable_plain L t u one;
    same_replies = λ calls. replies_plain calls t u one;
    same_tables = λ calls. tables_plain calls t u one;
    same_cost = cost-plain t u one;
    same_rounds = rounds_0 L (in_form 1 t) (usable_plain L t u one) ∙ sym (rounds_0 L t u);
    same_preview = λ w. preview-plain t u one (turn w);
    same_preview_all = λ ws. preview-plain t u one (turn_all ws);
  }

-- ---- legs of one are rounds that take a drone to its next stop

module _ (P : Plan) (inside : AwaitedIn P) (leg : ℕ → ℕ → ℕ) (legs : SameLegs P leg one_round) (p : ℕ → ℕ) where
  remaining_stops : (d : ℕ) → d < P.drones → remaining P leg p d ≡ stops_to_go P p d
  unfolding remaining reached
  remaining_stops d l =
      remaining_agree P P (agree_self P) inside leg one_round legs p p (λ d l. refl) d l
      ∙ ap₂ (λ (n : ℕ) (f : ℕ → ℕ → ℕ). first_below n (λ k. leb (P.last d) (f k d))) (one_left P p) (fun_ext (one_played P p))

  cost_stops : cost P leg p ≡ sum_below P.drones (stops_to_go P p)
  unfolding cost
  cost_stops = sum_ext P.drones _ _ remaining_stops

  makespan_stops : makespan P leg p ≡ all_to_go P p
  unfolding makespan
  makespan_stops =
      makespan_agree P P (agree_self P) inside leg one_round legs p p (λ d l. refl)
      ∙ ap₂ (λ (n : ℕ) (f : ℕ → ℕ → ℕ). first_below n (λ k. finished P (f k))) (one_left P p) (fun_ext (one_played P p))

  left_stops : legs_left P leg p ≡ unvisited P p
  left_stops = legs_left_agree P P (agree_self P) inside leg one_round legs p p (λ d l. refl) ∙ one_left P p

  finished_stops : (k : ℕ) → finished P (visited_after P leg p k) ≡ finished P (play P p k)
  finished_stops k = flown_agree P P (agree_self P) inside leg one_round legs p p (λ d l. refl) k ∙ ap (finished P) (one_played P p k)

by_stops : (L : Limits) (t : Tables) → Usable L t → EveryLegOne t → CountedByStops L t
by_stops L t u one =
    let F = plan_of t.plan in
    let G = graph F (status_in t) in
    let inside = awaited_in G (formed L t (sound-says L t u.1)) in
    record {
      cost_is = cost_0 L t u.0 u.1 ∙ ap costs (cost_stops G inside F.leg one (place_of F (status_in t)));
      rounds_are = rounds_0 L t u ∙ ap lands_after (makespan_stops G inside F.leg one (place_of F (status_in t)));
    }

plain_finishes : (L : Limits) (lists : PlanLists) (t : Tables) (calls : List Call) → AsRead L lists t → form_of lists ≡ 1 → FinishesByStops (plan_of lists) (log_of (plan_of lists) calls)
plain_finishes L lists t calls read q =
    let F = plan_of lists in
    let s = status_by (log_of F calls) in
    let G = graph F s in
    let inside = graph_in F (accepted_plan L lists read.plan_accepted read.dependencies_own) s in
    let one : SameLegs G F.leg one_round = λ d k l o h. legs_plain L lists read.plan_accepted d k l o h q in
    let (r, within, done) = (demand3 L lists t calls read).finishes in
    (r, omega (arith, within, left_stops G inside F.leg one (place_of F s)), sym (finished_stops G inside F.leg one (place_of F s) r) ∙ done)

pub form_claims : FormClaims
form_claims = record {
  full_leg = full_leg;
  as_plain = as_plain;
  by_stops = by_stops;
  plain_by_stops = λ L t u q. by_stops L t u (form_one_legs L t u.1 q);
  plain_finishes = plain_finishes;
}
