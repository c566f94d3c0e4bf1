-- The parts that the code tests are together the sound test: each clause follows from the parts, and each part from the clauses. Assumes nothing.
use mathlib.Core.Path.{◌≡◌, refl, sym, ap, ◌∙◌}
use mathlib.Core.List.{List}
use mathlib.Core.Bool.{Bool, true, false, not, cond, ◌&&◌, ◌||◌}
use Prim.Native.Nat.{ℕ, ◌+◌, ◌-◌, ◌*◌, ◌/◌, ◌≤◌, ◌<◌}
use native.Mathlib.Omega.{arith}
use lib.Dec.{ltb, leb, eqb}
use lib.ListN.{length, get_or}
use borrow.Author.Tests.{ltb-true, leb-true, eqb-true, lt-ltb, le-leb, eq-eqb, not-true}
use Rattle.below.specs.Below.{all_below, at, pick}
use Rattle.below.proofs.Tests.{and_left, and_right, and_both, same_test}
use Rattle.below.proofs.Every.{all_below-at, all_below_all, all_below_ext}
use Rattle.tables.specs.Limits.{Limits, most_pairs}
use Rattle.tables.specs.Tables.{PlanLists, Tables, drones, dependencies, form_of}
use Rattle.tables.specs.Legs.{leg_right}
use Rattle.tables.specs.Flags.{turned_bit, under_way_bit, withdrawn_bit, only_two_bits}
use Rattle.near.specs.Near.{pairs_sound, SoundPairs}
use Rattle.precedence.specs.Graph.{cyclic}
use Rattle.plan.specs.Stops.{start}
use Rattle.plan.specs.Check.{fault_at, first_fault, apart}
use Rattle.plan.specs.Dependencies.{follows, dependency_total, exact, right}
use Rattle.plan.specs.Field.{Dependency, plan_of, in_force, wait_of, graph, fixed}
use Rattle.plan.specs.Status.{status_in, entered, fixed_unturned, within_stops, waits_kept}
use Rattle.plan.specs.Claims.{Numbered, number_in, owner_in, visits_in, planned_list}
use Rattle.plan.proofs.Numbering.{numbered}
use Rattle.plan.proofs.Conditions.{fault_says, says_fault, first_fault-says, says-first_fault}
use Rattle.sound.specs.Sound.{zero_from, zeros, after_pairs, name_sound, names_differ, in_range, names_sound, site_sound, lists_sound, passes_check, plan_accepted_lem, dependencies_sound, plan_unused_lem, flags_sound, drone_flags_sound, progress_unused, sound}
use Rattle.sound.specs.Parts.{counts_sound, stop_sound, stop_in_lem, flag_right, drone_sound, entered_by, wait_kept, order_kept, kept_at, visits_by, graph_part}
use Rattle.sound.specs.Asked.{Counted}
use Rattle.sound.proofs.Asking.{stop_drone}
use Rattle.sound.proofs.Columns.{NamesPair, columns_name, HoldsColumns, names_columns}
use Rattle.sound.proofs.Clauses.{Sound, sound-says, says-sound}

-- what the counts' part says
module _ (L : Limits) (drones form : ℕ) (counts : List ℕ) (m : ℕ) where
  pub record CountsSay : Type 0 where
    pub some_drone : 1 ≤ drones
    pub few_drones : drones ≤ L.drones
    pub some_form : 1 ≤ form
    pub known_form : form ≤ L.form
    pub few_dependencies : m ≤ L.dependencies
    pub have_stops : (d : ℕ) → d < drones → 1 ≤ at counts d
    pub few_stops : start counts drones ≤ L.stops

  pub counts_say : counts_sound L drones form counts m ≡ true → CountsSay
  unfolding counts_sound
  counts_say h =
      let a = and_right (leb 1 drones) _ h in
      let b = and_right (leb drones L.drones) _ a in
      let f = and_right (leb 1 form) _ b in
      let g = and_right (leb form L.form) _ f in
      let c = and_right (leb m L.dependencies) _ g in
      record {
        some_drone = leb-true 1 drones (and_left _ _ h);
        few_drones = leb-true drones L.drones (and_left _ _ a);
        some_form = leb-true 1 form (and_left _ _ b);
        known_form = leb-true form L.form (and_left _ _ f);
        few_dependencies = leb-true m L.dependencies (and_left _ _ g);
        have_stops = λ d l. leb-true 1 (at counts d) (all_below-at drones (λ d. leb 1 (at counts d)) (and_left _ _ c) d l);
        few_stops = leb-true (start counts drones) L.stops (and_right (all_below drones (λ d. leb 1 (at counts d))) _ c);
      }

  say_counts : CountsSay → counts_sound L drones form counts m ≡ true
  unfolding counts_sound
  say_counts s = rw (le-leb 1 drones s.some_drone, le-leb drones L.drones s.few_drones, le-leb 1 form s.some_form, le-leb form L.form s.known_form, le-leb m L.dependencies s.few_dependencies, all_below_all drones (λ d. leb 1 (at counts d)) (λ d l. le-leb 1 (at counts d) (s.have_stops d l)), le-leb (start counts drones) L.stops s.few_stops) refl

module _ (L : Limits) (t : Tables) where
  abbrev p : PlanLists
  p = t.plan

  abbrev D : ℕ
  D = drones p

  abbrev M : ℕ
  M = dependencies p

  abbrev form : ℕ
  form = form_of p

  abbrev counts : List ℕ
  counts = p.stop_counts

  abbrev n : ℕ
  n = start counts D

  abbrev loc : ℕ → ℕ
  loc = at p.locations

  abbrev time : ℕ → ℕ
  time = at p.times

  abbrev leg : ℕ → ℕ
  leg = at p.legs

  abbrev fd : ℕ → ℕ
  fd = at p.first_drones

  abbrev fs : ℕ → ℕ
  fs = at p.first_stops

  abbrev sd : ℕ → ℕ
  sd = at p.second_drones

  abbrev ss : ℕ → ℕ
  ss = at p.second_stops

  -- the parts as the code tests them
  abbrev pub names_part : Bool
  names_part = (all_below D (name_sound L p.names) && names_differ L p.names D) && (pairs_sound L p.pairs && zeros (after_pairs p.pairs))

  abbrev pub graph-part : Bool
  graph-part = graph_part D n M counts p.locations p.times p.legs p.first_drones p.first_stops p.second_drones p.second_stops p.pairs L form t.drone_flags t.flags

  abbrev pub drones-part : Bool
  drones-part = all_below D (λ d. drone_sound (at counts d - 1) (at t.visited d) (at t.drone_flags d))

  abbrev pub waits_part : Bool
  waits_part = all_below M (kept_at t.visited t.drone_flags p.first_drones p.first_stops p.second_drones p.second_stops t.flags)

  abbrev pub unused_from : ℕ → ℕ → ℕ → Bool
  unused_from d v m = zero_from (d * L.name) (L.drones * L.name) p.names
      && ((zero_from d L.drones counts && (zero_from v L.stops p.locations && (zero_from v L.stops p.times && zero_from v L.stops p.legs)))
      && (zero_from m L.dependencies p.first_drones && (zero_from m L.dependencies p.first_stops && (zero_from m L.dependencies p.second_drones && zero_from m L.dependencies p.second_stops))))

  abbrev pub plan_unused-part : Bool
  plan_unused-part = unused_from D n M

  abbrev pub progress_from : ℕ → ℕ → Bool
  progress_from d m = zero_from d L.drones t.visited && (zero_from d L.drones t.drone_flags && zero_from m L.dependencies t.flags)

  abbrev pub progress_unused-part : Bool
  progress_unused-part = progress_from D M

  pub record Parts : Type 0 where
    pub counts_part : counts_sound L D form counts M ≡ true
    pub names_sound_lem : names_part ≡ true
    pub graph-sound : graph-part ≡ true
    pub drones-sound : drones-part ≡ true
    pub waits_sound : waits_part ≡ true
    pub plan_zero : plan_unused-part ≡ true
    pub progress-zero : progress_unused-part ≡ true

  -- the plan, its dependencies and its graph, fact by fact: between the clauses and the parts
  pub record GraphSay : Type 0 where
    pub in_place : (v : ℕ) → v < n → loc v ≤ L.location
    pub in_time : (v : ℕ) → v < n → time v ≤ L.time
    pub leg_right_lem : (v : ℕ) → v < n → leg_right L form (number_in p v) (leg v) ≡ true
    pub no_fault : (v : ℕ) → v < n → fault_at (visits_in p) leg v ≡ 0
    pub is_apart : apart (visits_in p) ≡ true
    pub total : M ≡ dependency_total (visits_in p)
    pub first_drone : (k : ℕ) → k < M → fd k < D
    pub first_stop : (k : ℕ) → k < M → fs k < at counts (fd k)
    pub second_drone : (k : ℕ) → k < M → sd k < D
    pub second_stop : (k : ℕ) → k < M → ss k < at counts (sd k)
    pub first_listed : (k : ℕ) → k < M → start counts (fd k) + fs k ≡ get_or (planned_list p (λ v w. v)) k 0
    pub second_listed : (k : ℕ) → k < M → start counts (sd k) + ss k ≡ get_or (planned_list p (λ v w. w)) k 0
    pub flags_right : (k : ℕ) → k < M → eqb (at t.flags k / 2) (pick (fixed (plan_of p) k) 1 0) ≡ true
    pub unturned : (k : ℕ) → k < M → not (turned_bit (at t.flags k) && fixed (plan_of p) k) ≡ true
    pub no_cycle : cyclic (graph (plan_of p) (status_in t)) ≡ false

  say_graph : GraphSay → graph-part ≡ true
  unfolding graph_part stop_sound stop_in_lem flag_right right exact
  say_graph s =
      and_both _ _ (all_below_all n _ (λ v l. rw (le-leb (loc v) L.location (s.in_place v l), le-leb (time v) L.time (s.in_time v l), s.leg_right_lem v l, s.no_fault v l) refl))
      (and_both _ _ (all_below_all M _ (λ k l. rw (lt-ltb (fd k) D (s.first_drone k l), lt-ltb (fs k) (at counts (fd k)) (s.first_stop k l)) refl))
      (and_both _ _ (all_below_all M _ (λ k l. rw (lt-ltb (sd k) D (s.second_drone k l), lt-ltb (ss k) (at counts (sd k)) (s.second_stop k l)) refl))
      (and_both _ _ (all_below_all M _ (λ k l. and_both _ _ (s.flags_right k l) (s.unturned k l)))
      (and_both _ _ (and_both _ _ s.is_apart (and_both _ _ (eq-eqb _ _ s.total) (all_below_all M _ (λ k l. and_both _ _ (eq-eqb _ _ (s.first_listed k l)) (eq-eqb _ _ (s.second_listed k l))))))
      (ap not s.no_cycle)))))

  pub graph_say : graph-part ≡ true → GraphSay
  unfolding graph_part stop_sound stop_in_lem flag_right right exact
  graph_say h =
      let a = and_right (all_below n (stop_sound L form (visits_in p) leg)) _ h in
      let b = and_right (all_below M (stop_in_lem D counts fd fs)) _ a in
      let c = and_right (all_below M (stop_in_lem D counts sd ss)) _ b in
      let d = and_right (all_below M (λ k. flag_right (fixed (plan_of p) k) (at t.flags k))) _ c in
      let r : right (visits_in p) M (λ k. start counts (fd k) + fs k) (λ k. start counts (sd k) + ss k) ≡ true = and_left _ _ d in
      let x = and_right (apart (visits_in p)) _ r in
      let stop : (v : ℕ) → v < n → stop_sound L form (visits_in p) leg v ≡ true = λ v l. all_below-at n (stop_sound L form (visits_in p) leg) (and_left _ _ h) v l in
      let timed : (v : ℕ) → v < n → (leb (time v) L.time && (leg_right L form (number_in p v) (leg v) && eqb (fault_at (visits_in p) leg v) 0)) ≡ true = λ v l. and_right (leb (loc v) L.location) _ (stop v l) in
      let flown : (v : ℕ) → v < n → (leg_right L form (number_in p v) (leg v) && eqb (fault_at (visits_in p) leg v) 0) ≡ true = λ v l. and_right (leb (time v) L.time) _ (timed v l) in
      let one : (k : ℕ) → k < M → stop_in_lem D counts fd fs k ≡ true = λ k l. all_below-at M (stop_in_lem D counts fd fs) (and_left _ _ a) k l in
      let two : (k : ℕ) → k < M → stop_in_lem D counts sd ss k ≡ true = λ k l. all_below-at M (stop_in_lem D counts sd ss) (and_left _ _ b) k l in
      let bits : (k : ℕ) → k < M → flag_right (fixed (plan_of p) k) (at t.flags k) ≡ true = λ k l. all_below-at M (λ k. flag_right (fixed (plan_of p) k) (at t.flags k)) (and_left _ _ c) k l in
      let pair : (k : ℕ) → k < M → (eqb (start counts (fd k) + fs k) (get_or (planned_list p (λ v w. v)) k 0) && eqb (start counts (sd k) + ss k) (get_or (planned_list p (λ v w. w)) k 0)) ≡ true = λ k l. all_below-at M (λ k. eqb (start counts (fd k) + fs k) (get_or (planned_list p (λ v w. v)) k 0) && eqb (start counts (sd k) + ss k) (get_or (planned_list p (λ v w. w)) k 0)) (and_right (eqb M (dependency_total (visits_in p))) _ x) k l in
      record {
        in_place = λ v l. leb-true _ _ (and_left _ _ (stop v l));
        in_time = λ v l. leb-true _ _ (and_left _ _ (timed v l));
        leg_right_lem = λ v l. and_left _ _ (flown v l);
        no_fault = λ v l. eqb-true _ _ (and_right (leg_right L form (number_in p v) (leg v)) _ (flown v l));
        is_apart = and_left _ _ r;
        total = eqb-true _ _ (and_left _ _ x);
        first_drone = λ k l. ltb-true _ _ (and_left _ _ (one k l));
        first_stop = λ k l. ltb-true _ _ (and_right (ltb (fd k) D) _ (one k l));
        second_drone = λ k l. ltb-true _ _ (and_left _ _ (two k l));
        second_stop = λ k l. ltb-true _ _ (and_right (ltb (sd k) D) _ (two k l));
        first_listed = λ k l. eqb-true _ _ (and_left _ _ (pair k l));
        second_listed = λ k l. eqb-true _ _ (and_right (eqb (start counts (fd k) + fs k) (get_or (planned_list p (λ v w. v)) k 0)) _ (pair k l));
        flags_right = λ k l. and_left _ _ (bits k l);
        unturned = λ k l. and_right (eqb (at t.flags k / 2) (pick (fixed (plan_of p) k) 1 0)) _ (bits k l);
        no_cycle = not-true _ (and_right (right (visits_in p) M (λ k. start counts (fd k) + fs k) (λ k. start counts (sd k) + ss k)) _ d);
      }

  -- ---- waits and unused entries: the parts are the clauses
  waits_same : waits_part ≡ waits_kept (plan_of p) (status_in t)
  unfolding waits_kept kept_at order_kept wait_kept entered_by
  waits_same = all_below_ext M _ _ (λ k l. go (turned_bit (at t.flags k)) (withdrawn_bit (at t.drone_flags (fd k)) || withdrawn_bit (at t.drone_flags (sd k))) ((plan_of p).dependency k))
    where
      or_true : (a b : Bool) → b ≡ true → (a || b) ≡ true
      or_true true b h = refl
      or_true false b h = h

      -- a wait that is left out is kept
      go : (b out : Bool) (e : Dependency) → (out || cond b (wait_kept t.visited t.drone_flags e.first e.first_stop e.second e.second_stop) (wait_kept t.visited t.drone_flags e.second e.second_stop e.first e.first_stop))
          ≡ (not (entered (plan_of p) (status_in t) (wait_of (in_force b e)).waiter (wait_of (in_force b e)).stop) || leb (cond out 0 (wait_of (in_force b e)).until) (at t.visited (wait_of (in_force b e)).awaited))
      go b true e = sym (or_true (not (entered (plan_of p) (status_in t) (wait_of (in_force b e)).waiter (wait_of (in_force b e)).stop)) _ (le-leb 0 (at t.visited (wait_of (in_force b e)).awaited) (omega arith)))
      go true false e = refl
      go false false e = refl

  regroup : (a b c d e : Bool) → ((a && (b && (c && d))) && e) ≡ (a && (b && (c && (d && e))))
  regroup true true true d e = refl
  regroup true true false d e = refl
  regroup true false c d e = refl
  regroup false b c d e = refl

  plan_unused-same : plan_unused-part ≡ plan_unused_lem L p
  unfolding plan_unused_lem
  plan_unused-same = ap (λ (b : Bool). zero_from (D * L.name) (L.drones * L.name) p.names && b) (regroup (zero_from D L.drones counts) (zero_from n L.stops p.locations) (zero_from n L.stops p.times) (zero_from n L.stops p.legs) _)

  progress_unused-same : progress_unused-part ≡ progress_unused L t
  unfolding progress_unused
  progress_unused-same = refl

  names_same : names_part ≡ lists_sound L p
  unfolding lists_sound names_sound site_sound
  names_same = refl

  drones_same : drone_flags_sound L t ≡ true → within_stops (plan_of p) (status_in t) ≡ true → drones-part ≡ true
  unfolding drone_flags_sound within_stops drone_sound
  drones_same a b = all_below_all D _ (λ d l. and_both _ _ (all_below-at D (λ d. only_two_bits (at t.drone_flags d)) a d l) (all_below-at D (λ d. leb (at t.visited d) (at counts d - 1) && not (under_way_bit (at t.drone_flags d) && leb (at counts d - 1) (at t.visited d))) b d l))

  drones_flags : drones-part ≡ true → drone_flags_sound L t ≡ true
  unfolding drone_flags_sound drone_sound
  drones_flags a = all_below_all D _ (λ d l. and_left _ _ (all_below-at D (λ d. drone_sound (at counts d - 1) (at t.visited d) (at t.drone_flags d)) a d l))

  drones-within : drones-part ≡ true → within_stops (plan_of p) (status_in t) ≡ true
  unfolding within_stops drone_sound
  drones-within a = all_below_all D _ (λ d l. and_right (only_two_bits (at t.drone_flags d)) _ (all_below-at D (λ d. drone_sound (at counts d - 1) (at t.visited d) (at t.drone_flags d)) a d l))

  -- ---- from the clauses to the parts
  module _ (S : Sound L t) where
    ranges : in_range L p ≡ true
    unfolding plan_accepted_lem
    ranges = and_left _ _ S.accepted

    rest : (lists_sound L p && (passes_check L p && leb (dependency_total (visits_in p)) L.dependencies)) ≡ true
    unfolding plan_accepted_lem
    rest = and_right (in_range L p) _ S.accepted

    no_faults : (first_fault (visits_in p) leg ≡ n) × (apart (visits_in p) ≡ true)
    unfolding passes_check
    no_faults =
        let c = and_left (passes_check L p) _ (and_right (lists_sound L p) _ rest) in
        (eqb-true _ _ (and_left _ _ c), and_right (eqb (first_fault (visits_in p) leg) n) _ c)

    own-total : M ≡ dependency_total (visits_in p)
    unfolding dependencies_sound
    own-total = eqb-true _ _ (and_left _ _ S.dependencies_own)

    room : dependency_total (visits_in p) ≤ L.dependencies
    room = leb-true _ _ (and_right (passes_check L p) _ (and_right (lists_sound L p) _ rest))

    sound_counts : CountsSay L D form counts M
    unfolding in_range
    sound_counts =
        let a = and_left (leb 1 D && leb D L.drones) _ ranges in
        let r = and_right (leb 1 D && leb D L.drones) _ ranges in
        let f = and_left (leb 1 form && leb form L.form) _ r in
        let b = and_right (leb 1 form && leb form L.form) _ r in
        let c = and_right (all_below D (λ d. leb 1 (at counts d))) _ b in
        record {
          some_drone = leb-true _ _ (and_left _ _ a);
          few_drones = leb-true _ _ (and_right (leb 1 D) _ a);
          some_form = leb-true _ _ (and_left _ _ f);
          known_form = leb-true _ _ (and_right (leb 1 form) _ f);
          few_dependencies = omega (arith, own-total, room);
          have_stops = λ d l. leb-true 1 (at counts d) (all_below-at D (λ d. leb 1 (at counts d)) (and_left _ _ b) d l);
          few_stops = leb-true _ _ (and_left _ _ c);
        }

    N : Numbered (owner_in p) (number_in p) (start counts) (λ d. at counts d - 1) D n
    N = numbered D counts sound_counts.have_stops

    names_pair : (k : ℕ) (l : k < M) → NamesPair (owner_in p) (number_in p) (start counts) (λ d. at counts d - 1) D n N (follows (visits_in p)) M own-total k l (fd k) (fs k) (sd k) (ss k)
    unfolding dependencies_sound
    names_pair k l =
        let h = all_below-at M (λ k. eqb (fd k) (get_or (planned_list p (λ v w. owner_in p v)) k 0) && (eqb (fs k) (get_or (planned_list p (λ v w. number_in p v)) k 0) && (eqb (sd k) (get_or (planned_list p (λ v w. owner_in p w)) k 0) && eqb (ss k) (get_or (planned_list p (λ v w. number_in p w)) k 0)))) (and_right (eqb M (dependency_total (visits_in p))) _ S.dependencies_own) k l in
        let h₁ = and_right (eqb (fd k) (get_or (planned_list p (λ v w. owner_in p v)) k 0)) _ h in
        let h₂ = and_right (eqb (fs k) (get_or (planned_list p (λ v w. number_in p v)) k 0)) _ h₁ in
        columns_name (owner_in p) (number_in p) (start counts) (λ d. at counts d - 1) D n N (follows (visits_in p)) M own-total k l (fd k) (fs k) (sd k) (ss k)
        (eqb-true _ _ (and_left _ _ h)) (eqb-true _ _ (and_left _ _ h₁)) (eqb-true _ _ (and_left _ _ h₂)) (eqb-true _ _ (and_right (eqb (sd k) (get_or (planned_list p (λ v w. owner_in p w)) k 0)) _ h₂))

    in_ranges : (v : ℕ) → v < n → (leb (loc v) L.location && (leb (time v) L.time && leg_right L form (number_in p v) (leg v))) ≡ true
    unfolding in_range
    in_ranges v l = all_below-at n (λ v. leb (loc v) L.location && (leb (time v) L.time && leg_right L form (number_in p v) (leg v))) (and_right (leb n L.stops) _ (and_right (all_below D (λ d. leb 1 (at counts d))) _ (and_right (leb 1 form && leb form L.form) _ (and_right (leb 1 D && leb D L.drones) _ ranges)))) v l

    in_time_leg : (v : ℕ) → v < n → (leb (time v) L.time && leg_right L form (number_in p v) (leg v)) ≡ true
    in_time_leg v l = and_right (leb (loc v) L.location) _ (in_ranges v l)

    sound-graph : GraphSay
    unfolding flags_sound fixed_unturned
    sound-graph = record {
      in_place = λ v l. leb-true _ _ (and_left _ _ (in_ranges v l));
      in_time = λ v l. leb-true _ _ (and_left _ _ (in_time_leg v l));
      leg_right_lem = λ v l. and_right (leb (time v) L.time) _ (in_time_leg v l);
      no_fault = λ v l. says_fault (visits_in p) leg v (first_fault-says (visits_in p) leg no_faults.0 v l);
      is_apart = no_faults.1;
      total = own-total;
      first_drone = λ k l. (names_pair k l).first_drone;
      first_stop = λ k l. omega (arith, (names_pair k l).first_stop, sound_counts.have_stops (fd k) (names_pair k l).first_drone);
      second_drone = λ k l. (names_pair k l).second_drone;
      second_stop = λ k l. omega (arith, (names_pair k l).second_stop, sound_counts.have_stops (sd k) (names_pair k l).second_drone);
      first_listed = λ k l. (names_pair k l).first;
      second_listed = λ k l. (names_pair k l).second;
      flags_right = λ k l. all_below-at M (λ k. eqb (at t.flags k / 2) (pick (fixed (plan_of p) k) 1 0)) S.flags_right k l;
      unturned = λ k l. all_below-at M (λ k. not (turned_bit (at t.flags k) && fixed (plan_of p) k)) S.fixed_unturned_lem k l;
      no_cycle = S.no_cycle;
    }

    pub sound_parts : Parts
    sound_parts = record {
      counts_part = say_counts L D form counts M sound_counts;
      names_sound_lem = names_same ∙ and_left _ _ rest;
      graph-sound = say_graph sound-graph;
      drones-sound = drones_same S.drone_flags S.within;
      waits_sound = waits_same ∙ S.waits_kept_lem;
      plan_zero = plan_unused-same ∙ S.plan_unused;
      progress-zero = progress_unused-same ∙ S.progress_unused_lem;
    }

  -- ---- from the parts to the clauses
  module _ (P : Parts) where
    C : CountsSay L D form counts M
    C = counts_say L D form counts M P.counts_part

    G : GraphSay
    G = graph_say P.graph-sound

    K : Numbered (owner_in p) (number_in p) (start counts) (λ d. at counts d - 1) D n
    K = numbered D counts C.have_stops

    parts_accepted : plan_accepted_lem L p ≡ true
    unfolding plan_accepted_lem in_range passes_check
    parts_accepted =
        and_both _ _
        (and_both _ _ (and_both _ _ (le-leb 1 D C.some_drone) (le-leb D L.drones C.few_drones))
        (and_both _ _ (and_both _ _ (le-leb 1 form C.some_form) (le-leb form L.form C.known_form))
        (and_both _ _ (all_below_all D _ (λ d l. le-leb 1 (at counts d) (C.have_stops d l)))
        (and_both _ _ (le-leb n L.stops C.few_stops)
        (all_below_all n _ (λ v l. and_both _ _ (le-leb (loc v) L.location (G.in_place v l)) (and_both _ _ (le-leb (time v) L.time (G.in_time v l)) (G.leg_right_lem v l))))))))
        (and_both _ _ (sym names_same ∙ P.names_sound_lem)
        (and_both _ _ (and_both _ _ (eq-eqb _ _ (says-first_fault (visits_in p) leg (λ v l. fault_says (visits_in p) leg v (G.no_fault v l)))) G.is_apart)
        (le-leb (dependency_total (visits_in p)) L.dependencies (omega (arith, G.total, C.few_dependencies)))))

    holds : (k : ℕ) (l : k < M) → HoldsColumns (owner_in p) (number_in p) (start counts) (λ d. at counts d - 1) D n K (follows (visits_in p)) M G.total k l (fd k) (fs k) (sd k) (ss k)
    holds k l = names_columns (owner_in p) (number_in p) (start counts) (λ d. at counts d - 1) D n K (follows (visits_in p)) M G.total k l (fd k) (fs k) (sd k) (ss k)
        (record { first_drone = G.first_drone k l; first_stop = omega (arith, G.first_stop k l); second_drone = G.second_drone k l; second_stop = omega (arith, G.second_stop k l); first = G.first_listed k l; second = G.second_listed k l })

    parts_dependencies : dependencies_sound L p ≡ true
    unfolding dependencies_sound
    parts_dependencies = and_both _ _ (eq-eqb _ _ G.total) (all_below_all M _ (λ k l.
        and_both _ _ (eq-eqb _ _ (holds k l).first_drones_lem) (and_both _ _ (eq-eqb _ _ (holds k l).first_stops_lem) (and_both _ _ (eq-eqb _ _ (holds k l).second_drones_lem) (eq-eqb _ _ (holds k l).second_stops_lem)))))

    parts_sound : Sound L t
    unfolding flags_sound fixed_unturned
    parts_sound = record {
      accepted = parts_accepted;
      dependencies_own = parts_dependencies;
      flags_right = all_below_all M _ (λ k l. G.flags_right k l);
      fixed_unturned_lem = all_below_all M _ (λ k l. G.unturned k l);
      no_cycle = G.no_cycle;
      drone_flags = drones_flags P.drones-sound;
      within = drones-within P.drones-sound;
      waits_kept_lem = sym waits_same ∙ P.waits_sound;
      plan_unused = sym plan_unused-same ∙ P.plan_zero;
      progress_unused_lem = sym progress_unused-same ∙ P.progress-zero;
    }

  -- the code's test: the parts one after the other
  abbrev pub sound_test : Bool
  sound_test = counts_sound L D form counts M && (names_part && (graph-part && (drones-part && (waits_part && (plan_unused-part && progress_unused-part)))))

  test_says : sound_test ≡ true → Parts
  test_says h =
      let a = and_right (counts_sound L D form counts M) _ h in
      let b = and_right names_part _ a in
      let c = and_right graph-part _ b in
      let d = and_right drones-part _ c in
      let e = and_right waits_part _ d in
      record { counts_part = and_left _ _ h; names_sound_lem = and_left _ _ a; graph-sound = and_left _ _ b; drones-sound = and_left _ _ c; waits_sound = and_left _ _ d; plan_zero = and_left _ _ e; progress-zero = and_right plan_unused-part _ e }

  says_test : Parts → sound_test ≡ true
  says_test P = rw (P.counts_part, P.names_sound_lem, P.graph-sound, P.drones-sound, P.waits_sound, P.plan_zero, P.progress-zero) refl

  pub test_sound : sound_test ≡ sound L t
  test_sound = same_test _ _ (λ h. says-sound L t (parts_sound (test_says h))) (λ h. says_test (sound_parts (sound-says L t h)))

  -- ---- as the code asks, which has d' drones, m' dependencies and n' stops in all
  module _ (d' : ℕ) (ed' : d' ≡ D) (m' : ℕ) (em' : m' ≡ M) (a : Bool) (ea' : a ≡ counts_sound L d' form counts m') where
    ea : a ≡ counts_sound L D form counts M
    ea = rw (ed', em') at ea'

    pub counts_wrong : a ≡ false → false ≡ sound L t
    counts_wrong h = rw (sym ea ∙ h) at test_sound

    module _ (ta : a ≡ true) (b : Bool) (eb' : b ≡ ((all_below d' (name_sound L p.names) && names_differ L p.names d') && (pairs_sound L p.pairs && zeros (after_pairs p.pairs)))) where
      eb : b ≡ names_part
      eb = rw ed' at eb'

      pub names_wrong : b ≡ false → false ≡ sound L t
      names_wrong h = rw (sym ea ∙ ta, sym eb ∙ h) at test_sound

      module _ (tb : b ≡ true) (n' : ℕ) (en' : n' ≡ start counts d') (c : Bool) (ec : c ≡ graph_part d' n' m' counts p.locations p.times p.legs p.first_drones p.first_stops p.second_drones p.second_stops p.pairs L form t.drone_flags t.flags) where
        en : n' ≡ n
        en = en' ∙ ap (start counts) ed'

        graph_is : c ≡ graph-part
        graph_is = rw (ed', em', en) at ec

        pub graph-wrong : c ≡ false → false ≡ sound L t
        graph-wrong h = rw (sym ea ∙ ta, sym eb ∙ tb, sym graph_is ∙ h) at test_sound

        module _ (tc : c ≡ true) (d : Bool) (ed : d ≡ all_below d' (λ d. drone_sound (at counts d - 1) (at t.visited d) (at t.drone_flags d))) where
          drones_are : d ≡ drones-part
          drones_are = rw ed' at ed

          pub drones-wrong : d ≡ false → false ≡ sound L t
          drones-wrong h = rw (sym ea ∙ ta, sym eb ∙ tb, sym graph_is ∙ tc, sym drones_are ∙ h) at test_sound

          module _ (td : d ≡ true) (e : Bool) (ee : e ≡ all_below m' (kept_at t.visited t.drone_flags p.first_drones p.first_stops p.second_drones p.second_stops t.flags)) where
            waits_are : e ≡ waits_part
            waits_are = rw em' at ee

            pub waits_wrong : e ≡ false → false ≡ sound L t
            waits_wrong h = rw (sym ea ∙ ta, sym eb ∙ tb, sym graph_is ∙ tc, sym drones_are ∙ td, sym waits_are ∙ h) at test_sound

            module _ (te : e ≡ true) (f : Bool) (ef : f ≡ unused_from d' n' m') where
              unused_is : f ≡ plan_unused-part
              unused_is = rw (ed', em', en) at ef

              pub unused_wrong : f ≡ false → false ≡ sound L t
              unused_wrong h = rw (sym ea ∙ ta, sym eb ∙ tb, sym graph_is ∙ tc, sym drones_are ∙ td, sym waits_are ∙ te, sym unused_is ∙ h) at test_sound

              pub progress_last : (g : Bool) → f ≡ true → g ≡ progress_from d' m' → g ≡ sound L t
              progress_last g tf eg = (rw (ed', em') at eg) ∙ (rw (sym ea ∙ ta, sym eb ∙ tb, sym graph_is ∙ tc, sym drones_are ∙ td, sym waits_are ∙ te, sym unused_is ∙ tf) at test_sound)

-- ---- what the code asks after the counts and the graph have passed

pub counted : (L : Limits) (drones n m form : ℕ) (counts : List ℕ) → L.drones ≤ length counts → counts_sound L drones form counts m ≡ true → n ≡ start counts drones → Counted L drones n m counts
counted L drones n m form counts r h e =
    let s : CountsSay L drones form counts m = counts_say L drones form counts m h in
    record { has_counts = r; some_drone = s.some_drone; few_drones = s.few_drones; few_dependencies = s.few_dependencies; have_stops = s.have_stops; total = e; few_stops = omega (arith, e, s.few_stops) }

module _ (drones n m : ℕ) (counts locations times legs first_drones first_stops second_drones second_stops pairs : List ℕ) (L : Limits) (form : ℕ) (drone_flags flags : List ℕ) (few : drones ≤ L.drones) (h : graph_part drones n m counts locations times legs first_drones first_stops second_drones second_stops pairs L form drone_flags flags ≡ true) where
  pub firsts_limited : (k : ℕ) → k < m → at first_drones k < L.drones
  unfolding graph_part
  firsts_limited k l =
      let a = and_right (all_below n (stop_sound L form (visits_by drones n m counts locations times legs first_drones first_stops second_drones second_stops pairs) (at legs))) _ h in
      omega (arith, stop_drone drones counts (at first_drones) (at first_stops) k (all_below-at m (stop_in_lem drones counts (at first_drones) (at first_stops)) (and_left _ _ a) k l))

  pub seconds_limited : (k : ℕ) → k < m → at second_drones k < L.drones
  unfolding graph_part
  seconds_limited k l =
      let a = and_right (all_below n (stop_sound L form (visits_by drones n m counts locations times legs first_drones first_stops second_drones second_stops pairs) (at legs))) _ h in
      let b = and_right (all_below m (stop_in_lem drones counts (at first_drones) (at first_stops))) _ a in
      omega (arith, stop_drone drones counts (at second_drones) (at second_stops) k (all_below-at m (stop_in_lem drones counts (at second_drones) (at second_stops)) (and_left _ _ b) k l))

-- names and pairs that have passed, in tables of full size
pub pairs_say : (L : Limits) (drones : ℕ) (names pairs : List ℕ) → 2 * most_pairs ≤ length pairs
    → ((all_below drones (name_sound L names) && names_differ L names drones) && (pairs_sound L pairs && zeros (after_pairs pairs))) ≡ true → SoundPairs L pairs
pairs_say L drones names pairs r h = record { has_pairs = r; sound_pairs = and_left _ _ (and_right (all_below drones (name_sound L names) && names_differ L names drones) _ h) }
