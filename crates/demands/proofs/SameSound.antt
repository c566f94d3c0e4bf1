-- Tables that have the same entries up to the full sizes are sound together: every clause looks at entries below the full sizes alone, where the clauses before it
-- hold. Assumes nothing.
use mathlib.Core.Path.{◌≡◌, refl, sym, ap, ap₂, ◌∙◌}
use mathlib.Core.Bool.{Bool, true, cond, not, ◌&&◌, ◌||◌}
use mathlib.Core.List.{List}
use Prim.Native.Nat.{ℕ, ◌+◌, ◌-◌, ◌*◌, ◌/◌, ◌≤◌, ◌<◌}
use native.Mathlib.Omega.{arith}
use lib.Dec.{ltb, leb, eqb}
use lib.ListN.{get_or}
use Rattle.below.specs.Below.{at, pick}
use Rattle.below.proofs.Tests.{same_test}
use Rattle.below.proofs.Search.{first_below_ext}
use Rattle.below.proofs.Every.{all_below_ext, all_below-same}
use Rattle.tables.specs.Limits.{Limits, most_pairs}
use Rattle.tables.specs.Legs.{leg_right}
use Rattle.tables.specs.Tables.{PlanLists, Tables, drones, dependencies, form_of}
use Rattle.tables.specs.Flags.{turned_bit, under_way_bit, withdrawn_bit, only_two_bits}
use Rattle.lines.specs.Names.{is_name_byte}
use Rattle.near.specs.Near.{pair_count, pair_sound, pairs_sound}
use Rattle.near.proofs.NearLaws.{count_within, count_same}
use Rattle.text.proofs.Rows.{row_fits}
use Rattle.precedence.specs.Graph.{cyclic, cost, makespan}
use Rattle.precedence.proofs.Agreement.{GraphsAgree, cyclic_agree, cost_agree, makespan_agree}
use Rattle.plan.specs.Stops.{start}
use Rattle.plan.proofs.Numbering.{numbered}
use Rattle.plan.specs.Field.{Dependency, FieldPlan, plan_of, graph, place_of, AcceptedPlan, PlansAgree}
use Rattle.plan.specs.Status.{status_in}
use Rattle.plan.specs.Claims.{stop_total, number_in, leg_in}
use Rattle.sound.specs.Sound.{zero_from, name_byte, name_length, name_sound, same_name, names_differ, in_range, names_sound, site_sound, lists_sound, passes_check, plan_accepted_lem, dependencies_sound, plan_unused_lem, flags_sound, drone_flags_sound, progress_unused, sound}
use Rattle.sound.proofs.SiteZeros.{site_indexed}
use Rattle.sound.proofs.Clauses.{Sound, sound-says, says-sound}
use Rattle.call_log.specs.CallLog.{Call, reply_in}
use Rattle.call_log.specs.BestOrder.{best_by}
use Rattle.call_log.proofs.SoundParts.{drones_in, have_stops, stops_in_lem, dependencies_in, accepted_plan}
use Rattle.call_log.proofs.SameStatus.{Same, same_agree, graphs_agree, graph_in, reply_agrees, fixed_same, unturned_agrees, within-agrees, waits_agree, legs_same}
use Rattle.accepted.proofs.SameOrder.{searched, best-same}
use Rattle.demands.proofs.SameNumbering.{PlanEntriesAgree, meeting, start-same, stops, numbers, fault_is, apart_is, total_is, column_is}

-- the same entries up to the full sizes
pub record EntriesAgree (L : Limits) (t t' : Tables) : Type 0 where
  pub plan_same : PlanEntriesAgree L t.plan t'.plan
  pub visited : (d : ℕ) → d < L.drones → at t.visited d ≡ at t'.visited d
  pub drone_flags : (d : ℕ) → d < L.drones → at t.drone_flags d ≡ at t'.drone_flags d
  pub flags : (k : ℕ) → k < L.dependencies → at t.flags k ≡ at t'.flags k

pub same_back : (L : Limits) (t t' : Tables) → EntriesAgree L t t' → EntriesAgree L t' t
same_back L t t' s =
    let p = s.plan_same in
    record {
      plan_same = record {
        drone_count_lem = sym p.drone_count_lem;
        dependency_count = sym p.dependency_count;
        form = sym p.form;
        names = λ i l. sym (p.names i l);
        stop_counts_lem = λ i l. sym (p.stop_counts_lem i l);
        locations = λ i l. sym (p.locations i l);
        times = λ i l. sym (p.times i l);
        legs = λ i l. sym (p.legs i l);
        first_drones_lem = λ i l. sym (p.first_drones_lem i l);
        first_stops_lem = λ i l. sym (p.first_stops_lem i l);
        second_drones_lem = λ i l. sym (p.second_drones_lem i l);
        second_stops_lem = λ i l. sym (p.second_stops_lem i l);
        pairs = λ i l. sym (p.pairs i l);
      };
      visited = λ i l. sym (s.visited i l);
      drone_flags = λ i l. sym (s.drone_flags i l);
      flags = λ i l. sym (s.flags i l);
    }

zero_same : (used used' full : ℕ) (l l' : List ℕ) → used ≡ used' → ((i : ℕ) → i < full → at l i ≡ at l' i) → zero_from used full l ≡ zero_from used' full l'
unfolding zero_from
zero_same used used' full l l' e h = all_below_ext full _ _ (λ i k. ap₂ (λ (n x : ℕ). ltb i n || eqb x 0) e (h i k))

-- ---- the plan in the tables

module _ (L : Limits) (p p' : PlanLists) (same : PlanEntriesAgree L p p') (few : drones p ≤ L.drones) where
  -- names
  module _ (d : ℕ) (l : d < drones p) where
    byte_same : (i : ℕ) → i < L.name → name_byte L p.names d i ≡ name_byte L p'.names d i
    byte_same i h = same.names (d * L.name + i) (omega (arith, row_fits d L.drones L.name (omega arith)))

    length-same : name_length L p.names d ≡ name_length L p'.names d
    unfolding name_length
    length-same = first_below_ext L.name _ _ (λ i h. ap (λ (b : ℕ). eqb b 0) (byte_same i h))

    name_same : name_sound L p.names d ≡ name_sound L p'.names d
    unfolding name_sound
    name_same = ap₂ ◌&&◌ (ap (leb 1) length-same) (all_below_ext L.name _ _ (λ i h. ap₂ (λ (n b : ℕ). cond (ltb i n) (is_name_byte b) (eqb b 0)) length-same (byte_same i h)))

  pub names_same : names_sound L p ≡ names_sound L p'
  unfolding names_sound names_differ same_name
  names_same = ap₂ ◌&&◌
      (all_below-same (drones p) (drones p') _ _ same.drone_count_lem name_same)
      (all_below-same (drones p) (drones p') _ _ same.drone_count_lem (λ d l. all_below_ext d _ _ (λ e k. ap not (all_below_ext L.name _ _ (λ i h. ap₂ eqb (byte_same d l i h) (byte_same e (omega arith) i h))))))

  -- pairs
  pair_same : (i : ℕ) → i < pair_count p.pairs → pair_sound L p.pairs i ≡ pair_sound L p'.pairs i
  unfolding pair_sound
  pair_same i l =
      let most = count_within p.pairs in
      let entry : (j : ℕ) → j ≤ 2 * i + 1 → at p.pairs j ≡ at p'.pairs j = λ j k. same.pairs j (omega (arith, l, most, k)) in
      rw (entry (2 * i) (omega arith), entry (2 * i + 1) (omega arith), entry (2 * (i - 1)) (omega arith), entry (2 * (i - 1) + 1) (omega arith)) refl

  pub site_same : site_sound L p ≡ site_sound L p'
  unfolding pairs_sound
  site_same =
      let many : pair_count p.pairs ≡ pair_count p'.pairs = count_same p.pairs p'.pairs same.pairs in
      site_indexed L p
      ∙ ap₂ ◌&&◌ (all_below-same (pair_count p.pairs) (pair_count p'.pairs) _ _ many pair_same) (zero_same _ _ (2 * most_pairs) p.pairs p'.pairs (ap (λ (n : ℕ). 2 * n) many) same.pairs)
      ∙ sym (site_indexed L p')

  pub lists_same : lists_sound L p ≡ lists_sound L p'
  unfolding lists_sound
  lists_same = ap₂ ◌&&◌ names_same site_same

  module _ (room : stop_total p ≤ L.stops) where
    total_stops : stop_total p ≡ stop_total p'
    total_stops = stops L p p' same few

    stop-same : (v : ℕ) → v < stop_total p → leb (at p.locations v) L.location && (leb (at p.times v) L.time && leg_right L (form_of p) (number_in p v) (leg_in p v))
        ≡ leb (at p'.locations v) L.location && (leb (at p'.times v) L.time && leg_right L (form_of p') (number_in p' v) (leg_in p' v))
    stop-same v l =
        let h : v < L.stops = omega arith in
        λ i. leb (same.locations v h i) L.location && (leb (same.times v h i) L.time && leg_right L (same.form i) (numbers L p p' same few i v) (same.legs v h i))

    pub range_same : in_range L p ≡ in_range L p'
    unfolding in_range
    range_same = ap₂ ◌&&◌ (ap (λ (n : ℕ). leb 1 n && leb n L.drones) same.drone_count_lem)
        (ap₂ ◌&&◌ (ap (λ (n : ℕ). leb 1 n && leb n L.form) same.form)
        (ap₂ ◌&&◌ (all_below-same (drones p) (drones p') _ _ same.drone_count_lem (λ d l. ap (leb 1) (same.stop_counts_lem d (omega arith))))
        (ap₂ ◌&&◌ (ap (λ (n : ℕ). leb n L.stops) total_stops)
        (all_below-same (stop_total p) (stop_total p') _ _ total_stops stop-same))))

    pub checked-same : passes_check L p ≡ passes_check L p'
    unfolding passes_check
    checked-same = ap₂ ◌&&◌ (ap₂ eqb (fault_is L p p' same few room) total_stops) (apart_is L p p' same few room)

    pub accepted-same : plan_accepted_lem L p ≡ plan_accepted_lem L p'
    unfolding plan_accepted_lem
    accepted-same = ap₂ ◌&&◌ range_same (ap₂ ◌&&◌ lists_same (ap₂ ◌&&◌ checked-same (ap (λ (n : ℕ). leb n L.dependencies) (total_is L p p' same few room))))

    module _ (fits : dependencies p ≤ L.dependencies) where
      -- one column of the dependencies
      entry_same : (l l' c c' : List ℕ) → ((k : ℕ) → k < L.dependencies → at l k ≡ at l' k) → c ≡ c' → (k : ℕ) → k < dependencies p → eqb (at l k) (get_or c k 0) ≡ eqb (at l' k) (get_or c' k 0)
      entry_same l l' c c' h e k i = ap₂ (λ (x : ℕ) (y : List ℕ). eqb x (get_or y k 0)) (h k (omega arith)) e

      pub own_same : dependencies_sound L p ≡ dependencies_sound L p'
      unfolding dependencies_sound
      own_same = ap₂ ◌&&◌ (ap₂ eqb same.dependency_count (total_is L p p' same few room))
          (all_below-same (dependencies p) (dependencies p') _ _ same.dependency_count (λ k l.
          ap₂ ◌&&◌ (entry_same p.first_drones p'.first_drones _ _ same.first_drones_lem (column_is L p p' same few room (λ own num n v w. own v)) k l)
          (ap₂ ◌&&◌ (entry_same p.first_stops p'.first_stops _ _ same.first_stops_lem (column_is L p p' same few room (λ own num n v w. num v)) k l)
          (ap₂ ◌&&◌ (entry_same p.second_drones p'.second_drones _ _ same.second_drones_lem (column_is L p p' same few room (λ own num n v w. own w)) k l)
          (entry_same p.second_stops p'.second_stops _ _ same.second_stops_lem (column_is L p p' same few room (λ own num n v w. num w)) k l)))))

    pub unused_same : plan_unused_lem L p ≡ plan_unused_lem L p'
    unfolding plan_unused_lem
    unused_same = ap₂ ◌&&◌ (zero_same _ _ _ p.names p'.names (ap (λ (n : ℕ). n * L.name) same.drone_count_lem) same.names)
        (ap₂ ◌&&◌ (zero_same _ _ _ p.stop_counts p'.stop_counts same.drone_count_lem same.stop_counts_lem)
        (ap₂ ◌&&◌ (zero_same _ _ _ p.locations p'.locations total_stops same.locations)
        (ap₂ ◌&&◌ (zero_same _ _ _ p.times p'.times total_stops same.times)
        (ap₂ ◌&&◌ (zero_same _ _ _ p.legs p'.legs total_stops same.legs)
        (ap₂ ◌&&◌ (zero_same _ _ _ p.first_drones p'.first_drones same.dependency_count same.first_drones_lem)
        (ap₂ ◌&&◌ (zero_same _ _ _ p.first_stops p'.first_stops same.dependency_count same.first_stops_lem)
        (ap₂ ◌&&◌ (zero_same _ _ _ p.second_drones p'.second_drones same.dependency_count same.second_drones_lem)
        (zero_same _ _ _ p.second_stops p'.second_stops same.dependency_count same.second_stops_lem))))))))

-- ---- the field plan and the status of sound tables

dependency_is : {a b c d a' b' c' d' : ℕ} → a ≡ a' → b ≡ b' → c ≡ c' → d ≡ d' → ◌≡◌ {A = Dependency} (record { first = a; first_stop = b; second = c; second_stop = d }) (record { first = a'; first_stop = b'; second = c'; second_stop = d' })
dependency_is e f g h = λ i. record { first = e i; first_stop = f i; second = g i; second_stop = h i }

module _ (L : Limits) (t t' : Tables) (same : EntriesAgree L t t') (s : Sound L t) where
  abbrev p : PlanLists
  p = t.plan

  abbrev p' : PlanLists
  p' = t'.plan

  abbrev F : FieldPlan
  F = plan_of t.plan

  abbrev G : FieldPlan
  G = plan_of t'.plan

  few : drones p ≤ L.drones
  few = drones_in L p s.accepted

  room : stop_total p ≤ L.stops
  room = stops_in_lem L p s.accepted

  fits : dependencies p ≤ L.dependencies
  fits = dependencies_in L p s.accepted s.dependencies_own

  plan : AcceptedPlan F
  plan = accepted_plan L p s.accepted s.dependencies_own

  -- stop s of drone d, numbered through
  place_in : (d k : ℕ) → d < drones p → k ≤ F.last d → start p.stop_counts d + k < L.stops
  place_in d k l h = let r = room in omega (arith, (numbered (drones p) p.stop_counts (have_stops L p s.accepted)).place_in d k l h)

  entry_at : (l l' : List ℕ) → ((v : ℕ) → v < L.stops → at l v ≡ at l' v) → (d k : ℕ) → d < drones p → k ≤ F.last d → at l (start p.stop_counts d + k) ≡ at l' (start p'.stop_counts d + k)
  entry_at l l' e d k i h =
      let f = few in
      e (start p.stop_counts d + k) (place_in d k i h) ∙ ap (λ (n : ℕ). at l' (n + k)) (start-same L p p' same.plan_same few d (omega arith))

  plans : PlansAgree F G
  plans =
      let a = few in
      let b = fits in
      let q = same.plan_same in
      record {
        drones_agree = q.drone_count_lem;
        lasts_agree = λ d l. ap (λ (n : ℕ). n - 1) (q.stop_counts_lem d (omega arith));
        locations_agree = λ d k l h. entry_at p.locations p'.locations q.locations d k l h;
        times_agree = λ d k l h. entry_at p.times p'.times q.times d k l h;
        legs_agree = λ d k l h. entry_at p.legs p'.legs q.legs d k l h;
        meets_agree = meeting L p p' q;
        counts_agree = q.dependency_count;
        dependencies_agree = λ w l.
            let k : w < L.dependencies = omega arith in
            dependency_is (q.first_drones_lem w k) (q.first_stops_lem w k) (q.second_drones_lem w k) (q.second_stops_lem w k);
      }

  statuses : Same F (status_in t) (status_in t')
  statuses =
      let a = few in
      let b = fits in
      record {
        marks = λ d l. ap withdrawn_bit (same.drone_flags d (omega arith));
        places = λ d l. same.visited d (omega arith);
        under_ways = λ d l. ap under_way_bit (same.drone_flags d (omega arith));
        turns = λ w l. ap turned_bit (same.flags w (omega arith));
      }

  -- ---- replies, cycles, cost, rounds and best order

  pub replies_are : (c : Call) → reply_in F (status_in t) c ≡ reply_in G (status_in t') c
  replies_are = reply_agrees F G plans plan (status_in t) (status_in t') statuses

  graphs : GraphsAgree (graph F (status_in t)) (graph G (status_in t'))
  graphs = graphs_agree F G plans plan (status_in t) (status_in t') statuses.marks statuses.turns

  cycles : cyclic (graph F (status_in t)) ≡ cyclic (graph G (status_in t'))
  cycles = cyclic_agree _ _ graphs (graph_in F plan (status_in t))

  -- where the drones count as standing
  counts : (d : ℕ) → d < F.drones → place_of F (status_in t) d ≡ place_of G (status_in t') d
  counts d l = λ i. cond (statuses.marks d l i) (plans.lasts_agree d l i) (statuses.places d l i)

  pub cost_is : cost (graph F (status_in t)) F.leg (place_of F (status_in t)) ≡ cost (graph G (status_in t')) G.leg (place_of G (status_in t'))
  cost_is = cost_agree _ _ graphs (graph_in F plan (status_in t)) F.leg G.leg (legs_same F G plans (status_in t)) (place_of F (status_in t)) (place_of G (status_in t')) counts

  pub makespan_is : makespan (graph F (status_in t)) F.leg (place_of F (status_in t)) ≡ makespan (graph G (status_in t')) G.leg (place_of G (status_in t'))
  makespan_is = makespan_agree _ _ graphs (graph_in F plan (status_in t)) F.leg G.leg (legs_same F G plans (status_in t)) (place_of F (status_in t)) (place_of G (status_in t')) counts

  pub best_is_lem : (list : List ℕ) (budget : ℕ) → best_by L F (status_in t) list (searched F (status_in t) budget) ≡ best_by L G (status_in t') list (searched G (status_in t') budget)
  best_is_lem = best-same F G plans plan (status_in t) (status_in t') (same_agree F (status_in t) (status_in t') statuses) L

  -- ---- the clauses

  flags_same : flags_sound L t ≡ flags_sound L t'
  unfolding flags_sound
  flags_same =
      let h = fits in
      all_below-same (dependencies p) (dependencies p') _ _ same.plan_same.dependency_count (λ k l. ap₂ (λ (x : ℕ) (b : Bool). eqb (x / 2) (pick b 1 0)) (same.flags k (omega arith)) (fixed_same F G plans plan k l))

  drone_flags_same : drone_flags_sound L t ≡ drone_flags_sound L t'
  unfolding drone_flags_sound
  drone_flags_same = let h = few in all_below-same (drones p) (drones p') _ _ same.plan_same.drone_count_lem (λ d l. ap only_two_bits (same.drone_flags d (omega arith)))

  progress-same : progress_unused L t ≡ progress_unused L t'
  unfolding progress_unused
  progress-same = ap₂ ◌&&◌ (zero_same _ _ _ t.visited t'.visited same.plan_same.drone_count_lem same.visited)
      (ap₂ ◌&&◌ (zero_same _ _ _ t.drone_flags t'.drone_flags same.plan_same.drone_count_lem same.drone_flags) (zero_same _ _ _ t.flags t'.flags same.plan_same.dependency_count same.flags))

  other_sound : Sound L t'
  other_sound = record {
    accepted = sym (accepted-same L p p' same.plan_same few room) ∙ s.accepted;
    dependencies_own = sym (own_same L p p' same.plan_same few room fits) ∙ s.dependencies_own;
    flags_right = sym flags_same ∙ s.flags_right;
    fixed_unturned_lem = sym (unturned_agrees F G plans plan (status_in t) (status_in t') statuses) ∙ s.fixed_unturned_lem;
    no_cycle = sym cycles ∙ s.no_cycle;
    drone_flags = sym drone_flags_same ∙ s.drone_flags;
    within = sym (within-agrees F G plans plan (status_in t) (status_in t') statuses) ∙ s.within;
    waits_kept_lem = sym (waits_agree F G plans plan (status_in t) (status_in t') statuses) ∙ s.waits_kept_lem;
    plan_unused = sym (unused_same L p p' same.plan_same few room) ∙ s.plan_unused;
    progress_unused_lem = sym progress-same ∙ s.progress_unused_lem;
  }

sound-over : (L : Limits) (t t' : Tables) → EntriesAgree L t t' → sound L t ≡ true → sound L t' ≡ true
sound-over L t t' same h = says-sound L t' (other_sound L t t' same (sound-says L t h))

pub sound-same : (L : Limits) (t t' : Tables) → EntriesAgree L t t' → sound L t ≡ sound L t'
sound-same L t t' same = same_test (sound L t) (sound L t') (sound-over L t t' same) (sound-over L t' t (same_back L t t' same))
