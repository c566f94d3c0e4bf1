-- Local tables that hold the graph of usable tables: they are what the test for a cycle and the rounds ask for, and with one wait exchanged they hold the graph with that dependency
-- turned. Assumes nothing.
use mathlib.Core.Path.{◌≡◌, refl, sym, ap, ◌∙◌, subst, fun_ext}
use mathlib.Core.Bool.{Bool, true, false, not, cond}
use mathlib.Core.List.{List}
use Prim.Native.Nat.{ℕ, ◌+◌, ◌-◌, ◌≤◌, ◌<◌}
use native.Mathlib.Omega.{arith}
use lib.Dec.{eqb}
use lib.ListN.{length, set, length-set}
use lib.Seq.{get_or-set_same, get_or-set_other}
use borrow.Author.Tests.{leb-false, eqb-true, eqb-false, eq-eqb}
use Rattle.below.specs.Below.{at}
use Rattle.below.proofs.Tests.{by_cases}
use Rattle.tables.specs.Limits.{Limits}
use Rattle.tables.specs.Tables.{PlanLists, Tables, drones, dependencies}
use Rattle.tables.specs.Flags.{turned_bit, flip_bit}
use Rattle.tables.proofs.FlagLaws.{flip-turned}
use Rattle.precedence.specs.Graph.{Plan, Wait, Formed, Kept, cyclic, cost, makespan}
use Rattle.precedence.proofs.Agreement.{GraphsAgree, AwaitedIn, SameLegs, awaited_in, cyclic_agree, cost_agree, makespan_agree}
use Rattle.plan.specs.Stops.{start, owner, stop_number}
use Rattle.plan.specs.Room.{Counts}
use Rattle.plan.specs.Claims.{Numbered, Unfixed, stop_total, owner_in}
use Rattle.plan.specs.Field.{Dependency, FieldPlan, Status, in_force, wait_of, flip, after_turn, plan_of, of_withdrawn, graph, place_of, fixed, AcceptedPlan}
use Rattle.plan.specs.Status.{status_in}
use Rattle.plan.proofs.Numbering.{numbered}
use Rattle.plan.proofs.Turns.{graph-formed}
use Rattle.cycles.specs.Flat.{flat_plan, Shape, PlacedWaits, FlatTables}
use Rattle.cycles.proofs.Placed.{formed as flat-formed}
use Rattle.sound.specs.Asked.{GraphTables, WaitsInForce}
use Rattle.sound.proofs.Clauses.{Sound, sound-says}
use Rattle.sound.proofs.Legs.{accepted_have_legs, accepted-short}
use Rattle.sound.proofs.Local.{wait_is}
use Rattle.rounds.specs.Remaining.{Ready, flat_leg}
use Rattle.call_log.specs.Claims.{Usable}
use Rattle.call_log.specs.Calls.{flipped, costs, cost_reply, rounds, rounds_reply}
use Rattle.call_log.proofs.Checks.{Passes}
use Rattle.call_log.proofs.Costs.{kept}
use Rattle.call_log.proofs.Exactly.{unfixed_says}
use Rattle.call_log.proofs.SoundParts.{accepted_plan, have_stops, stops_in_lem}
use Rattle.call_log.proofs.Steps.{cost_0}
use Rattle.flat.specs.Graph.{HasCounts}
use Rattle.flat.proofs.Facts.{Facts, facts}
use Rattle.flat.specs.Places.{Standing}
use Rattle.flat.proofs.PlacesLaws.{places_are}

-- ---- the tables of a graph

module _ {L : Limits} (counts : List ℕ) (G : Plan) (owners starts lasts from into : List ℕ) (T : GraphTables L counts G owners starts lasts from into) (G-formed : Formed G)
    (last_is : (d : ℕ) → d < G.drones → G.last d ≡ at counts d - 1) (have : (d : ℕ) → d < G.drones → 1 ≤ at counts d) where
  abbrev D : ℕ
  D = G.drones

  abbrev own : ℕ → ℕ
  own = owner D counts

  abbrev n : ℕ
  n = start counts D

  N : Numbered own (stop_number D counts) (start counts) (λ d. at counts d - 1) D n
  N = numbered D counts have

  -- stop s of drone d, numbered through
  module _ (d s x : ℕ) (l : d < D) (h : s ≤ G.last d) (e : x ≡ start counts d + s) where
    spot_in : x < n
    spot_in = rw e (N.place_in d s l (omega (arith, last_is d l)))

    spot_owner : at owners x ≡ d
    spot_owner = T.owners_are x spot_in ∙ ap own e ∙ N.place_own d s l (omega (arith, last_is d l))

    spot_start : at starts (at owners x) ≡ start counts d
    spot_start = ap (at starts) spot_owner ∙ T.starts_are d l

    spot_number : x - at starts (at owners x) ≡ s
    spot_number = omega (arith, spot_start, e)

  shape : Shape (at owners) (at starts) (at lasts) D n
  shape = record {
    own_in = λ v l. rw (T.owners_are v l) (N.own_in v l);
    off_le = λ v l. rw (T.owners_are v l, T.starts_are (own v) (N.own_in v l)) (omega (arith, N.number_is v l));
    number_in_lem = λ v l. rw (T.owners_are v l, T.starts_are (own v) (N.own_in v l), T.lasts_are (own v) (N.own_in v l)) (omega (arith, N.number_is v l, N.number_in_lem v l, last_is (own v) (N.own_in v l)));
    place_in = λ d s l h. spot_in d s (at starts d + s) l (omega (arith, T.lasts_are d l)) (omega (arith, T.starts_are d l));
    place_own = λ d s l h. spot_owner d s (at starts d + s) l (omega (arith, T.lasts_are d l)) (omega (arith, T.starts_are d l));
  }

  placed : PlacedWaits (at owners) (at starts) (at lasts) D n (at from) (at into) G.count
  placed = record {
    shape = shape;
    from_in = λ k l. spot_in (G.wait k).awaited (G.wait k).until (at from k) (G-formed k l).awaited_in (G-formed k l).until_in (T.from_are k l);
    into_in = λ k l. spot_in (G.wait k).waiter (G.wait k).stop (at into k) (G-formed k l).waiter_in (G-formed k l).stop_in (T.into_are k l);
    into_later = λ k l. omega (arith, T.into_are k l, (G-formed k l).stop_pos, spot_start (G.wait k).waiter (G.wait k).stop (at into k) (G-formed k l).waiter_in (G-formed k l).stop_in (T.into_are k l));
  }

  abbrev P : Plan
  P = flat_plan (at owners) (at starts) (at lasts) D (at from) (at into) G.count

  P-formed : Formed P
  P-formed = flat-formed (at owners) (at starts) (at lasts) D n (at from) (at into) G.count placed

  waits_are : (k : ℕ) → k < G.count → P.wait k ≡ G.wait k
  waits_are k l = wait_is
      (spot_owner (G.wait k).waiter (G.wait k).stop (at into k) (G-formed k l).waiter_in (G-formed k l).stop_in (T.into_are k l))
      (spot_number (G.wait k).waiter (G.wait k).stop (at into k) (G-formed k l).waiter_in (G-formed k l).stop_in (T.into_are k l))
      (spot_owner (G.wait k).awaited (G.wait k).until (at from k) (G-formed k l).awaited_in (G-formed k l).until_in (T.from_are k l))
      (spot_number (G.wait k).awaited (G.wait k).until (at from k) (G-formed k l).awaited_in (G-formed k l).until_in (T.from_are k l))

  pub laid_tables : n ≤ L.stops → G.count ≤ L.dependencies → D ≤ L.drones → FlatTables L owners starts lasts D n from into G.count
  laid_tables a b c = record { placed = placed; has_owners = omega (arith, T.owners_size); few_stops = a; few_waits = b; few_drones = c }

  pub laid_agree : GraphsAgree P G
  laid_agree = record { drones_agree = refl; lasts_agree = T.lasts_are; counts_agree = refl; waits_agree = waits_are }

  pub laid_in : AwaitedIn P
  laid_in = awaited_in P P-formed

  pub laid-cyclic : cyclic P ≡ cyclic G
  laid-cyclic = cyclic_agree P G laid_agree laid_in

  -- places: a list of where the drones count as standing
  pub laid_kept : (places : List ℕ) (p : ℕ → ℕ) → ((d : ℕ) → d < D → at places d ≡ p d) → Kept G p → Kept P (at places)
  laid_kept places p are K k l = subst (λ (z : Wait). z.stop ≤ at places z.waiter → z.until ≤ at places z.awaited) (sym (waits_are k l))
      (λ h. subst (λ (x : ℕ). (G.wait k).until ≤ x) (sym (are (G.wait k).awaited (G-formed k l).awaited_in)) (K k l (subst (λ (x : ℕ). (G.wait k).stop ≤ x) (are (G.wait k).waiter (G-formed k l).waiter_in) h)))

-- ---- one wait exchanged

-- a dependency's wait the other way round
swap_from : (counts : List ℕ) (b : Bool) (e : Dependency) (i : ℕ) → i ≡ start counts (wait_of (in_force b e)).waiter + (wait_of (in_force b e)).stop → i + 1 ≡ start counts (wait_of (in_force (not b) e)).awaited + (wait_of (in_force (not b) e)).until
swap_from counts true e i q = omega (arith, q)
swap_from counts false e i q = omega (arith, q)

swap_into : (counts : List ℕ) (b : Bool) (e : Dependency) (f : ℕ) → f ≡ start counts (wait_of (in_force b e)).awaited + (wait_of (in_force b e)).until → f - 1 ≡ start counts (wait_of (in_force (not b) e)).waiter + (wait_of (in_force (not b) e)).stop
swap_into counts true e f q = omega (arith, q)
swap_into counts false e f q = omega (arith, q)

until_some : (b : Bool) (e : Dependency) → 1 ≤ (wait_of (in_force b e)).until
until_some true e = omega arith
until_some false e = omega arith

module _ (turned : ℕ → Bool) (w : ℕ) where
  flip-here : flip turned w w ≡ not (turned w)
  flip-here = rw (eq-eqb w w refl) refl

  pub flip_other : (k : ℕ) → eqb k w ≡ false → flip turned w k ≡ turned k
  flip_other k q = rw q refl

-- the flag bytes after a turn show the order after it
flipped-turned : (flags : List ℕ) (w : ℕ) → w < length flags → (λ (k : ℕ). turned_bit (at (set flags w (flip_bit (at flags w))) k)) ≡ flip (λ k. turned_bit (at flags k)) w
flipped-turned flags w l = fun_ext (λ k. by_cases (eqb k w)
    (λ q. rw (q, eqb-true k w q, get_or-set_same flags w (flip_bit (at flags w)) 0 l) (flip-turned (at flags w)))
    (λ q. rw q (ap turned_bit (get_or-set_other flags w k (flip_bit (at flags w)) 0 (eqb-false k w q)))))

-- and so the status after it
pub flipped_status : (t : Tables) (w : ℕ) → w < length t.flags → status_in (flipped t w) ≡ after_turn (status_in t) w
flipped_status t w l = ap (λ (turned : ℕ → Bool). record { place = (status_in t).place; under_way = (status_in t).under_way; withdrawn = (status_in t).withdrawn; turned = turned }) (flipped-turned t.flags w l)

module _ {L : Limits} (counts : List ℕ) (F : FieldPlan) (s : Status) (owners starts lasts from into : List ℕ) (T : GraphTables L counts (graph F s) owners starts lasts from into) (w : ℕ) (l : w < F.count) (others : of_withdrawn F s w ≡ false) (few : F.count ≤ L.dependencies) where
  open s use {turned}

  abbrev awaited_by : Bool → ℕ → ℕ
  awaited_by b k = start counts (wait_of (in_force b (F.dependency k))).awaited + cond (of_withdrawn F s k) 0 (wait_of (in_force b (F.dependency k))).until

  -- neither drone of dependency w is withdrawn, so its wait is not left out
  whole : (b : Bool) → awaited_by b w ≡ start counts (wait_of (in_force b (F.dependency w))).awaited + (wait_of (in_force b (F.dependency w))).until
  whole b = ap (λ (o : Bool). start counts (wait_of (in_force b (F.dependency w))).awaited + cond o 0 (wait_of (in_force b (F.dependency w))).until) others

  abbrev waiting_by : Bool → ℕ → ℕ
  waiting_by b k = start counts (wait_of (in_force b (F.dependency k))).waiter + (wait_of (in_force b (F.dependency k))).stop

  pub from_some : 1 ≤ at from w
  from_some = let from_is : at from w ≡ start counts (wait_of (in_force (turned w) (F.dependency w))).awaited + (wait_of (in_force (turned w) (F.dependency w))).until = T.from_are w l ∙ whole (turned w) in omega (arith, from_is, until_some (turned w) (F.dependency w))

  -- the tables then hold the graph with dependency w turned
  pub exchanged : (from' into' : List ℕ) → from' ≡ set from w (at into w + 1) → into' ≡ set into w (at from w - 1) → GraphTables L counts (graph F (after_turn s w)) owners starts lasts from' into'
  exchanged from' into' ef ei = record {
    owners_size = T.owners_size;
    from_size = ap length ef ∙ length-set from w (at into w + 1) ∙ T.from_size;
    into_size = ap length ei ∙ length-set into w (at from w - 1) ∙ T.into_size;
    owners_are = T.owners_are;
    starts_are = T.starts_are;
    lasts_are = T.lasts_are;
    from_are = λ k h. ap (λ (z : List ℕ). at z k) ef ∙ by_cases (eqb k w)
        (λ q. subst (λ (z : ℕ). at (set from w (at into w + 1)) z ≡ awaited_by (flip turned w z) z) (sym (eqb-true k w q))
        (get_or-set_same from w (at into w + 1) 0 (omega (arith, T.from_size)) ∙ swap_from counts (turned w) (F.dependency w) (at into w) (T.into_are w l) ∙ sym (whole (not (turned w))) ∙ ap (λ (b : Bool). awaited_by b w) (sym (flip-here turned w))))
        (λ q. get_or-set_other from w k (at into w + 1) 0 (eqb-false k w q) ∙ T.from_are k h ∙ ap (λ (b : Bool). awaited_by b k) (sym (flip_other turned w k q)));
    into_are = λ k h. ap (λ (z : List ℕ). at z k) ei ∙ by_cases (eqb k w)
        (λ q. subst (λ (z : ℕ). at (set into w (at from w - 1)) z ≡ waiting_by (flip turned w z) z) (sym (eqb-true k w q))
        (get_or-set_same into w (at from w - 1) 0 (omega (arith, T.into_size)) ∙ swap_into counts (turned w) (F.dependency w) (at from w) (T.from_are w l ∙ whole (turned w)) ∙ ap (λ (b : Bool). waiting_by b w) (sym (flip-here turned w))))
        (λ q. get_or-set_other into w k (at from w - 1) 0 (eqb-false k w q) ∙ T.into_are k h ∙ ap (λ (b : Bool). waiting_by b k) (sym (flip_other turned w k q)));
  }

-- ---- usable tables

module _ (L : Limits) (t : Tables) (u : Usable L t) where
  abbrev p : PlanLists
  p = t.plan

  S : Sound L t
  S = sound-says L t u.1

  facts_now : Facts L t
  facts_now = facts L t u

  accepted : AcceptedPlan (plan_of p)
  accepted = accepted_plan L p S.accepted S.dependencies_own

  pub unfixed_now : Unfixed (plan_of p) (status_in t)
  unfixed_now = unfixed_says (plan_of p) (status_in t) S.fixed_unturned_lem

  rounds_0 : rounds (makespan (graph (plan_of p) (status_in t)) (plan_of p).leg (place_of (plan_of p) (status_in t))) ≡ rounds_reply L t
  unfolding rounds_reply
  rounds_0 = rw (u.0, u.1) refl

  pub usable_counts : L.drones ≤ 256 → Counts (drones p) p.stop_counts
  usable_counts fit = record { has_counts = omega (arith, facts_now.drones_few, facts_now.sizes.stop_counts_lem); drones_fit = omega (arith, facts_now.drones_few) }

  pub has_counts : L.drones ≤ 256 → HasCounts p.drone_count p.stop_counts
  has_counts fit = record { has_drone_count = facts_now.sizes.drone_count_lem; counted = usable_counts fit }

  -- room for the drones' places
  pub places_room : (drones p ≤ length t.visited) × (drones p ≤ length t.drone_flags) × (drones p ≤ L.drones)
  places_room = (omega (arith, facts_now.drones_few, facts_now.sizes.visited), omega (arith, facts_now.drones_few, facts_now.sizes.drone_flags), facts_now.drones_few)

  -- the graph with any order in which no fixed dependency is turned, in local tables; n stops in all
  module _ (s : Status) (unfixed : Unfixed (plan_of p) s) (n : ℕ) (total : n ≡ start p.stop_counts (drones p)) (owners starts lasts from into : List ℕ) (T : GraphTables L p.stop_counts (graph (plan_of p) s) owners starts lasts from into) where
    abbrev ordered : Plan
    ordered = graph (plan_of p) s

    abbrev laid_plan : Plan
    laid_plan = flat_plan (at owners) (at starts) (at lasts) (drones p) (at from) (at into) (dependencies p)

    pub order_formed : Formed ordered
    order_formed = graph-formed (plan_of p) accepted s unfixed

    pub order_tables : FlatTables L owners starts lasts (drones p) n from into (dependencies p)
    order_tables = subst (λ (z : ℕ). FlatTables L owners starts lasts (drones p) z from into (dependencies p)) (sym total)
        (laid_tables p.stop_counts ordered owners starts lasts from into T order_formed (λ d l. refl) (have_stops L p S.accepted) (stops_in_lem L p S.accepted) facts_now.dependencies_few facts_now.drones_few)

    pub order_cyclic : cyclic laid_plan ≡ cyclic ordered
    order_cyclic = laid-cyclic p.stop_counts ordered owners starts lasts from into T order_formed (λ d l. refl) (have_stops L p S.accepted)

    -- a stop that is no drone's stop 0 has a leg
    later_leg : (v : ℕ) → v < n → at starts (at owners v) < v → 0 < at p.legs v
    unfolding stop_number
    later_leg v l o =
        let in-total : v < stop_total p = omega (arith, total) in
        let own : at owners v ≡ owner_in p v = T.owners_are v in-total in
        let first : at starts (at owners v) ≡ start p.stop_counts (owner_in p v) = T.starts_are (at owners v) (order_tables.placed.shape.own_in v l) ∙ ap (start p.stop_counts) own in
        accepted_have_legs L p S.accepted v in-total (λ e. omega (arith, first, o, e))

    -- where it has no cycle and its waits are kept, rounds can be counted
    module _ (acyclic : cyclic ordered ≡ false) (waits : Kept ordered (place_of (plan_of p) s)) (within : (d : ℕ) → d < drones p → place_of (plan_of p) s d ≤ (plan_of p).last d) (places : List ℕ) (room : drones p ≤ length places) (are : (d : ℕ) → d < drones p → at places d ≡ place_of (plan_of p) s d) (some : 1 ≤ L.leg) where
      pub order_ready : Ready L owners starts lasts (drones p) n from into (dependencies p) p.legs places
      order_ready = record {
        tables = order_tables;
        has_visited = room;
        has_legs = omega (arith, order_tables.few_stops, facts_now.sizes.legs);
        short_legs = λ v l. accepted-short L p S.accepted some v (omega (arith, total));
        some_legs = λ v l o. later_leg v l o;
        acyclic = order_cyclic ∙ acyclic;
        kept = laid_kept p.stop_counts ordered owners starts lasts from into T order_formed (λ d l. refl) (have_stops L p S.accepted) places (place_of (plan_of p) s) are waits;
        within = λ d l. omega (arith, T.lasts_are d l, are d l, within d l);
      }

    flat_agree : GraphsAgree laid_plan ordered
    flat_agree = laid_agree p.stop_counts ordered owners starts lasts from into T order_formed (λ d l. refl) (have_stops L p S.accepted)

    flat_in : AwaitedIn laid_plan
    flat_in = laid_in p.stop_counts ordered owners starts lasts from into T order_formed (λ d l. refl) (have_stops L p S.accepted)

    abbrev laid_legs : ℕ → ℕ → ℕ
    laid_legs = flat_leg (at starts) (at p.legs)

    -- the legs by stops numbered through are the plan's
    legs_agree : SameLegs laid_plan laid_legs (plan_of p).leg
    legs_agree d k l o h = ap (λ (x : ℕ). at p.legs (x + k)) (T.starts_are d l)

    module _ (places : List ℕ) (are : (d : ℕ) → d < drones p → at places d ≡ place_of (plan_of p) s d) where
      pub order_cost : cost laid_plan laid_legs (at places) ≡ cost ordered (plan_of p).leg (place_of (plan_of p) s)
      order_cost = cost_agree laid_plan ordered flat_agree flat_in laid_legs (plan_of p).leg legs_agree (at places) (place_of (plan_of p) s) are

      pub order_makespan : makespan laid_plan laid_legs (at places) ≡ makespan ordered (plan_of p).leg (place_of (plan_of p) s)
      order_makespan = makespan_agree laid_plan ordered flat_agree flat_in laid_legs (plan_of p).leg legs_agree (at places) (place_of (plan_of p) s) are

  -- ---- the order now in force

  -- nobody counts as standing past a last stop
  counts_within : (d : ℕ) → d < drones p → place_of (plan_of p) (status_in t) d ≤ (plan_of p).last d
  counts_within d l = go ((status_in t).withdrawn d)
    where
      go : (b : Bool) → cond b ((plan_of p).last d) (at t.visited d) ≤ (plan_of p).last d
      go true = omega arith
      go false = omega (arith, facts_now.place_in d l)

  module _ (n : ℕ) (total : n ≡ start p.stop_counts (drones p)) (owners starts lasts from into : List ℕ) (T : WaitsInForce L t owners starts lasts from into) where
    pub now_tables : FlatTables L owners starts lasts (drones p) n from into (dependencies p)
    now_tables = order_tables (status_in t) unfixed_now n total owners starts lasts from into T

    -- places: a list of where the drones count as standing
    module _ (places : List ℕ) {full : ℕ} (standing : Standing full (drones p) t.visited t.drone_flags lasts places) where
      are : (d : ℕ) → d < drones p → at places d ≡ place_of (plan_of p) (status_in t) d
      are = places_are t owners starts lasts from into T places standing

      pub now_ready : 1 ≤ L.leg → Ready L owners starts lasts (drones p) n from into (dependencies p) p.legs places
      now_ready = order_ready (status_in t) unfixed_now n total owners starts lasts from into T S.no_cycle (kept L t S.waits_kept_lem) counts_within places standing.room are

      pub now_cost : (r : ℕ) → r ≡ cost (flat_plan (at owners) (at starts) (at lasts) (drones p) (at from) (at into) (dependencies p)) (flat_leg (at starts) (at p.legs)) (at places) → costs r ≡ cost_reply L t
      now_cost r e = ap costs (e ∙ order_cost (status_in t) unfixed_now n total owners starts lasts from into T places are) ∙ sym (cost_0 L t u.0 u.1)

      pub now_makespan : (r : ℕ) → r ≡ makespan (flat_plan (at owners) (at starts) (at lasts) (drones p) (at from) (at into) (dependencies p)) (flat_leg (at starts) (at p.legs)) (at places) → rounds r ≡ rounds_reply L t
      now_makespan r e = ap rounds (e ∙ order_makespan (status_in t) unfixed_now n total owners starts lasts from into T places are) ∙ rounds_0

    -- ---- .. and with one dependency turned that passes 30 to 32

    module _ (w : ℕ) (passes : Passes (plan_of p) (status_in t) w) where
      exists : w < dependencies p
      exists = leb-false (dependencies p) w passes.0

      unfixed_turned : Unfixed (plan_of p) (after_turn (status_in t) w)
      unfixed_turned k h e = by_cases (eqb k w)
          (λ q. ap (fixed (plan_of p)) (eqb-true k w q) ∙ passes.2)
          (λ q. unfixed_now k h (sym (flip_other (status_in t).turned w k q) ∙ e))

      module _ (from' into' : List ℕ) (ef : from' ≡ set from w (at into w + 1)) (ei : into' ≡ set into w (at from w - 1)) where
        after : GraphTables L p.stop_counts (graph (plan_of p) (after_turn (status_in t) w)) owners starts lasts from' into'
        after = exchanged p.stop_counts (plan_of p) (status_in t) owners starts lasts from into T w exists passes.1 facts_now.dependencies_few from' into' ef ei

        pub turn_tables : FlatTables L owners starts lasts (drones p) n from' into' (dependencies p)
        turn_tables = order_tables (after_turn (status_in t) w) unfixed_turned n total owners starts lasts from' into' after
