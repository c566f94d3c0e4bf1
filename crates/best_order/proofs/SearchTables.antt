-- The local tables of usable tables, with the open dependencies marked and a list of where the drones count as standing, are what the search asks for, and its reply over them is that of the plan and the status. Assumes nothing.
use mathlib.Core.Path.{◌≡◌, refl, sym, ap, ap₂, ◌∙◌, subst, fun_ext}
use mathlib.Core.Bool.{Bool, true, false, not}
use mathlib.Core.List.{List}
use Prim.Native.Nat.{ℕ, ◌+◌, ◌-◌, ◌≤◌, ◌<◌}
use native.Mathlib.Omega.{arith}
use lib.Dec.{eqb}
use lib.ListN.{length, set}
use lib.Seq.{get_or-set_same}
use borrow.Author.Tests.{eq-eqb, eqb-true}
use Rattle.below.specs.Below.{at, pick, count_below}
use Rattle.below.proofs.Fill.{get_d_fill}
use Rattle.below.proofs.Same.{count_ext, picks_ext}
use Rattle.below.proofs.Tests.{by_cases}
use Rattle.tables.specs.Limits.{Limits}
use Rattle.tables.specs.Tables.{Tables, drones, dependencies}
use Rattle.precedence.specs.Graph.{Wait, Plan, Formed}
use Rattle.precedence.proofs.Agreement.{GraphsAgree, SameLegs, awaited_in, cyclic_agree, cost_agree}
use Rattle.plan.specs.Stops.{start}
use Rattle.plan.specs.Claims.{Unfixed}
use Rattle.plan.specs.Field.{FieldPlan, Status, plan_of, in_force, wait_of, wait_unless, of_withdrawn, flip, after_turn, graph, place_of, fixed}
use Rattle.plan.specs.Status.{status_in}
use Rattle.sound.specs.Asked.{GraphTables, WaitsInForce}
use Rattle.sound.proofs.Clauses.{Sound, sound-says}
use Rattle.rounds.specs.Remaining.{Ready, flat_leg}
use Rattle.call_log.specs.Claims.{Usable}
use Rattle.call_log.specs.BestOrder.{opens, turned_wait, open_ones, cycle_in, cost_in, open_in, list_in}
use Rattle.call_log.proofs.Checks.{Passes}
use Rattle.call_log.proofs.Costs.{formed}
use Rattle.call_log.proofs.SoundParts.{have_stops}
use Rattle.call_log.proofs.BestOrder.{opens_passes, open_both, open_unentered}
use Rattle.choices.specs.Budget.{reply_for}
use Rattle.choices.specs.Directions.{Direction, as_it_is, in_direction, is_turned, direction_of, to_turn, choice_plan, choice_cyclic, choice_cost}
use Rattle.choices.proofs.Grows.{plan_formed}
use Rattle.orders.specs.Arranged.{wait_between, standing_plan, turned_round, marked_open, Searchable, standing_reply}
use Rattle.orders.proofs.Arranged.{both_formed}
use Rattle.flat.specs.Places.{Standing}
use Rattle.flat.proofs.Facts.{facts}
use Rattle.flat.proofs.PlacesLaws.{places_are}
use Rattle.flat.proofs.GraphLaws.{flip_other, exchanged, unfixed_now, order_formed, now_ready, turn_tables, laid_agree}
use Rattle.best_order.specs.Opening.{OpenMarked}

mark_one : (b : Bool) → eqb (pick b 1 0) 1 ≡ b
mark_one true = refl
mark_one false = refl

mark_most : (b : Bool) → pick b 1 0 ≤ 1
mark_most true = omega arith
mark_most false = omega arith

module _ (L : Limits) (t : Tables) (u : Usable L t) (n : ℕ) (total : n ≡ start t.plan.stop_counts (drones t.plan)) (owners starts lasts from into : List ℕ) (T : WaitsInForce L t owners starts lasts from into)
    (places : List ℕ) {full : ℕ} (standing : Standing full (drones t.plan) t.visited t.drone_flags lasts places) (some : 1 ≤ L.leg) where
  abbrev F : FieldPlan
  F = plan_of t.plan

  abbrev S : Status
  S = status_in t

  abbrev G : Plan
  G = graph F S

  abbrev m : ℕ
  m = dependencies t.plan

  abbrev D : ℕ
  D = drones t.plan

  abbrev P : Plan
  P = standing_plan owners starts lasts D from into m

  abbrev other : ℕ → Wait
  other = turned_round owners starts from into

  known : Sound L t
  known = sound-says L t u.1

  ready : Ready L owners starts lasts D n from into m t.plan.legs places
  ready = now_ready L t u n total owners starts lasts from into T places standing some

  are : (d : ℕ) → d < D → at places d ≡ place_of F S d
  are = places_are t owners starts lasts from into T places standing

  abbrev laid_legs : ℕ → ℕ → ℕ
  laid_legs = flat_leg (at starts) (at t.plan.legs)

  agree : GraphsAgree P G
  agree = laid_agree t.plan.stop_counts G owners starts lasts from into T (formed L t known) (λ d l. refl) (have_stops L t.plan known.accepted)

  -- ---- an open dependency turned

  module _ (w : ℕ) (l : w < m) (o : opens F S w ≡ true) where
    abbrev from' : List ℕ
    from' = set from w (at into w + 1)

    abbrev into' : List ℕ
    into' = set into w (at from w - 1)

    passes : Passes F S w
    passes = opens_passes F S w o

    inside : w < L.dependencies
    inside = omega (arith, (facts L t u).dependencies_few)

    turned_tables : GraphTables L t.plan.stop_counts (graph F (after_turn S w)) owners starts lasts from' into'
    turned_tables = exchanged t.plan.stop_counts F S owners starts lasts from into T w l passes.1 (facts L t u).dependencies_few from' into' refl refl

    unfixed : Unfixed F (after_turn S w)
    unfixed k h e = by_cases (eqb k w)
        (λ q. ap (fixed F) (eqb-true k w q) ∙ passes.2)
        (λ q. unfixed_now L t u k h (sym (flip_other S.turned w k q) ∙ e))

    turned-formed : Formed (graph F (after_turn S w))
    turned-formed = order_formed L t u (after_turn S w) unfixed n total owners starts lasts from' into' turned_tables

    from_here : at from' w ≡ at into w + 1
    from_here = get_or-set_same from w (at into w + 1) 0 (omega (arith, inside, T.from_size))

    into-here : at into' w ≡ at from w - 1
    into-here = get_or-set_same into w (at from w - 1) 0 (omega (arith, inside, T.into_size))

    flipped-here : flip S.turned w w ≡ not (S.turned w)
    flipped-here = rw (eq-eqb w w refl) refl

    turned_is : other w ≡ turned_wait F S w
    turned_is =
        ap₂ (wait_between owners starts) (sym from_here) (sym into-here)
        ∙ (laid_agree t.plan.stop_counts (graph F (after_turn S w)) owners starts lasts from' into' turned_tables turned-formed (λ d l. refl) (have_stops L t.plan known.accepted)).waits_agree w l
        ∙ ap (λ (b : Bool). wait_unless (of_withdrawn F S w) (wait_of (in_force b (F.dependency w)))) flipped-here

    turned_from : at into w + 1 < n
    turned_from = omega (arith, from_here, (turn_tables L t u n total owners starts lasts from into T w passes from' into' refl refl).placed.from_in w l)

    unentered : at places (other w).waiter < (other w).stop
    unentered = subst (λ (z : Wait). at places z.waiter < z.stop) (sym turned_is)
        (subst (λ (x : ℕ). x < (turned_wait F S w).stop) (sym (are (turned_wait F S w).waiter ((open_both L t u).formed_other w l o).waiter_in)) (open_unentered L t u w l o))

  -- ---- the marks

  module _ {z os : List ℕ} {k : ℕ} (room : m ≤ length z) (M : OpenMarked t m z os k) where
    at_mark : (w : ℕ) → w < m → at os w ≡ pick (opens F S w) 1 0
    at_mark w l = ap (λ (x : List ℕ). at x w) M.marks_are ∙ get_d_fill (λ v. pick (opens F S v) 1 0) z m w l room

    mark_is : (w : ℕ) → w < m → marked_open os w ≡ opens F S w
    mark_is w l = ap (λ (x : ℕ). eqb x 1) (at_mark w l) ∙ mark_one (opens F S w)

    pub marks_small : (w : ℕ) → w < m → at os w ≤ 1
    marks_small w l = rw (at_mark w l) (mark_most (opens F S w))

    open_count_lem : count_below m (marked_open os) ≡ open_ones F S
    open_count_lem = count_ext m (marked_open os) (opens F S) mark_is

    pub marks_count : k ≡ count_below m (marked_open os)
    marks_count = M.count_is ∙ sym open_count_lem

    pub tables_searchable : Searchable L owners starts lasts D n from into m (marked_open os) t.plan.legs places
    tables_searchable = record {
      tables = ready.tables;
      has_visited = ready.has_visited;
      has_legs = ready.has_legs;
      short_legs = ready.short_legs;
      some_legs = ready.some_legs;
      acyclic = ready.acyclic;
      kept = ready.kept;
      within = ready.within;
      turned_from = λ w l o. turned_from w l (sym (mark_is w l) ∙ o);
      unentered = λ w l o. unentered w l (sym (mark_is w l) ∙ o);
    }

    module _ (xs : List Bool) where
      same_direction : (w : ℕ) → w < m → direction_of (marked_open os) xs w ≡ direction_of (opens F S) xs w
      unfolding direction_of
      same_direction w l = rw (mark_is w l, count_ext w (marked_open os) (opens F S) (λ v h. mark_is v (omega arith))) refl

      shut_direction : (w : ℕ) → opens F S w ≡ false → direction_of (opens F S) xs w ≡ as_it_is
      unfolding direction_of
      shut_direction w o = rw o refl

      wait_same : (w : ℕ) → w < m → (choice_plan P other (marked_open os) xs).wait w ≡ (choice_plan G (turned_wait F S) (opens F S) xs).wait w
      wait_same w l = by_cases (opens F S w)
          (λ o. ap (λ (d : Direction). in_direction d (P.wait w) (other w)) (same_direction w l) ∙ ap₂ (λ (a b : Wait). in_direction (direction_of (opens F S) xs w) a b) (agree.waits_agree w l) (turned_is w l o))
          (λ o. ap (λ (d : Direction). in_direction d (P.wait w) (other w)) (same_direction w l ∙ shut_direction w o) ∙ agree.waits_agree w l ∙ ap (λ (d : Direction). in_direction d (G.wait w) (turned_wait F S w)) (sym (shut_direction w o)))

      choice_agree : GraphsAgree (choice_plan P other (marked_open os) xs) (choice_plan G (turned_wait F S) (opens F S) xs)
      choice_agree = record { drones_agree = refl; lasts_agree = T.lasts_are; counts_agree = refl; waits_agree = wait_same }

      choice-formed : Formed (choice_plan P other (marked_open os) xs)
      choice-formed = plan_formed P other (marked_open os) (both_formed owners starts lasts D n from into m (marked_open os) t.plan.legs places tables_searchable) xs

      cyclic_is : choice_cyclic P other (marked_open os) xs ≡ cycle_in t xs
      cyclic_is = cyclic_agree (choice_plan P other (marked_open os) xs) (choice_plan G (turned_wait F S) (opens F S) xs) choice_agree (awaited_in _ choice-formed)

      -- the legs by stops numbered through are the plan's
      legs_same : SameLegs (choice_plan P other (marked_open os) xs) laid_legs F.leg
      legs_same d k l o h = ap (λ (x : ℕ). at t.plan.legs (x + k)) (T.starts_are d l)

      cost_is : choice_cost P other (marked_open os) laid_legs (at places) xs ≡ cost_in t xs
      cost_is = cost_agree (choice_plan P other (marked_open os) xs) (choice_plan G (turned_wait F S) (opens F S) xs) choice_agree (awaited_in _ choice-formed) laid_legs F.leg legs_same (at places) (place_of F S) are

      pub list_is : to_turn m (marked_open os) xs ≡ list_in t xs
      unfolding to_turn
      list_is = picks_ext m (λ w. is_turned (direction_of (marked_open os) xs w)) (λ w. is_turned (direction_of (opens F S) xs w)) (λ w. w) (λ w. w) (λ w l. ap is_turned (same_direction w l)) (λ w l. refl)

    pub tables_reply : (budget : ℕ) → standing_reply owners starts lasts D from into m (marked_open os) t.plan.legs places budget (count_below m (marked_open os)) ≡ reply_for (cycle_in t) (cost_in t) budget (open_in t)
    tables_reply budget = ap₂ (λ (x : List Bool → Bool) (y : List Bool → ℕ). reply_for x y budget (count_below m (marked_open os))) (fun_ext cyclic_is) (fun_ext cost_is) ∙ ap (reply_for (cycle_in t) (cost_in t) budget) open_count_lem
