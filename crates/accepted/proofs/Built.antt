-- The dependencies laid into tables whose dependency entries are zero: they are the plan's own, with right flag bytes, and zero past the last.
use mathlib.Core.Path.{◌≡◌, refl, sym, ◌∙◌}
use mathlib.Core.Bool.{true}
use mathlib.Core.List.{List, [], ◌∷◌}
use Prim.Native.Nat.{ℕ, ◌≤◌, ◌<◌}
use native.Mathlib.Omega.{arith}
use borrow.Author.Tests.{le-leb, eq-eqb}
use lib.ListN.{length}
use lib.Seq.{length-sets, get_or-set_same}
use Rattle.below.specs.Below.{at, laid}
use Rattle.below.proofs.Tests.{and_both}
use Rattle.below.proofs.Every.{all_below_all}
use Rattle.below.proofs.Picks.{laid-length}
use Rattle.below.proofs.Pairs.{length-listed}
use Rattle.tables.specs.Limits.{Limits}
use Rattle.tables.specs.Tables.{PlanLists, Tables, dependencies, Sizes}
use Rattle.tables.specs.Flags.{fixed_flag}
use Rattle.tables.proofs.SizeLaws.{SameLengths, full_size_lengths, sizes_full}
use Rattle.text.specs.Written.{Route, InLimits}
use Rattle.plan.specs.Dependencies.{follows, flag_of}
use Rattle.plan.specs.Field.{plan_of, fixed}
use Rattle.plan.specs.Claims.{owner_in, number_in, stop_total, visits_in, HoldsPlanned, planned_total, planned_list}
use Rattle.plan.proofs.Claims.{accepted_claims}
use Rattle.sound.specs.Sound.{zero_from, site_sound, lists_sound, passes_check as checked_sound, plan_accepted_lem, dependencies_sound, plan_unused_lem}
use Rattle.call_log.specs.Calls.{AsRead}
use Rattle.reading.specs.Reading.{with_dependencies, check_in}
use Rattle.reading.specs.Replies.{taken as Taken}
use Rattle.accepted.proofs.Stored.{at-past, laid-at}
use Rattle.accepted.proofs.PlanHeld.{HoldsRoutes, zero-past, have_stops, in_range_lem, names_sound_lem, names_zero, counts_zero, locations_zero, times_zero, legs_zero}
use Rattle.accepted.proofs.ReadCases.{no_fault, no_collision}

-- the columns of dependencies and the drones' progress are zero up to their full sizes
pub record Blank (L : Limits) (t : Tables) : Type 0 where
  pub first_drones_lem : (i : ℕ) → i < L.dependencies → at t.plan.first_drones i ≡ 0
  pub first_stops_lem : (i : ℕ) → i < L.dependencies → at t.plan.first_stops i ≡ 0
  pub second_drones_lem : (i : ℕ) → i < L.dependencies → at t.plan.second_drones i ≡ 0
  pub second_stops_lem : (i : ℕ) → i < L.dependencies → at t.plan.second_stops i ≡ 0
  pub flags : (i : ℕ) → i < L.dependencies → at t.flags i ≡ 0
  pub visited : (d : ℕ) → d < L.drones → at t.visited d ≡ 0
  pub drone_flags : (d : ℕ) → d < L.drones → at t.drone_flags d ≡ 0

-- the plan's own dependencies, as the test has them
own-sound : (L : Limits) (p : PlanLists) → HoldsPlanned p → dependencies_sound L p ≡ true
unfolding dependencies_sound
own-sound L p h =
    and_both _ _ (eq-eqb _ _ h.total)
    (all_below_all (dependencies p) _ (λ k l.
    and_both _ _ (eq-eqb _ _ (h.first_drones_lem k l))
    (and_both _ _ (eq-eqb _ _ (h.first_stops_lem k l))
    (and_both _ _ (eq-eqb _ _ (h.second_drones_lem k l))
    (eq-eqb _ _ (h.second_stops_lem k l))))))

module _ (L : Limits) (t : Tables) (sizes : Sizes L t) (blank : Blank L t) (room : planned_total t.plan ≤ L.dependencies) where
  abbrev lists : PlanLists
  lists = (with_dependencies t).plan

  same_lengths : SameLengths (with_dependencies t) t
  same_lengths = record {
    drone_count_lem = refl;
    dependency_count = length-sets t.plan.dependency_count 0 (planned_total t.plan ∷ []);
    form = refl;
    names = refl;
    stop_counts_lem = refl;
    locations = refl;
    times = refl;
    legs = refl;
    first_drones_lem = laid-length _ _ _ _ refl;
    first_stops_lem = laid-length _ _ _ _ refl;
    second_drones_lem = laid-length _ _ _ _ refl;
    second_stops_lem = laid-length _ _ _ _ refl;
    visited = refl;
    drone_flags = refl;
    flags = laid-length _ _ _ _ refl;
    pairs = refl;
  }

  count_is : dependencies lists ≡ planned_total t.plan
  count_is = get_or-set_same t.plan.dependency_count 0 (planned_total t.plan) 0 sizes.dependency_count

  column_long : (f : ℕ → ℕ → ℕ) → length (planned_list t.plan f) ≡ planned_total t.plan
  column_long f = length-listed (follows (visits_in t.plan)) (stop_total t.plan) f

  -- one column: its entries, 0 past the last
  column-at : (l : List ℕ) → L.dependencies ≤ length l → ((i : ℕ) → i < L.dependencies → at l i ≡ 0) → (f : ℕ → ℕ → ℕ) (k : ℕ) → k < L.dependencies
      → at (laid l 0 (planned_list t.plan f)) k ≡ at (planned_list t.plan f) k
  column-at l s z f k h =
      let fits : length (planned_list t.plan f) ≤ length l = omega (arith, column_long f, room) in
      laid-at l (planned_list t.plan f) k fits (z k h)

  column-zero : (l : List ℕ) → L.dependencies ≤ length l → ((i : ℕ) → i < L.dependencies → at l i ≡ 0) → (f : ℕ → ℕ → ℕ) → zero_from (dependencies lists) L.dependencies (laid l 0 (planned_list t.plan f)) ≡ true
  column-zero l s z f = zero-past _ _ (laid l 0 (planned_list t.plan f)) (planned_list t.plan f) (column_long f ∙ sym count_is) (column-at l s z f)

  in_room : (k : ℕ) → k < dependencies lists → k < L.dependencies
  in_room k l = omega (arith, count_is, room)

  pub holds_planned : HoldsPlanned lists
  holds_planned = record {
    total = count_is;
    first_drones_lem = λ k l. column-at t.plan.first_drones sizes.first_drones_lem blank.first_drones_lem _ k (in_room k l);
    first_stops_lem = λ k l. column-at t.plan.first_stops sizes.first_stops_lem blank.first_stops_lem _ k (in_room k l);
    second_drones_lem = λ k l. column-at t.plan.second_drones sizes.second_drones_lem blank.second_drones_lem _ k (in_room k l);
    second_stops_lem = λ k l. column-at t.plan.second_stops sizes.second_stops_lem blank.second_stops_lem _ k (in_room k l);
  }

  -- the flag byte of each pair of stops
  abbrev flag : ℕ → ℕ → ℕ
  flag = flag_of (owner_in t.plan) (number_in t.plan) (stop_total t.plan)

  module _ (form : ℕ) (ds : List Route) (v : InLimits L form ds) (holds : HoldsRoutes L form ds t.plan) (passed : check_in t.plan ≡ Taken) (site : site_sound L t.plan ≡ true) where
    -- the plan's values are not written by the building
    still_holds : HoldsRoutes L form ds lists
    still_holds = record {
      drones_are = holds.drones_are;
      form_is = holds.form_is;
      names_are = holds.names_are;
      counts_are = holds.counts_are;
      locations_are = holds.locations_are;
      times_are = holds.times_are;
      legs_are = holds.legs_are;
    }

    check_passes : checked_sound L lists ≡ true
    unfolding checked_sound
    check_passes = and_both _ _ (eq-eqb _ _ (no_fault t.plan passed)) (no_collision t.plan passed)

    lists_right : lists_sound L lists ≡ true
    unfolding lists_sound site_sound
    lists_right = and_both _ _ (names_sound_lem L form ds v lists still_holds) site

    accepted : plan_accepted_lem L lists ≡ true
    unfolding plan_accepted_lem
    accepted = and_both _ _ (in_range_lem L form ds v lists still_holds) (and_both _ _ lists_right (and_both _ _ check_passes (le-leb (planned_total t.plan) L.dependencies room)))

    unused : plan_unused_lem L lists ≡ true
    unfolding plan_unused_lem
    unused =
        and_both _ _ (names_zero L form ds v lists still_holds)
        (and_both _ _ (counts_zero L form ds v lists still_holds)
        (and_both _ _ (locations_zero L form ds v lists still_holds)
        (and_both _ _ (times_zero L form ds v lists still_holds)
        (and_both _ _ (legs_zero L form ds v lists still_holds)
        (and_both _ _ (column-zero t.plan.first_drones sizes.first_drones_lem blank.first_drones_lem _)
        (and_both _ _ (column-zero t.plan.first_stops sizes.first_stops_lem blank.first_stops_lem _)
        (and_both _ _ (column-zero t.plan.second_drones sizes.second_drones_lem blank.second_drones_lem _)
        (column-zero t.plan.second_stops sizes.second_stops_lem blank.second_stops_lem _))))))))

    flag_right_lem : (w : ℕ) → w < dependencies lists → at (with_dependencies t).flags w ≡ fixed_flag (fixed (plan_of lists) w)
    unfolding fixed_flag
    flag_right_lem w l = column-at t.flags sizes.flags blank.flags flag w (in_room w l) ∙ accepted_claims.right_flags lists (have_stops L form ds v lists still_holds) holds_planned w l

    flag_zero : (w : ℕ) → dependencies lists ≤ w → w < L.dependencies → at (with_dependencies t).flags w ≡ 0
    flag_zero w a b = column-at t.flags sizes.flags blank.flags flag w b ∙ at-past (planned_list t.plan flag) w (omega (arith, column_long flag, count_is))

    pub built_as_read : AsRead L lists (with_dependencies t)
    built_as_read = record {
      plan_read = refl;
      full = full_size_lengths L (with_dependencies t) t same_lengths ∙ sizes_full L t sizes;
      plan_accepted = accepted;
      dependencies_own = own-sound L lists holds_planned;
      plan_unused = unused;
      visited_zero = blank.visited;
      drone_flags_zero = blank.drone_flags;
      flags_fixed = flag_right_lem;
      flags_zero = flag_zero;
    }
