-- What is claimed of presses, gathered. Assumes nothing.
use mathlib.Core.Path.{◌≡◌, refl, sym, ap, ◌∙◌}
use mathlib.Core.Logic.{◌↔◌}
use mathlib.Core.Bool.{Bool, true, false, cond, not, ◌&&◌, ◌||◌, and-false, or-true, or-false}
use Prim.Native.Nat.{ℕ, ◌^◌, ◌/◌, ◌%◌, ◌<◌}
use native.Mathlib.Omega.{arith}
use lib.Dec.{eqb, ltb}
use borrow.Author.Tests.{ltb-true, lt-ltb, not-true}
use Rattle.below.specs.Below.{at, pick, first_below}
use Rattle.below.proofs.Tests.{by_cases, true_or_false, and_left, and_right, and_both}
use Rattle.below.proofs.Index.{at_set}
use Rattle.tables.specs.Limits.{Limits}
use Rattle.tables.specs.Tables.{Tables, drones, full_size}
use Rattle.tables.specs.Flags.{under_way_bit, set_under_way, clear_under_way}
use Rattle.tables.proofs.FlagLaws.{set_under_way_lem, clear_under_way_lem}
use Rattle.precedence.specs.Graph.{Cycle, free, finished}
use Rattle.precedence.proofs.Rounds.{finished-at, somebody_free}
use Rattle.precedence.proofs.Visits.{acyclic_iff}
use Rattle.plan.specs.Field.{FieldPlan, plan_of, graph, place_of, Status}
use Rattle.plan.specs.Status.{status_in}
use Rattle.plan.proofs.Turns.{graph-formed}
use Rattle.sound.specs.Sound.{sound}
use Rattle.call_log.specs.CallLog.{grant, arrive, Reply, is_accepted, reply_number, short, flying}
use Rattle.call_log.specs.Calls.{arrived, reply_of, arrive_step}
use Rattle.call_log.specs.Claims.{Usable, MayGo, MayArrive}
use Rattle.call_log.proofs.Checks.{is_accepted_lem, grant-accepted, grant_passed, place_counts, free-flies, free-goes}
use Rattle.call_log.proofs.Exactly.{unfixed_says, arrived_exactly}
use Rattle.call_log.proofs.Steps.{reply, step_41, step_40}
use Rattle.handset.specs.Press.{PressOutcome, granted, press_refused, after_grants, reply_at, bits_below, grant_all_step, after_arrival, press_step}
use Rattle.handset.specs.Claims.{is_report_of, at_grants, RefusedInOrder, RefusedLeaves, AcceptedMeans, PressClaims}
use Rattle.std.specs.Prelude.{Option, Some, None}
use Rattle.handset.proofs.Bits.{bits_low, bit_of}
use Rattle.handset.proofs.UsableParts.{parts, plan_accepted, drones-within, flags_room}
use Rattle.call_log.proofs.SoundKept.{stays_usable}
use Rattle.handset.proofs.Grants.{goes, Asked, asked_reply, asked_below, newly_is}
use Rattle.handset.proofs.Presses.{leaves_41, leaves_40, grants_unchanged, press_is_calls, demand3_of_presses, demand3_of_presses_on}
use Rattle.handset.proofs.Orders.{order_free, any_order}

-- ---- replies

is_granted : PressOutcome → Bool
is_granted (granted b) = true
is_granted (press_refused n) = false

bits_in : PressOutcome → ℕ
bits_in (granted b) = b
bits_in (press_refused n) = 0

-- a refusal is no acceptance
differs {ℓ} : {A : Type ℓ} {n b : ℕ} → press_refused n ≡ granted b → A
unfolding is_granted
differs {b = b} e = true_or_false {b = is_granted (granted b)} refl (sym (ap is_granted e))

same_bits : {a b : ℕ} → granted a ≡ granted b → b ≡ a
unfolding bits_in
same_bits e = sym (ap bits_in e)

-- ---- the grants of a press

module _ (L : Limits) (t : Tables) where
  grants_accepted : (b : ℕ) → (grant_all_step L t).reply ≡ granted b → Usable L t × (b ≡ bits_below L t L.drones)
  unfolding grant_all_step
  grants_accepted b e = go (full_size L t) (sound L t) refl refl e
    where
      go : (f s : Bool) → full_size L t ≡ f → sound L t ≡ s → cond f (cond s (granted (bits_below L t L.drones)) (press_refused 40)) (press_refused 41) ≡ granted b → Usable L t × (b ≡ bits_below L t L.drones)
      go true true f s e = ((f, s), same_bits e)
      go true false f s e = differs e
      go false s f s' e = differs e

  grants_usable : Usable L t → (grant_all_step L t).reply ≡ granted (bits_below L t L.drones)
  unfolding grant_all_step
  grants_usable u = rw (u.0, u.1) refl

  grants_refused : (n : ℕ) → (grant_all_step L t).reply ≡ press_refused n → (grant_all_step L t).tables ≡ t
  unfolding grant_all_step
  grants_refused n e = by_cases (full_size L t)
      (λ f. by_cases (sound L t)
      (λ s. differs (sym (rw (f, s) at e)))
      (λ s. grants_unchanged L t (leaves_40 L t f s) L.drones))
      (λ f. grants_unchanged L t (leaves_41 L t f) L.drones)

  module _ (u : Usable L t) where
    asked : Asked L t u (λ d. ltb d L.drones) (after_grants L t L.drones)
    asked = asked_below L t u L.drones

    -- a drone that may go is one of the plan's, so it was asked
    goes_passed : (d : ℕ) → goes L t u d ≡ true → MayGo (plan_of t.plan) (status_in t) d
    goes_passed d e = grant_passed (plan_of t.plan) (status_in t) d (sym (ap (λ (r : Reply). is_accepted r) (reply L t u.0 u.1 (grant d))) ∙ e)

    goes_in : (d : ℕ) → goes L t u d ≡ true → d < L.drones
    goes_in d e = omega (arith, (goes_passed d e).waiting.exists, drones-within L t u)

    asked_goes : (d : ℕ) → ltb d L.drones && goes L t u d ≡ goes L t u d
    asked_goes d = by_cases (goes L t u d) (λ e. rw (e, lt-ltb d L.drones (goes_in d e)) refl) (λ e. rw e (and-false (ltb d L.drones)))

    bit_goes : (d : ℕ) → eqb (bits_below L t L.drones / 2 ^ d % 2) 1 ≡ goes L t u d
    unfolding bits_below
    bit_goes d = bit_of (λ d. is_accepted (reply_at L t d)) L.drones d ∙ ap (λ (b : Bool). ltb d L.drones && b) (newly_is L t u d) ∙ asked_goes d

    newly : (d : ℕ) → eqb (bits_below L t L.drones / 2 ^ d % 2) 1 ≡ not (under_way_bit (at t.drone_flags d)) && under_way_bit (at (after_grants L t L.drones).drone_flags d)
    newly d = bit_goes d ∙ rw (asked.bytes_are d, asked_goes d) (go (goes L t u d) refl)
      where
        not_and : (b : Bool) → false ≡ not b && b
        not_and true = refl
        not_and false = refl

        go : (g : Bool) → goes L t u d ≡ g → g ≡ not (under_way_bit (at t.drone_flags d)) && under_way_bit (pick g (set_under_way (at t.drone_flags d)) (at t.drone_flags d))
        go true e = rw ((goes_passed d e).waiting.idle, set_under_way_lem (at t.drone_flags d)) refl
        go false e = not_and (under_way_bit (at t.drone_flags d))

    may_go : (d : ℕ) → (eqb (bits_below L t L.drones / 2 ^ d % 2) 1 ≡ true) ↔ MayGo (plan_of t.plan) (status_in t) d
    may_go d = (
      λ e. goes_passed d (sym (bit_goes d) ∙ e),
      λ m. bit_goes d ∙ ap (λ (r : Reply). is_accepted r) (reply L t u.0 u.1 (grant d) ∙ (grant-accepted (plan_of t.plan) (status_in t) d).1 m),
    )

-- ---- somebody is under way: a drone that is free was asked, and would not be granted once more

module _ (L : Limits) (t : Tables) (u : Usable L t) where
  abbrev F : FieldPlan
  F = plan_of t.plan

  abbrev S : Status
  S = status_in t

  no_cycle : Cycle (graph F S) → ⊥
  no_cycle = (acyclic_iff (graph F S) (graph-formed F (plan_accepted L t u) S (unfixed_says F S (parts L t u).fixed_unturned_lem))).0 (parts L t u).no_cycle

  -- nobody may go, and a drone is short
  somebody : ((e : ℕ) → e < F.drones → is_accepted (reply_of L t (grant e)) ≡ false) → (d : ℕ) → d < F.drones → short F S d ≡ true → (e : ℕ) × (e < F.drones) × (flying F S e ≡ true)
  unfolding short flying
  somebody none d l s = (
    free_one,
    is_free.0,
    by_cases (S.under_way free_one) (λ e. and_both _ _ (ap not (free-flies F S free_one is_free.1)) e) (λ e. true_or_false
        (ap (λ (r : Reply). is_accepted r) (reply L t u.0 u.1 (grant free_one) ∙ (grant-accepted F S free_one).1 (free-goes F S free_one is_free.0 is_free.1 e)))
        (none free_one is_free.0)),
  )
    where
      free_one : ℕ
      free_one = first_below F.drones (free (graph F S) (place_of F S))

      unfinished : finished (graph F S) (place_of F S) ≡ false
      unfinished = by_cases (finished (graph F S) (place_of F S))
          (λ e. absurd (omega (arith, finished-at (graph F S) (place_of F S) e d l, place_counts F S d (not-true _ (and_left _ _ s)), ltb-true (S.place d) (F.last d) (and_right (not (S.withdrawn d)) _ s))))
          (λ e. e)

      is_free : (free_one < F.drones) × (free (graph F S) (place_of F S) free_one ≡ true)
      is_free = somebody_free (graph F S) (graph-formed F (plan_accepted L t u) S (unfixed_says F S (parts L t u).fixed_unturned_lem)) (place_of F S) no_cycle unfinished

none_left_lem : (L : Limits) (t : Tables) (u : Usable L t) (e : ℕ) → e < drones (after_grants L t L.drones).plan → is_accepted (reply_of L (after_grants L t L.drones) (grant e)) ≡ false
none_left_lem L t u e l =
    asked_reply L t u (λ d. ltb d L.drones) (after_grants L t L.drones) (asked L t u) e
    ∙ rw (lt-ltb e L.drones (omega (arith, drones-within L (after_grants L t L.drones) (asked L t u).usable))) (and-false (goes L t u e))

-- ---- the press

module _ (L : Limits) (t : Tables) where
  arrival_passed : (d : ℕ) → is_accepted (arrive_step L t d).reply ≡ true → Usable L t × MayArrive (plan_of t.plan) (status_in t) d
  arrival_passed d e = (arrived_exactly L t d).0 (is_accepted_lem _ e)

  -- an accepted press made its grants as defined, on the tables that the arrival left
  accepted-at : (report : Option ℕ) (b : ℕ) → (press_step L t report).reply ≡ granted b → ((grant_all_step L (at_grants L t report)).reply ≡ granted b) × ((press_step L t report).tables ≡ (grant_all_step L (at_grants L t report)).tables)
  unfolding press_step after_arrival
  accepted-at None b e = (e, refl)
  accepted-at (Some d) b e = by_cases (is_accepted (arrive_step L t d).reply)
      (λ a. (rw a at e, rw a refl))
      (λ a. differs (rw a at e))

  -- when the grants begin, the drone that arrived is no longer under way
  idle-at : (report : Option ℕ) (b : ℕ) → (press_step L t report).reply ≡ granted b → (d : ℕ) → not ((status_in (at_grants L t report)).under_way d) ≡ not ((status_in t).under_way d) || is_report_of report d
  unfolding press_step after_arrival arrive_step
  idle-at None b e d = sym (or-false (not ((status_in t).under_way d)))
  idle-at (Some a) b e d = by_cases (is_accepted (reply_of L t (arrive a))) arrives (λ n. differs (rw n at e))
    where
      arrives : is_accepted (reply_of L t (arrive a)) ≡ true → not (under_way_bit (at (cond (is_accepted (reply_of L t (arrive a))) (arrived t a) t).drone_flags d)) ≡ not ((status_in t).under_way d) || eqb d a
      arrives y =
          let (u, m) = arrival_passed a y in
          rw (y, at_set t.drone_flags a (clear_under_way (at t.drone_flags a)) (omega (arith, m.exists, drones-within L t u, flags_room L t u)) d) (by_cases (eqb d a)
          (λ q. rw (q, clear_under_way_lem (at t.drone_flags a)) (sym (or-true (not (under_way_bit (at t.drone_flags d))))))
          (λ q. rw q (sym (or-false (not (under_way_bit (at t.drone_flags d)))))))

  pub accepted_means : (report : Option ℕ) → AcceptedMeans L t report
  unfolding grant_all_step bits_below
  accepted_means report b e =
      let (r, left) = accepted-at report b e in
      let (u, bits) = grants_accepted L (at_grants L t report) b r in
      let a = asked L (at_grants L t report) u in
      record {
        fits = rw bits (bits_low (λ d. is_accepted (reply_at L (at_grants L t report) d)) L.drones);
        newly = λ d. rw (sym (idle-at report b e d), bits, left) (newly L (at_grants L t report) u d);
        may_go = λ d. rw bits (may_go L (at_grants L t report) u d);
        somebody_under_way = rw left (somebody L (after_grants L (at_grants L t report) L.drones) a.usable (none_left_lem L (at_grants L t report) u));
        stays_usable = rw left a.usable;
      }

  same_arrival : (d : ℕ) → is_accepted (arrive_step L t d).reply ≡ false → (arrive_step L t d).tables ≡ t
  unfolding arrive_step
  same_arrival d e = rw e refl

  pub refused_leaves : (report : Option ℕ) → RefusedLeaves L t report
  unfolding press_step after_arrival
  refused_leaves None n e = grants_refused L t n e
  refused_leaves (Some d) n e = by_cases (is_accepted (arrive_step L t d).reply)
      (λ a. differs (sym (rw a at e) ∙ grants_usable L (arrive_step L t d).tables (stays_usable L t (arrival_passed d a).0 (arrive d))))
      (λ a. rw a (same_arrival d a))

  first_41 : full_size L t ≡ false → (report : Option ℕ) → (press_step L t report).reply ≡ press_refused 41
  unfolding press_step after_arrival grant_all_step
  first_41 f None = rw f refl
  first_41 f (Some d) = rw (step_41 L t f (arrive d)) refl

  then_40 : full_size L t ≡ true → sound L t ≡ false → (report : Option ℕ) → (press_step L t report).reply ≡ press_refused 40
  unfolding press_step after_arrival grant_all_step
  then_40 f s None = rw (f, s) refl
  then_40 f s (Some d) = rw (step_40 L t f s (arrive d)) refl

  then_own : (report : Option ℕ) (d : ℕ) → report ≡ Some d → is_accepted (arrive_step L t d).reply ≡ false → (press_step L t report).reply ≡ press_refused (reply_number (arrive_step L t d).reply)
  unfolding press_step after_arrival
  then_own report d e a = rw (e, a) refl

  else_none : (report : Option ℕ) → Usable L t → ((d : ℕ) → report ≡ Some d → is_accepted (arrive_step L t d).reply ≡ true) → (bits : ℕ) × ((press_step L t report).reply ≡ granted bits)
  unfolding press_step after_arrival
  else_none None u a = (bits_below L t L.drones, grants_usable L t u)
  else_none (Some d) u a = (bits_below L (arrive_step L t d).tables L.drones, rw (a d refl) (grants_usable L (arrive_step L t d).tables (stays_usable L t u (arrive d))))

  pub refused_in_order : (report : Option ℕ) → RefusedInOrder L t report
  refused_in_order report = record { first_41 = λ f. first_41 f report; then_40 = λ f s. then_40 f s report; then_own = then_own report; else_none = else_none report }

pub press_claims : PressClaims
press_claims = record {
  press_is_calls = press_is_calls;
  demand3_of_presses = demand3_of_presses;
  demand3_of_presses_on = demand3_of_presses_on;
  order_free = order_free;
  any_order = any_order;
  refused_in_order = refused_in_order;
  refused_leaves = refused_leaves;
  accepted_means = accepted_means;
}
