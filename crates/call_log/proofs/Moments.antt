-- The moments of flights, computed; and where a flight takes as many rounds as the legs of the unvisited stops, no other number of rounds is found. Assumes nothing.
use mathlib.Core.Path.{◌≡◌, refl}
use mathlib.Core.Bool.{Bool, true, not, ◌&&◌}
use mathlib.Core.List.{List, [], ◌∷◌, map}
use Prim.Native.Nat.{ℕ, ◌≤◌}
use native.Mathlib.Omega.{arith}
use lib.Dec.{ltb, eqb}
use borrow.Author.Tests.{eqb-true, ltb-true, ltb-false, not-true}
use Rattle.below.specs.Below.{all_in, first_below, all_below, count_below, sum_below, list_below, picks, rows_below, is_in, pair_before}
use Rattle.below.proofs.Tests.{by_cases, true_or_false, and_left, and_right, and_both}
use Rattle.below.proofs.Every.{all_below-at}
use Rattle.tables.specs.Legs.{leg_right, longest_leg}
use Rattle.tables.specs.Tables.{full_size}
use Rattle.tables.specs.Flags.{turned_bit, fixed_flag, under_way_bit, withdrawn_bit, only_two_bits}
use Rattle.lines.specs.Names.{is_name_byte}
use Rattle.precedence.specs.Graph.{Plan, blocks, free, round, play, finished, unvisited, cyclic, legs_left, fills, fly_round, fly, visited_after}
use Rattle.near.specs.Near.{listed_in, near, meets_in, pair_count, pair_sound, pairs_sound}
use Rattle.plan.specs.Field.{plan_of, graph, place_of}
use Rattle.plan.specs.Stops.{start, owner, stop_number}
use Rattle.plan.specs.Check.{fault_at, first_fault, over, collide, collider, apart}
use Rattle.plan.specs.Dependencies.{follows, is_last, is_fixed, flag_of}
use Rattle.plan.specs.Status.{fixed_unturned, within_stops, waits_kept}
use Rattle.sound.specs.Sound.{zero_from, name_length, name_sound, same_name, names_differ, in_range, names_sound, site_sound, lists_sound, zeros, passes_check, plan_accepted_lem, dependencies_sound, plan_unused_lem, flags_sound, drone_flags_sound, progress_unused, sound}
use Rattle.call_log.specs.CallLog.{reply_in, accepted_calls, log_from, status_by, holds_location, short}
use Rattle.call_log.specs.Demand.{Finishes}
use Rattle.call_log.specs.Flights.{says, plan_on, Flight, flight_in, flight_holds}
use Rattle.call_log.specs.Moments.{Moment, WatchedFlight, watched_flights, follow_moments, moments_hold, SlowFlight, rounds_of, slow_plan, slow_log, played_from, takes_all, slow_holds, slow_flights, NoFewer, MomentClaims}
use Rattle.call_log.proofs.Read.{is_read}
use Rattle.call_log.proofs.FollowLog.{follow_by, holds_by, flight_holds_lem}

-- where it takes n rounds, no more than the legs of the unvisited stops are n
only_all : (G : Plan) (leg : ℕ → ℕ → ℕ) (p : ℕ → ℕ) (n : ℕ) → takes_all G leg p n ≡ true → (r : ℕ) → r ≤ legs_left G leg p → finished G (visited_after G leg p r) ≡ true → r ≡ n
unfolding takes_all
only_all G leg p n h r within done =
    let q : legs_left G leg p ≡ n = eqb-true _ _ (and_left _ _ h) in
    let not_yet = and_right (finished G (visited_after G leg p n)) _ (and_right (eqb (legs_left G leg p) n) _ h) in
    by_cases (ltb r n)
    (λ l. true_or_false done (not-true _ (all_below-at n (λ k. not (finished G (visited_after G leg p k))) not_yet r (ltb-true r n l))))
    (λ l. omega (arith, q, within, ltb-false r n l))

only_rounds : (x : SlowFlight) → slow_holds x ≡ true → (found : Finishes (slow_plan x) (slow_log x)) → found.0 ≡ rounds_of x
unfolding slow_holds
only_rounds x h (r, within, done) =
    let G : Plan = graph (slow_plan x) (status_by (slow_log x)) in
    let p : ℕ → ℕ = place_of (slow_plan x) (status_by (slow_log x)) in
    let leg : ℕ → ℕ → ℕ = (slow_plan x).leg in
    only_all G leg p (rounds_of x) (and_right (played_from G leg p 0 x.places) _ (and_right (flight_holds (flight_in x.form x.routes x.count [])) _ h)) r within done

none_fewer : (xs : List SlowFlight) → all_in slow_holds xs ≡ true → NoFewer xs
none_fewer [] h = tt
none_fewer (x ∷ xs) h = (only_rounds x (and_left _ _ h), none_fewer xs (and_right (slow_holds x) _ h))

-- ---- a flight's replies by the log, and what else is said of it

but_for : (f : Flight) (b : Bool) → holds_by f && b ≡ true → flight_holds f && b ≡ true
but_for f b h = and_both (flight_holds f) b (flight_holds_lem f (and_left (holds_by f) b h)) (and_right (holds_by f) b h)

watched_by : WatchedFlight → Bool
watched_by x = holds_by (flight_in x.form x.routes x.count (map (λ (m : Moment). says m.made m.replied) x.moments)) && follow_moments (plan_of (plan_on [] x.form x.routes)) [] x.moments

watched_all : (xs : List WatchedFlight) → all_in watched_by xs ≡ true → all_in moments_hold xs ≡ true
unfolding watched_by moments_hold
watched_all [] h = refl
watched_all (x ∷ xs) h = and_both (moments_hold x) (all_in moments_hold xs)
    (but_for (flight_in x.form x.routes x.count (map (λ (m : Moment). says m.made m.replied) x.moments)) (follow_moments (plan_of (plan_on [] x.form x.routes)) [] x.moments) (and_left (watched_by x) (all_in watched_by xs) h))
    (watched_all xs (and_right (watched_by x) (all_in watched_by xs) h))

slow_by : SlowFlight → Bool
slow_by x =
    let G : Plan = graph (slow_plan x) (status_by (slow_log x)) in
    let p : ℕ → ℕ = place_of (slow_plan x) (status_by (slow_log x)) in
    let leg : ℕ → ℕ → ℕ = (slow_plan x).leg in
    holds_by (flight_in x.form x.routes x.count []) && (played_from G leg p 0 x.places && takes_all G leg p (rounds_of x))

slow_all : (xs : List SlowFlight) → all_in slow_by xs ≡ true → all_in slow_holds xs ≡ true
unfolding slow_by slow_holds
slow_all [] h = refl
slow_all (x ∷ xs) h =
    let G : Plan = graph (slow_plan x) (status_by (slow_log x)) in
    let p : ℕ → ℕ = place_of (slow_plan x) (status_by (slow_log x)) in
    let leg : ℕ → ℕ → ℕ = (slow_plan x).leg in
    and_both (slow_holds x) (all_in slow_holds xs)
    (but_for (flight_in x.form x.routes x.count []) (played_from G leg p 0 x.places && takes_all G leg p (rounds_of x)) (and_left (slow_by x) (all_in slow_by xs) h))
    (slow_all xs (and_right (slow_by x) (all_in slow_by xs) h))

slow_hold : all_in slow_holds slow_flights ≡ true
unfolding slow_by holds_by follow_by is_read takes_all log_from is_in reply_in accepted_calls sound zero_from name_length name_sound same_name names_differ in_range leg_right longest_leg names_sound site_sound lists_sound zeros pairs_sound pair_sound pair_before pair_count meets_in near listed_in passes_check plan_accepted_lem dependencies_sound plan_unused_lem flags_sound drone_flags_sound progress_unused fixed_unturned within_stops waits_kept follows is_last is_fixed flag_of fault_at first_fault over collide collider apart start owner stop_number blocks free round play finished unvisited legs_left fills fly_round fly cyclic is_name_byte turned_bit fixed_flag under_way_bit withdrawn_bit only_two_bits full_size first_below all_below count_below sum_below list_below picks rows_below
slow_hold = slow_all slow_flights refl

pub moment_claims : MomentClaims
unfolding watched_by holds_by follow_by is_read follow_moments holds_location short log_from is_in reply_in accepted_calls sound zero_from name_length name_sound same_name names_differ in_range leg_right longest_leg names_sound site_sound lists_sound zeros pairs_sound pair_sound pair_before pair_count meets_in near listed_in passes_check plan_accepted_lem dependencies_sound plan_unused_lem flags_sound drone_flags_sound progress_unused fixed_unturned within_stops waits_kept follows is_last is_fixed flag_of fault_at first_fault over collide collider apart start owner stop_number blocks free round play finished unvisited legs_left fills fly_round fly cyclic is_name_byte turned_bit fixed_flag under_way_bit withdrawn_bit only_two_bits full_size first_below all_below count_below sum_below list_below picks rows_below
moment_claims = record { moments_hold_lem = watched_all watched_flights refl; slow_hold = slow_hold; no_fewer = none_fewer slow_flights slow_hold }
