-- Demand 3 is false of the wrong programs: at its flight each gives replies whose numbers add up to another sum than the log's. Assumes nothing.
use mathlib.Core.Path.{◌≡◌, refl, ap}
use mathlib.Core.Bool.{Bool, true, not, ◌&&◌}
use mathlib.Core.List.{List, [], ◌∷◌}
use Prim.Native.Nat.{ℕ, suc, ◌+◌}
use lib.Dec.{eqb}
use borrow.Author.Tests.{eqb-false, not-true}
use Rattle.below.specs.Below.{all_in, first_below, all_below, count_below, sum_below, list_below, picks, rows_below, is_in, pair_before}
use Rattle.below.proofs.Tests.{and_left, and_right}
use Rattle.tables.specs.Legs.{leg_right, longest_leg}
use Rattle.tables.specs.Tables.{Tables, full_size}
use Rattle.tables.specs.Flags.{turned_bit, flip_bit, fixed_flag, under_way_bit, withdrawn_bit, only_two_bits, set_under_way, clear_under_way, set_withdrawn}
use Rattle.lines.specs.Names.{is_name_byte}
use Rattle.precedence.specs.Graph.{blocks, free, round, play, finished, unvisited, legs_left, fills, fly_round, fly, reached, remaining, cost, makespan, cyclic}
use Rattle.near.specs.Near.{listed_in, near, meets_in, pair_count, pair_sound, pairs_sound}
use Rattle.plan.specs.Stops.{start, owner, stop_number}
use Rattle.plan.specs.Check.{fault_at, first_fault, over, collide, apart}
use Rattle.plan.specs.Dependencies.{follows, is_last, is_fixed, flag_of}
use Rattle.plan.specs.Field.{plan_of, graph, place_of}
use Rattle.plan.specs.Status.{status_in, fixed_unturned, within_stops, waits_kept}
use Rattle.sound.specs.Sound.{zero_from, name_length, name_sound, same_name, names_differ, in_range, names_sound, site_sound, lists_sound, zeros, passes_check, plan_accepted_lem, dependencies_sound, plan_unused_lem, flags_sound, drone_flags_sound, progress_unused, sound}
use Rattle.call_log.specs.CallLog.{reply_number, Entry, reply_in, accepted_calls, log_from, log_of}
use Rattle.call_log.specs.Calls.{flip_flags, reply_of, grant_step, arrive_step, withdraw_step, turn_step, turn_all_step, recorded, CostOutcome, costs, cost_refused, cost_reply, RoundsOutcome, rounds, rounds_refused, rounds_reply}
use Rattle.call_log.specs.Demand.{Demand3Of}
use Rattle.call_log.specs.Flights.{small, plan_by, tables_by, tables_in}
use Rattle.call_log.specs.Wrong.{WrongProgram, refuse_all, idle, honest_once, sooner, visit_only, no_cycles, never34, grant_untested, wait_untested, refuse_one, refuse_list, one_by_one, any_list, never36, first_left, still_there, never25, nobody_withdrawn, waits_still, lands_it, wrongs, AllFalse, WrongsFalse, CostsExactly, RoundsExactly, WrongCost, WrongRounds, made_up_costs, made_up_rounds, CostsFalse, RoundsFalse, MadeUpFalse}
use Rattle.call_log.proofs.Read.{is_read, as_read}

-- the numbers of all replies, added up
numbers : List Entry → ℕ
numbers [] = 0
numbers (e ∷ es) = reply_number e.reply + numbers es

-- the flight's tables are as a reading leaves them, and the replies are not the log's
fails : WrongProgram → Bool
fails x = is_read small (tables_by x.routes) && not (eqb (numbers (recorded x.program (tables_by x.routes) x.calls)) (numbers (log_of (plan_of (plan_by x.routes)) x.calls)))

false_if : (x : WrongProgram) → fails x ≡ true → Demand3Of small x.program → ⊥
unfolding fails
false_if x h demand =
    eqb-false _ _ (not-true _ (and_right (is_read small (tables_by x.routes)) _ h)) (ap numbers (demand (plan_by x.routes) (tables_by x.routes) x.calls (as_read small (tables_by x.routes) (and_left _ _ h))).replies)

all_false : (xs : List WrongProgram) → all_in fails xs ≡ true → AllFalse xs
all_false [] h = tt
all_false (x ∷ xs) h = (false_if x (and_left _ _ h), all_false xs (and_right (fails x) _ h))

pub wrongs_false : WrongsFalse
unfolding fails numbers refuse_all idle honest_once sooner visit_only no_cycles never34 grant_untested wait_untested refuse_one refuse_list one_by_one any_list never36 first_left still_there never25 nobody_withdrawn waits_still lands_it is_read recorded reply_of flip_flags is_in grant_step arrive_step withdraw_step turn_step turn_all_step log_from reply_in accepted_calls sound zero_from name_length name_sound same_name names_differ in_range leg_right longest_leg names_sound site_sound lists_sound zeros pairs_sound pair_sound pair_before pair_count meets_in near listed_in passes_check plan_accepted_lem dependencies_sound plan_unused_lem flags_sound drone_flags_sound progress_unused fixed_unturned within_stops waits_kept follows is_last is_fixed flag_of fault_at first_fault over collide apart start owner stop_number blocks free round play finished unvisited cyclic is_name_byte turned_bit flip_bit fixed_flag under_way_bit withdrawn_bit only_two_bits set_under_way clear_under_way set_withdrawn full_size first_below all_below count_below sum_below list_below picks rows_below
wrongs_false = all_false wrongs refl

-- ---- made-up costs and rounds: of the tables that the routes' reading leaves the answer is another

-- an outcome as a number, 0 for a refusal
cost_told : CostOutcome → ℕ
cost_told (costs n) = suc n
cost_told (cost_refused n) = 0

rounds_told_lem : RoundsOutcome → ℕ
rounds_told_lem (rounds n) = suc n
rounds_told_lem (rounds_refused n) = 0

is_usable : Tables → Bool
is_usable t = full_size small t && sound small t

cost_fails : WrongCost → Bool
cost_fails x = let t = tables_in x.form x.routes in is_usable t && not (eqb (cost_told (x.answers t)) (suc (cost (graph (plan_of t.plan) (status_in t)) (plan_of t.plan).leg (place_of (plan_of t.plan) (status_in t)))))

rounds_fail : WrongRounds → Bool
rounds_fail x = let t = tables_in x.form x.routes in is_usable t && not (eqb (rounds_told_lem (x.answers t)) (suc (makespan (graph (plan_of t.plan) (status_in t)) (plan_of t.plan).leg (place_of (plan_of t.plan) (status_in t)))))

cost_false : (x : WrongCost) → cost_fails x ≡ true → CostsExactly x.answers → ⊥
unfolding cost_fails is_usable cost_told
cost_false x h exact =
    let t = tables_in x.form x.routes in
    let u : (full_size small t && sound small t) ≡ true = and_left _ _ h in
    eqb-false _ _ (not-true _ (and_right (full_size small t && sound small t) _ h)) (ap cost_told (exact t (and_left _ _ u, and_right (full_size small t) _ u)))

rounds_false : (x : WrongRounds) → rounds_fail x ≡ true → RoundsExactly x.answers → ⊥
unfolding rounds_fail is_usable rounds_told_lem
rounds_false x h exact =
    let t = tables_in x.form x.routes in
    let u : (full_size small t && sound small t) ≡ true = and_left _ _ h in
    eqb-false _ _ (not-true _ (and_right (full_size small t && sound small t) _ h)) (ap rounds_told_lem (exact t (and_left _ _ u, and_right (full_size small t) _ u)))

costs_all : (xs : List WrongCost) → all_in cost_fails xs ≡ true → CostsFalse xs
costs_all [] h = tt
costs_all (x ∷ xs) h = (cost_false x (and_left _ _ h), costs_all xs (and_right (cost_fails x) _ h))

rounds_all : (xs : List WrongRounds) → all_in rounds_fail xs ≡ true → RoundsFalse xs
rounds_all [] h = tt
rounds_all (x ∷ xs) h = (rounds_false x (and_left _ _ h), rounds_all xs (and_right (rounds_fail x) _ h))

cost_exact : CostsExactly (cost_reply small)
unfolding cost_reply
cost_exact t (f, s) = rw (f, s) refl

rounds_exact : RoundsExactly (rounds_reply small)
unfolding rounds_reply
rounds_exact t (f, s) = rw (f, s) refl

pub made_up_false : MadeUpFalse
unfolding cost_fails rounds_fail is_usable cost_told rounds_told_lem sound zero_from name_length name_sound same_name names_differ in_range leg_right longest_leg names_sound site_sound lists_sound zeros pairs_sound pair_sound pair_before pair_count meets_in near listed_in passes_check plan_accepted_lem dependencies_sound plan_unused_lem flags_sound drone_flags_sound progress_unused fixed_unturned within_stops waits_kept follows is_last is_fixed flag_of fault_at first_fault over collide apart start owner stop_number blocks free round play finished unvisited legs_left fills fly_round fly reached remaining cost makespan cyclic is_name_byte turned_bit flip_bit fixed_flag under_way_bit withdrawn_bit only_two_bits full_size first_below all_below count_below sum_below list_below picks rows_below
made_up_false = record { cost_exact = cost_exact; rounds_exact = rounds_exact; costs_false = costs_all made_up_costs refl; rounds_false = rounds_all made_up_rounds refl }
