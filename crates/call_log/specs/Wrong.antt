-- Wrong programs, each with the flight and the calls at which its replies are not the log's: demand 3 is false of them; and made-up costs and rounds, which are not exact.
-- Assumes nothing.
use Rattle.std.specs.Prelude.{◌≡◌, false, cond, List, [], ◌∷◌, ℕ, ◌-◌, set, eqb}
use Rattle.below.specs.Below.{at}
use Rattle.tables.specs.Tables.{Tables}
use Rattle.precedence.specs.Graph.{unvisited, cost, makespan, one_round}
use Rattle.plan.specs.Field.{FieldPlan, Status, plan_of, graph, place_of}
use Rattle.plan.specs.Status.{status_in}
use Rattle.call_log.specs.CallLog.{Call, grant, arrive, withdraw, turn, turn_all, Reply, accepted, refused, must_wait, is_accepted, reply_in}
use Rattle.call_log.specs.Calls.{Answer, changed_if_accepted, granted, flipped, grant_step, arrive_step, withdraw_step, turn_step, turn_all_step, step, CostOutcome, costs, cost_refused, cost_reply, RoundsOutcome, rounds, rounds_refused, rounds_reply}
use Rattle.call_log.specs.Claims.{Usable}
use Rattle.call_log.specs.Demand.{Demand3Of}
use Rattle.call_log.specs.Flights.{Visit, go, small, Q, long_q, P}

-- ---- the programs

-- one fixed reply: refuses every call
unfoldable pub refuse_all : Tables → Call → Answer
refuse_all t c = record { reply = refused 22; tables = t }

-- replies as it should and changes nothing
unfoldable pub idle : Tables → Call → Answer
idle t c = record { reply = (step small t c).reply; tables = t }

-- is honest until drone 0 has moved, and then refuses
unfoldable pub honest_once : Tables → Call → Answer
honest_once t c = cond (eqb (at t.visited 0) 0) (step small t c) (record { reply = refused 22; tables = t })

-- never says 34
unfoldable pub no_cycles : Reply → Reply
no_cycles accepted = accepted
no_cycles (refused n) = cond (eqb n 34) accepted (refused n)
no_cycles (must_wait w) = must_wait w

unfoldable pub never34 : Tables → Call → Answer
never34 t c = record { reply = no_cycles (step small t c).reply; tables = (step small t c).tables }

-- lets any list through 36
unfoldable pub any_list : Reply → Reply
any_list accepted = accepted
any_list (refused n) = cond (eqb n 36) accepted (refused n)
any_list (must_wait w) = must_wait w

unfoldable pub never36 : Tables → Call → Answer
never36 t c = record { reply = any_list (step small t c).reply; tables = (step small t c).tables }

-- never says 25
unfoldable pub still_there : Reply → Reply
still_there accepted = accepted
still_there (refused n) = cond (eqb n 25) accepted (refused n)
still_there (must_wait w) = must_wait w

unfoldable pub never25 : Tables → Call → Answer
never25 t c = record { reply = still_there (step small t c).reply; tables = (step small t c).tables }

-- ---- .. and calls of one kind, where those of the other kinds are as they should be

abbrev pub grants_by : (Tables → ℕ → Answer) → Tables → Call → Answer
grants_by f t (grant d) = f t d
grants_by f t (arrive d) = arrive_step small t d
grants_by f t (withdraw d) = withdraw_step small t d
grants_by f t (turn w) = turn_step small t w
grants_by f t (turn_all ws) = turn_all_step small t ws

abbrev pub arrivals_by : (Tables → ℕ → Answer) → Tables → Call → Answer
arrivals_by f t (grant d) = grant_step small t d
arrivals_by f t (arrive d) = f t d
arrivals_by f t (withdraw d) = withdraw_step small t d
arrivals_by f t (turn w) = turn_step small t w
arrivals_by f t (turn_all ws) = turn_all_step small t ws

abbrev pub withdrawals_by : (Tables → ℕ → Answer) → Tables → Call → Answer
withdrawals_by f t (grant d) = grant_step small t d
withdrawals_by f t (arrive d) = arrive_step small t d
withdrawals_by f t (withdraw d) = f t d
withdrawals_by f t (turn w) = turn_step small t w
withdrawals_by f t (turn_all ws) = turn_all_step small t ws

abbrev pub turns_by : (Tables → ℕ → Answer) → Tables → Call → Answer
turns_by f t (grant d) = grant_step small t d
turns_by f t (arrive d) = arrive_step small t d
turns_by f t (withdraw d) = withdraw_step small t d
turns_by f t (turn w) = f t w
turns_by f t (turn_all ws) = turn_all_step small t ws

abbrev pub lists_by : (Tables → List ℕ → Answer) → Tables → Call → Answer
lists_by f t (grant d) = grant_step small t d
lists_by f t (arrive d) = arrive_step small t d
lists_by f t (withdraw d) = withdraw_step small t d
lists_by f t (turn w) = turn_step small t w
lists_by f t (turn_all ws) = f t ws

-- waits for the leader's visit and not for its departure
unfoldable pub sooner : FieldPlan → FieldPlan
sooner F = record {
  drones = F.drones;
  last = F.last;
  location = F.location;
  time = F.time;
  leg = F.leg;
  meets = F.meets;
  count = F.count;
  dependency = λ w. let x = F.dependency w in record { first = x.first; first_stop = x.first_stop - 1; second = x.second; second_stop = x.second_stop };
}

unfoldable pub visit_only : Tables → ℕ → Answer
visit_only t d = changed_if_accepted t (reply_in (sooner (plan_of t.plan)) (status_in t) (grant d)) (granted t d)

-- waits for withdrawn drones
unfoldable pub nobody_withdrawn : Status → Status
nobody_withdrawn s = record { place = s.place; under_way = s.under_way; withdrawn = λ d. false; turned = s.turned }

unfoldable pub waits_still : Tables → ℕ → Answer
waits_still t d = changed_if_accepted t (reply_in (plan_of t.plan) (nobody_withdrawn (status_in t)) (grant d)) (granted t d)

-- takes a withdrawn drone to its last stop and leaves no mark
unfoldable pub lands_it : Tables → ℕ → Answer
lands_it t d = changed_if_accepted t (withdraw_step small t d).reply (record { plan = t.plan; visited = set t.visited d ((plan_of t.plan).last d); drone_flags = t.drone_flags; flags = t.flags })

-- grants without a test
unfoldable pub grant_untested : Tables → ℕ → Answer
grant_untested t d = changed_if_accepted t accepted (granted t d)

-- says 23 without a test
unfoldable pub wait_untested : Tables → ℕ → Answer
wait_untested t d = changed_if_accepted t (must_wait 0) t

-- refuses every call of its kind with one number
unfoldable pub refuse_one : ℕ → Tables → ℕ → Answer
refuse_one n t d = changed_if_accepted t (refused n) t

unfoldable pub refuse_list : ℕ → Tables → List ℕ → Answer
refuse_list n t ws = changed_if_accepted t (refused n) t

-- turns the dependencies of a list one after the other, each tested by itself
unfoldable pub one_by_one : Tables → List ℕ → Answer
one_by_one t [] = changed_if_accepted t (refused 36) t
one_by_one t (w ∷ []) = turn_step small t w
one_by_one t (w ∷ v ∷ ws) = cond (is_accepted (turn_step small t w).reply) (one_by_one (turn_step small t w).tables (v ∷ ws)) (turn_step small t w)

-- leaves the first of a refused list turned
unfoldable pub first_left : Tables → List ℕ → Answer
first_left t [] = turn_all_step small t []
first_left t (w ∷ ws) = let a = turn_all_step small t (w ∷ ws) in record { reply = a.reply; tables = cond (is_accepted a.reply) a.tables (flipped t w) }

-- ---- the flights that refute them

pub record WrongProgram : Type 0 where
  pub program : Tables → Call → Answer
  pub routes : List (List Visit)
  pub calls : List Call

abbrev pub wrong : (Tables → Call → Answer) → List (List Visit) → List Call → WrongProgram
wrong p rs cs = record { program = p; routes = rs; calls = cs }

abbrev pub wrongs : List WrongProgram
wrongs =
    -- "A grant, arrive or turn that refuses all, one fixed reply, and a call that changes nothing"
    wrong refuse_all (Q 4) (grant 0 ∷ [])
    ∷ wrong (grants_by (refuse_one 22)) (Q 4) (grant 0 ∷ [])
    ∷ wrong (arrivals_by (refuse_one 24)) (Q 4) (grant 0 ∷ arrive 0 ∷ [])
    ∷ wrong (turns_by (refuse_one 31)) (Q 4) (turn 0 ∷ [])
    ∷ wrong (lists_by (refuse_list 36)) P (turn_all (0 ∷ 1 ∷ []) ∷ [])
    ∷ wrong (grants_by (λ t d. idle t (grant d))) (Q 4) (grant 0 ∷ grant 0 ∷ [])
    ∷ wrong (arrivals_by (λ t d. idle t (arrive d))) (Q 4) (grant 0 ∷ arrive 0 ∷ arrive 0 ∷ [])
    ∷ wrong (turns_by (λ t w. idle t (turn w))) (Q 4) (turn 0 ∷ grant 1 ∷ [])
    -- "So do 23 or 34 said untested"
    ∷ wrong (grants_by wait_untested) (Q 4) (grant 0 ∷ [])
    ∷ wrong (grants_by grant_untested) (Q 4) (grant 1 ∷ [])
    ∷ wrong (turns_by (refuse_one 34)) (Q 4) (turn 0 ∷ [])
    ∷ wrong (lists_by (refuse_list 34)) P (turn_all (0 ∷ 1 ∷ []) ∷ [])
    ∷ wrong never34 P (turn 0 ∷ [])
    -- "Grants honest once and sham later"
    ∷ wrong honest_once (Q 4) (grant 0 ∷ arrive 0 ∷ grant 0 ∷ [])
    -- "Waiting for the leader's visit and not for its departure"
    ∷ wrong (grants_by visit_only) (Q 4) (grant 0 ∷ arrive 0 ∷ grant 0 ∷ arrive 0 ∷ grant 1 ∷ [])
    -- withdrawals: refused, without a mark, never told, drones that wait for nobody, a drone that has landed
    ∷ wrong (withdrawals_by (refuse_one 25)) (Q 4) (withdraw 0 ∷ [])
    ∷ wrong (withdrawals_by (λ t d. idle t (withdraw d))) (Q 4) (withdraw 0 ∷ grant 1 ∷ [])
    ∷ wrong never25 (Q 4) (withdraw 0 ∷ grant 0 ∷ [])
    ∷ wrong (grants_by waits_still) (Q 4) (withdraw 0 ∷ grant 1 ∷ [])
    ∷ wrong (withdrawals_by lands_it) (Q 4) (withdraw 0 ∷ grant 0 ∷ [])
    -- lists: one after the other, any list at all, a part of a refused one
    ∷ wrong (lists_by one_by_one) P (turn_all (0 ∷ 1 ∷ []) ∷ [])
    ∷ wrong never36 P (turn_all (1 ∷ 0 ∷ []) ∷ [])
    ∷ wrong (lists_by first_left) P (turn_all (0 ∷ 7 ∷ []) ∷ grant 0 ∷ [])
    ∷ []

-- the claim
abbrev pub AllFalse : List WrongProgram → Type 0
AllFalse [] = Unit {0}
AllFalse (x ∷ xs) = (Demand3Of small x.program → ⊥) × AllFalse xs

abbrev pub WrongsFalse : Type 0
WrongsFalse = AllFalse wrongs

-- ---- "made-up costs or rounds"

-- the exact conditions of what answers a cost, and of what answers rounds, on usable tables: the sum of the drones' remaining rounds, and the undelayed rounds until everybody has landed
abbrev pub CostsExactly : (Tables → CostOutcome) → Type 0
CostsExactly f = (t : Tables) → Usable small t → f t ≡ costs (cost (graph (plan_of t.plan) (status_in t)) (plan_of t.plan).leg (place_of (plan_of t.plan) (status_in t)))

abbrev pub RoundsExactly : (Tables → RoundsOutcome) → Type 0
RoundsExactly f = (t : Tables) → Usable small t → f t ≡ rounds (makespan (graph (plan_of t.plan) (status_in t)) (plan_of t.plan).leg (place_of (plan_of t.plan) (status_in t)))

-- the unvisited stops, as if nobody waited for anybody
abbrev pub stops_left : Tables → ℕ
stops_left t = unvisited (graph (plan_of t.plan) (status_in t)) (place_of (plan_of t.plan) (status_in t))

-- the cost and the rounds as if every leg took one round
abbrev pub cost_of_hops : Tables → ℕ
cost_of_hops t = cost (graph (plan_of t.plan) (status_in t)) one_round (place_of (plan_of t.plan) (status_in t))

abbrev pub rounds_of_hops : Tables → ℕ
rounds_of_hops t = makespan (graph (plan_of t.plan) (status_in t)) one_round (place_of (plan_of t.plan) (status_in t))

-- with the form and the routes of a plan whose tables, as they are read, get another answer
pub record WrongCost : Type 0 where
  pub answers : Tables → CostOutcome
  pub form : ℕ
  pub routes : List (List Visit)

pub record WrongRounds : Type 0 where
  pub answers : Tables → RoundsOutcome
  pub form : ℕ
  pub routes : List (List Visit)

abbrev pub made_up_costs : List WrongCost
made_up_costs =
    record { answers = λ t. cost_refused 40; form = 1; routes = Q 4 }
    ∷ record { answers = λ t. costs 0; form = 1; routes = Q 4 }
    ∷ record { answers = λ t. costs 8; form = 1; routes = (go 1 0 ∷ go 2 1 ∷ []) ∷ [] }
    ∷ record { answers = λ t. costs (stops_left t); form = 1; routes = Q 4 }
    -- "One long leg counts like a short hop, so the cost misleads"
    ∷ record { answers = λ t. costs (cost_of_hops t); form = 2; routes = long_q }
    ∷ []

abbrev pub made_up_rounds : List WrongRounds
made_up_rounds =
    record { answers = λ t. rounds_refused 40; form = 1; routes = Q 4 }
    ∷ record { answers = λ t. rounds 5; form = 1; routes = (go 1 0 ∷ go 2 1 ∷ []) ∷ [] }
    ∷ record { answers = λ t. rounds (stops_left t); form = 1; routes = P }
    ∷ record { answers = λ t. rounds (rounds_of_hops t); form = 2; routes = long_q }
    ∷ []

abbrev pub CostsFalse : List WrongCost → Type 0
CostsFalse [] = Unit {0}
CostsFalse (x ∷ xs) = (CostsExactly x.answers → ⊥) × CostsFalse xs

abbrev pub RoundsFalse : List WrongRounds → Type 0
RoundsFalse [] = Unit {0}
RoundsFalse (x ∷ xs) = (RoundsExactly x.answers → ⊥) × RoundsFalse xs

-- the call's own answers are exact, and none of these are
pub record MadeUpFalse : Type 0 where
  pub cost_exact : CostsExactly (cost_reply small)
  pub rounds_exact : RoundsExactly (rounds_reply small)
  pub costs_false : CostsFalse made_up_costs
  pub rounds_false : RoundsFalse made_up_rounds
