-- The calls, their refusals in one table, and the call log (document 01, "The call log" and "Where each refusal is checked"). Assumes nothing.
use Rattle.std.specs.Prelude.{Bool, true, false, not, cond, ◌&&◌, ◌||◌, List, [], ◌∷◌, ◌++◌, ℕ, suc, ◌%◌, ltb, leb, eqb}
use Rattle.below.specs.Below.{pick, is_in}
use Rattle.precedence.specs.Graph.{cyclic}
use Rattle.plan.specs.Field.{FieldPlan, of_withdrawn, graph, fixed, Status, after_turns}
use Rattle.plan.specs.Status.{entered, unmet, dependency_now}

-- a call and what it names: a drone for grant, arrive and withdraw, a dependency for turn, a list of dependencies for a turn of them all at once
pub data Call : Type 0 where
  grant : ℕ → Call
  arrive : ℕ → Call
  withdraw : ℕ → Call
  turn : ℕ → Call
  turn_all : List ℕ → Call

-- a reply: accepted, a refusal by its number, or 23 with the lowest dependency unmet
pub data Reply : Type 0 where
  accepted : Reply
  refused : ℕ → Reply
  must_wait : ℕ → Reply

-- the document's number of a reply
abbrev pub reply_number : Reply → ℕ
reply_number accepted = 0
reply_number (refused n) = n
reply_number (must_wait w) = 23

-- the dependency that goes with 23
abbrev pub awaited : Reply → ℕ
awaited accepted = 0
awaited (refused n) = 0
awaited (must_wait w) = w

-- the reply that a number and what goes with it mean
unfoldable pub reply_from : ℕ → ℕ → Reply
reply_from n w = cond (eqb n 0) accepted (cond (eqb n 23) (must_wait w) (refused n))

-- every other reply is a refusal
abbrev pub is_accepted : Reply → Bool
is_accepted accepted = true
is_accepted (refused n) = false
is_accepted (must_wait w) = false

-- ---- the table of refusals, by where the drones are and what is turned

-- one refusal of a call: its condition, and what the call replies when it holds
pub record Check : Type 0 where
  pub holds : Bool
  pub reply : Reply

abbrev pub when : Bool → Reply → Check
when b r = record { holds = b; reply = r }

-- "A call gets the first of its refusals in the table below that holds ..; if none holds, it is accepted"
abbrev pub first_that_holds : List Check → Reply
first_that_holds [] = accepted
first_that_holds (c ∷ cs) = elim c.holds [ true ↦ c.reply | false ↦ first_that_holds cs ]

-- each number of the list is above the one before it, the first one above v
abbrev pub rises_from : ℕ → List ℕ → Bool
rises_from v [] = true
rises_from v (w ∷ ws) = ltb v w && rises_from w ws

-- a list that passes 36: it is not empty and strictly rises
abbrev pub is_group : List ℕ → Bool
is_group [] = false
is_group (w ∷ ws) = rises_from w ws

module _ (F : FieldPlan) (s : Status) where
  open F use {drones, last, location, count}
  open s use {place, under_way, withdrawn, turned}

  -- "as the list is walked": 30, "35, a drone of the dependency is withdrawn, for turns, after 30", 31 and 32 of each dependency of the list, and the rows after them
  abbrev pub walked_rows : List ℕ → List Check → List Check
  walked_rows [] after = after
  walked_rows (w ∷ ws) after =
      when (leb count w) (refused 30)
      ∷ when (of_withdrawn F s w) (refused 35)
      ∷ when (fixed F w) (refused 31)
      ∷ when (entered F s (dependency_now F s w).first (dependency_now F s w).first_stop) (refused 32)
      ∷ walked_rows ws after

  -- "then 30 to 34 as the list is walked, with 34 last of all": the graph has all of the list turned
  abbrev pub turn_rows : List ℕ → List Check
  turn_rows ws = walked_rows ws (when (cyclic (graph F (after_turns s ws))) (refused 34) ∷ [])

  -- the rows of "Where each refusal is checked" for grant, arrive, withdraw and turn, without 41 and 40; "25, the drone is withdrawn, for grant, arrive and withdraw,
  -- after 20"
  abbrev pub refusals : Call → List Check
  refusals (grant d) =
      when (leb drones d) (refused 20)
      ∷ when (withdrawn d) (refused 25)
      ∷ when (leb (last d) (place d)) (refused 21)
      ∷ when (under_way d) (refused 22)
      ∷ when (ltb (unmet F s d) count) (must_wait (unmet F s d))
      ∷ []
  refusals (arrive d) =
      when (leb drones d) (refused 20)
      ∷ when (withdrawn d) (refused 25)
      ∷ when (not (under_way d)) (refused 24)
      ∷ []
  refusals (withdraw d) =
      when (leb drones d) (refused 20)
      ∷ when (withdrawn d) (refused 25)
      ∷ []
  refusals (turn w) = turn_rows (w ∷ [])
  refusals (turn_all ws) = when (not (is_group ws)) (refused 36) ∷ turn_rows ws

  -- the reply of a call, by the first refusal that holds
  unfoldable pub reply_in : Call → Reply
  reply_in c = first_that_holds (refusals c)

  -- "It holds the location of its place and, when under way, that of its next stop"; a withdrawn drone "then holds nothing"
  unfoldable pub holds_location : ℕ → ℕ → Bool
  holds_location d l = not (withdrawn d) && (eqb l (location d (place d)) || under_way d && eqb l (location d (suc (place d))))

  -- "It is short of its last stop when it has an unvisited one"; unfinished drones are counted "among those not withdrawn"
  unfoldable pub short : ℕ → Bool
  short d = not (withdrawn d) && ltb (place d) (last d)

  -- "drones under way" are counted "among those not withdrawn"
  unfoldable pub flying : ℕ → Bool
  flying d = not (withdrawn d) && under_way d

-- ---- the log

-- "each call, the number it named, and its reply"; "the log keeps such a call's list"
pub record Entry : Type 0 where
  pub call : Call
  pub reply : Reply

abbrev pub entry_of : Call → Reply → Entry
entry_of c r = record { call = c; reply = r }

-- a grant of drone d; an arrival of drone d; a withdrawal of drone d; a turn that names dependency w, where "an accepted one names each dependency in it"
abbrev pub is_grant : ℕ → Call → Bool
is_grant d (grant e) = eqb d e
is_grant d (arrive e) = false
is_grant d (withdraw e) = false
is_grant d (turn w) = false
is_grant d (turn_all ws) = false

abbrev pub is_arrival : ℕ → Call → Bool
is_arrival d (grant e) = false
is_arrival d (arrive e) = eqb d e
is_arrival d (withdraw e) = false
is_arrival d (turn w) = false
is_arrival d (turn_all ws) = false

abbrev pub is_withdrawal : ℕ → Call → Bool
is_withdrawal d (grant e) = false
is_withdrawal d (arrive e) = false
is_withdrawal d (withdraw e) = eqb d e
is_withdrawal d (turn w) = false
is_withdrawal d (turn_all ws) = false

abbrev pub is_turn : ℕ → Call → Bool
is_turn w (grant d) = false
is_turn w (arrive d) = false
is_turn w (withdraw d) = false
is_turn w (turn v) = eqb w v
is_turn w (turn_all ws) = is_in w ws

-- how many accepted calls of the log pass the test
unfoldable pub accepted_calls : (Call → Bool) → List Entry → ℕ
accepted_calls f [] = 0
accepted_calls f (e ∷ es) = pick (is_accepted e.reply && f e.call) (suc (accepted_calls f es)) (accepted_calls f es)

abbrev pub is_odd : ℕ → Bool
is_odd n = eqb (n % 2) 1

-- "With n arrivals of a drone accepted .. its place is stop n"; "It is under way when more grants than arrivals of it were accepted";
-- "in the log a drone is withdrawn once a withdrawal of it was accepted"; "A dependency is turned when an odd number of accepted turns named it"
abbrev pub status_by : List Entry → Status
status_by log = record {
  place = λ d. accepted_calls (is_arrival d) log;
  under_way = λ d. ltb (accepted_calls (is_arrival d) log) (accepted_calls (is_grant d) log);
  withdrawn = λ d. ltb 0 (accepted_calls (is_withdrawal d) log);
  turned = λ w. is_odd (accepted_calls (is_turn w) log);
}

module _ (F : FieldPlan) where
  -- "the first of its refusals in the table below that holds by the log before it (40 and 41 never do)"
  abbrev pub reply_by : List Entry → Call → Reply
  reply_by log c = reply_in F (status_by log) c

  -- the log goes on with calls
  unfoldable pub log_from : List Entry → List Call → List Entry
  log_from log [] = log
  log_from log (c ∷ cs) = log_from (log ++ (entry_of c (reply_by log c) ∷ [])) cs

  -- "It is empty after the reading and is fed with the calls alone"
  abbrev pub log_of : List Call → List Entry
  log_of cs = log_from [] cs
