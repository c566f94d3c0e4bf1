-- The calls on lent tables: what each replies and leaves, and lists of calls (document 01, "The calls" and "Where each refusal is checked"). Assumes nothing.
use Rattle.std.specs.Prelude.{◌≡◌, true, cond, List, [], ◌∷◌, ℕ, ◌+◌, ◌≤◌, ◌<◌, set}
use Rattle.below.specs.Below.{at}
use Rattle.tables.specs.Limits.{Limits}
use Rattle.tables.specs.Tables.{PlanLists, Tables, dependencies, full_size}
use Rattle.tables.specs.Flags.{flip_bit, fixed_flag, set_under_way, clear_under_way, set_withdrawn}
use Rattle.precedence.specs.Graph.{cost, makespan}
use Rattle.plan.specs.Field.{plan_of, graph, fixed, place_of}
use Rattle.plan.specs.Status.{status_in}
use Rattle.sound.specs.Sound.{sound, plan_accepted_lem, dependencies_sound, plan_unused_lem}
use Rattle.call_log.specs.CallLog.{Call, grant, arrive, withdraw, turn, turn_all, Reply, refused, is_accepted, reply_in, Entry, entry_of}

-- a reply and the tables afterwards
pub record Answer : Type 0 where
  pub reply : Reply
  pub tables : Tables

-- the reply, and the tables that an accepted call leaves; "unchanged" after a refusal
abbrev pub changed_if_accepted : Tables → Reply → Tables → Answer
changed_if_accepted t r t' = record { reply = r; tables = cond (is_accepted r) t' t }

-- the tables after an accepted call. "Grant: the drone becomes under way"
abbrev pub granted : Tables → ℕ → Tables
granted t d = record { plan = t.plan; visited = t.visited; drone_flags = set t.drone_flags d (set_under_way (at t.drone_flags d)); flags = t.flags }

-- "Arrive: a drone under way has visited its next stop and is no longer under way"
abbrev pub arrived : Tables → ℕ → Tables
arrived t d = record { plan = t.plan; visited = set t.visited d (at t.visited d + 1); drone_flags = set t.drone_flags d (clear_under_way (at t.drone_flags d)); flags = t.flags }

-- "Withdrawing changes only a mark in the drone's record"
abbrev pub marked : Tables → ℕ → Tables
marked t d = record { plan = t.plan; visited = t.visited; drone_flags = set t.drone_flags d (set_withdrawn (at t.drone_flags d)); flags = t.flags }

-- the flag bytes with bit 0 of a dependency flipped, and with bit 0 of each dependency of a list flipped
abbrev pub flip_flag : List ℕ → ℕ → List ℕ
flip_flag flags w = set flags w (flip_bit (at flags w))

unfoldable pub flip_flags : List ℕ → List ℕ → List ℕ
flip_flags flags [] = flags
flip_flags flags (w ∷ ws) = flip_flags (flip_flag flags w) ws

-- "Turn: flips bit 0 of one dependency"
abbrev pub flipped : Tables → ℕ → Tables
flipped t w = record { plan = t.plan; visited = t.visited; drone_flags = t.drone_flags; flags = flip_flag t.flags w }

-- "a turn of a list of dependencies, all at once"
abbrev pub flipped_all : Tables → List ℕ → Tables
flipped_all t ws = record { plan = t.plan; visited = t.visited; drone_flags = t.drone_flags; flags = flip_flags t.flags ws }

-- a cost, or the refusal of the call
pub data CostOutcome : Type 0 where
  costs : ℕ → CostOutcome
  cost_refused : ℕ → CostOutcome

-- the rounds until everybody has landed, or the refusal of the call
pub data RoundsOutcome : Type 0 where
  rounds : ℕ → RoundsOutcome
  rounds_refused : ℕ → RoundsOutcome

module _ (L : Limits) where
  -- 41, then 40, then the first of the table's refusals that holds in the tables
  unfoldable pub reply_of : Tables → Call → Reply
  reply_of t c = cond (full_size L t) (cond (sound L t) (reply_in (plan_of t.plan) (status_in t) c) (refused 40)) (refused 41)

  unfoldable pub grant_step : Tables → ℕ → Answer
  grant_step t d = changed_if_accepted t (reply_of t (grant d)) (granted t d)

  unfoldable pub arrive_step : Tables → ℕ → Answer
  arrive_step t d = changed_if_accepted t (reply_of t (arrive d)) (arrived t d)

  unfoldable pub withdraw_step : Tables → ℕ → Answer
  withdraw_step t d = changed_if_accepted t (reply_of t (withdraw d)) (marked t d)

  unfoldable pub turn_step : Tables → ℕ → Answer
  turn_step t w = changed_if_accepted t (reply_of t (turn w)) (flipped t w)

  unfoldable pub turn_all_step : Tables → List ℕ → Answer
  turn_all_step t ws = changed_if_accepted t (reply_of t (turn_all ws)) (flipped_all t ws)

  -- any of the five
  abbrev pub step : Tables → Call → Answer
  step t (grant d) = grant_step t d
  step t (arrive d) = arrive_step t d
  step t (withdraw d) = withdraw_step t d
  step t (turn w) = turn_step t w
  step t (turn_all ws) = turn_all_step t ws

  -- "Remaining cost": from the drones' progress, with the order now in force; a withdrawn drone "costs nothing". It changes nothing
  unfoldable pub cost_reply : Tables → CostOutcome
  cost_reply t = cond (full_size L t) (cond (sound L t) (costs (cost (graph (plan_of t.plan) (status_in t)) (plan_of t.plan).leg (place_of (plan_of t.plan) (status_in t)))) (cost_refused 40)) (cost_refused 41)

  -- the undelayed rounds until everybody has landed, a call of our own: from the drones' progress, with the order now in force. It changes nothing
  unfoldable pub rounds_reply : Tables → RoundsOutcome
  rounds_reply t = cond (full_size L t) (cond (sound L t) (rounds (makespan (graph (plan_of t.plan) (status_in t)) (plan_of t.plan).leg (place_of (plan_of t.plan) (status_in t)))) (rounds_refused 40)) (rounds_refused 41)

  -- the tables as an accepted reading of the plan left them: the plan and its dependencies stand in them, everybody is at stop 0, "nobody is under way and
  -- nothing is turned", nobody is withdrawn, the fixed bits are right, and unused entries up to the full sizes are zero
  pub record AsRead (lists : PlanLists) (t : Tables) : Type 0 where
    pub plan_read : t.plan ≡ lists
    pub full : full_size L t ≡ true
    pub plan_accepted : plan_accepted_lem L lists ≡ true
    pub dependencies_own : dependencies_sound L lists ≡ true
    pub plan_unused : plan_unused_lem L lists ≡ true
    pub visited_zero : (d : ℕ) → d < L.drones → at t.visited d ≡ 0
    pub drone_flags_zero : (d : ℕ) → d < L.drones → at t.drone_flags d ≡ 0
    pub flags_fixed : (w : ℕ) → w < dependencies lists → at t.flags w ≡ fixed_flag (fixed (plan_of lists) w)
    pub flags_zero : (w : ℕ) → dependencies lists ≤ w → w < L.dependencies → at t.flags w ≡ 0

-- ---- a list of calls: each call gets the tables as the call before it left them

-- a program: what a call on some tables replies and leaves
module _ (program : Tables → Call → Answer) where
  -- each call with the reply that it got
  unfoldable pub recorded : Tables → List Call → List Entry
  recorded t [] = []
  recorded t (c ∷ cs) = entry_of c (program t c).reply ∷ recorded (program t c).tables cs

  -- the tables after the last call
  unfoldable pub tables_after : Tables → List Call → Tables
  tables_after t [] = t
  tables_after t (c ∷ cs) = tables_after (program t c).tables cs

  -- what the contract of a call says: on the tables t it replied r and left the tables t'
  pub record Answered (t : Tables) (c : Call) (r : Reply) (t' : Tables) : Type 0 where
    pub replied : r ≡ (program t c).reply
    pub left : t' ≡ (program t c).tables

  -- a run of real calls, by nothing but their contracts: the calls, each with the reply that it got, from the tables t to the tables t'
  pub data Ran : Tables → List Call → List Entry → Tables → Type 0 where
    none : {t : Tables} → Ran t [] [] t
    next : {t t' t'' : Tables} {c : Call} {r : Reply} {cs : List Call} {es : List Entry} → Answered t c r t' → Ran t' cs es t'' → Ran t (c ∷ cs) (entry_of c r ∷ es) t''
