-- Demand 2: when each call is accepted, in plain terms, what 23, 25, 34 and 35 say, that the second drone never enters before the first, that calls keep the tables sound, and what the cost is. Assumes nothing.
use Rattle.std.specs.Prelude.{◌≡◌, ◌≢◌, ◌↔◌, ◌⊎◌, true, false, List, [], ◌∷◌, ℕ, suc, ◌-◌, ◌*◌, ◌≤◌, ◌<◌, length}
use Rattle.below.specs.Below.{pick, at, is_in, sum_below}
use Rattle.tables.specs.Limits.{Limits, limits, most_cost, most_plain_cost}
use Rattle.tables.specs.Legs.{longest_leg}
use Rattle.tables.specs.Tables.{PlanLists, Tables, drones, dependencies, form_of, full_size}
use Rattle.precedence.specs.Graph.{Cycle, Longest, remaining, unvisited, legs_ahead, legs_left, Table, reached}
use Rattle.plan.specs.Field.{FieldPlan, plan_of, graph, Status, after_turn, after_turns, of_withdrawn, place_of}
use Rattle.plan.specs.Status.{status_in, dependency_now}
use Rattle.sound.specs.Sound.{sound}
use Rattle.call_log.specs.CallLog.{Call, turn, turn_all, accepted, refused, must_wait, reply_number, Entry, is_turn, reply_by}
use Rattle.call_log.specs.Calls.{grant_step, arrive_step, withdraw_step, turn_step, turn_all_step, step, costs, cost_reply, AsRead, tables_after}

-- no lent table is below full size, and the tables are sound
abbrev pub Usable : Limits → Tables → Type 0
Usable L t = (full_size L t ≡ true) × (sound L t ≡ true)

-- a list that passes 36: it is not empty and strictly rises
pub record Group (ws : List ℕ) : Type 0 where
  pub not_empty : 0 < length ws
  pub rising : (i : ℕ) → suc i < length ws → at ws i < at ws (suc i)

module _ (F : FieldPlan) (s : Status) where
  open F use {drones, last, count, dependency}
  open s use {place, under_way, withdrawn, turned}

  -- ---- grant

  -- dependency w is one into the next stop of drone d
  abbrev pub IntoNext : ℕ → ℕ → Type 0
  IntoNext d w = (w < count) × ((dependency_now F s w).second ≡ d) × ((dependency_now F s w).second_stop ≡ suc (place d))

  -- "i may enter stop k only after j has visited stop s+1": the stop that dependency w waits for is visited; a withdrawn drone "counts as beyond all its stops, so nobody
  -- waits for it"
  abbrev pub Met : ℕ → Type 0
  Met w = (withdrawn (dependency_now F s w).first ≡ true) ⊎ (suc (dependency_now F s w).first_stop ≤ place (dependency_now F s w).first)

  -- the drone exists, is not withdrawn, has an unvisited stop and is not under way
  pub record Waiting (d : ℕ) : Type 0 where
    pub exists : d < drones
    pub not_withdrawn : withdrawn d ≡ false
    pub unfinished : place d < last d
    pub idle : under_way d ≡ false

  -- "the drone becomes under way when every dependency into its next stop has the awaited stop visited"
  pub record MayGo (d : ℕ) : Type 0 where
    pub waiting : Waiting d
    pub met : (w : ℕ) → IntoNext d w → Met w

  -- "23 must wait, with the lowest dependency unmet"
  pub record MustWait (d w : ℕ) : Type 0 where
    pub waiting : Waiting d
    pub into_next : IntoNext d w
    pub unmet : Met w → ⊥
    pub lowest : (v : ℕ) → v < w → IntoNext d v → Met v

  -- ---- arrive

  -- "a drone under way"
  pub record MayArrive (d : ℕ) : Type 0 where
    pub exists : d < drones
    pub not_withdrawn : withdrawn d ≡ false
    pub under_way : under_way d ≡ true

  -- ---- withdraw

  -- any drone that is not withdrawn, a finished one too
  pub record MayWithdraw (d : ℕ) : Type 0 where
    pub exists : d < drones
    pub not_withdrawn : withdrawn d ≡ false

  -- "25, the drone is withdrawn"
  pub record IsWithdrawn (d : ℕ) : Type 0 where
    pub exists : d < drones
    pub is_withdrawn : withdrawn d ≡ true

  -- ---- turn

  -- drone d has not visited its stop k and is not under way to it
  abbrev pub Unentered : ℕ → ℕ → Type 0
  Unentered d k = (place d < k) × (under_way d ≡ true → suc (place d) < k)

  -- the dependency exists, neither drone is withdrawn, it is not fixed, and neither drone has entered its stop
  pub record Turnable (w : ℕ) : Type 0 where
    pub exists : w < count
    pub none_withdrawn : of_withdrawn F s w ≡ false
    pub not_first : (dependency w).first_stop ≢ 0
    pub not_last : (dependency w).second_stop ≢ last (dependency w).second
    pub first_before : Unentered (dependency w).first (dependency w).first_stop
    pub second_before : Unentered (dependency w).second (dependency w).second_stop

  -- the graph with dependency w turned has a cycle
  abbrev pub TurnedCycle : ℕ → Type 0
  TurnedCycle w = Cycle (graph F (after_turn s w))

  -- ---- a turn of a list

  -- each dependency of the list may be turned by itself
  abbrev pub AllTurnable : List ℕ → Type 0
  AllTurnable ws = (w : ℕ) → is_in w ws ≡ true → Turnable w

  -- the graph with all of them turned has a cycle
  abbrev pub GroupCycle : List ℕ → Type 0
  GroupCycle ws = Cycle (graph F (after_turns s ws))

module _ (L : Limits) (t : Tables) where
  abbrev F : FieldPlan
  F = plan_of t.plan

  abbrev S : Status
  S = status_in t

  abbrev pub GrantedExactly : Type 0
  GrantedExactly = (d : ℕ) → ((grant_step L t d).reply ≡ accepted) ↔ (Usable L t × MayGo F S d)

  abbrev pub WaitsExactly : Type 0
  WaitsExactly = (d w : ℕ) → ((grant_step L t d).reply ≡ must_wait w) ↔ (Usable L t × MustWait F S d w)

  abbrev pub ArrivedExactly : Type 0
  ArrivedExactly = (d : ℕ) → ((arrive_step L t d).reply ≡ accepted) ↔ (Usable L t × MayArrive F S d)

  abbrev pub WithdrawnExactly : Type 0
  WithdrawnExactly = (d : ℕ) → ((withdraw_step L t d).reply ≡ accepted) ↔ (Usable L t × MayWithdraw F S d)

  -- "25, the drone is withdrawn, for grant, arrive and withdraw"
  pub record GoneExactly (d : ℕ) : Type 0 where
    pub grant_25 : ((grant_step L t d).reply ≡ refused 25) ↔ (Usable L t × IsWithdrawn F S d)
    pub arrive_25 : ((arrive_step L t d).reply ≡ refused 25) ↔ (Usable L t × IsWithdrawn F S d)
    pub withdraw_25 : ((withdraw_step L t d).reply ≡ refused 25) ↔ (Usable L t × IsWithdrawn F S d)

  -- "35, a drone of the dependency is withdrawn, for turns, after 30"
  abbrev pub AsideExactly : Type 0
  AsideExactly = (w : ℕ) → ((turn_step L t w).reply ≡ refused 35) ↔ (Usable L t × ((w < F.count) × (of_withdrawn F S w ≡ true)))

  -- "so nobody waits for it": no grant is refused for a dependency of a withdrawn drone
  abbrev pub NobodyWaits : Type 0
  NobodyWaits = (d w : ℕ) → (grant_step L t d).reply ≡ must_wait w → of_withdrawn F S w ≡ false

  -- "the rest must go on": an accepted withdrawal raises nobody's remaining rounds, and the drone then has none
  abbrev pub WithdrawalRaisesNone : Type 0
  WithdrawalRaisesNone = (d : ℕ) → (withdraw_step L t d).reply ≡ accepted → (e : ℕ) → e < F.drones → remaining (graph F (status_in (withdraw_step L t d).tables)) F.leg (place_of F (status_in (withdraw_step L t d).tables)) e ≤ remaining (graph F S) F.leg (place_of F S) e

  -- why 33 ("the second drone has") is no refusal any more: "If the second drone had entered, the first would be beyond its stop and 32 would have been said".
  -- In sound tables, where neither drone of a dependency is withdrawn and the first, in the order now in force, has not entered its stop, the second has not entered its own
  abbrev pub SecondAfterFirst : Type 0
  SecondAfterFirst = sound L t ≡ true → (w : ℕ) → w < F.count → of_withdrawn F S w ≡ false → Unentered F S (dependency_now F S w).first (dependency_now F S w).first_stop → Unentered F S (dependency_now F S w).second (dependency_now F S w).second_stop

  abbrev pub TurnedExactly : Type 0
  TurnedExactly = (w : ℕ) → ((turn_step L t w).reply ≡ accepted) ↔ (Usable L t × (Turnable F S w × (TurnedCycle F S w → ⊥)))

  -- "34 the turned graph has a cycle"
  abbrev pub CycleExactly : Type 0
  CycleExactly = (w : ℕ) → ((turn_step L t w).reply ≡ refused 34) ↔ (Usable L t × (Turnable F S w × TurnedCycle F S w))

  -- "It is accepted exactly when the list passes 36, each passes checks 30 to 33 by itself and the graph with all of them turned has no cycle" (33 has left the list)
  abbrev pub GroupExactly : Type 0
  GroupExactly = (ws : List ℕ) → ((turn_all_step L t ws).reply ≡ accepted) ↔ (Usable L t × (Group ws × (AllTurnable F S ws × (GroupCycle F S ws → ⊥))))

  -- "with 34 last of all"
  abbrev pub GroupCycleExactly : Type 0
  GroupCycleExactly = (ws : List ℕ) → ((turn_all_step L t ws).reply ≡ refused 34) ↔ (Usable L t × (Group ws × (AllTurnable F S ws × GroupCycle F S ws)))

  -- "36, an empty list or one not strictly rising, after 40 and before 30"
  abbrev pub NoGroupExactly : Type 0
  NoGroupExactly = (ws : List ℕ) → ((turn_all_step L t ws).reply ≡ refused 36) ↔ (Usable L t × (Group ws → ⊥))

  -- the first dependency of the list that by itself would be refused with n, those before it may be turned
  pub record FirstRefused (ws : List ℕ) (n : ℕ) : Type 0 where
    pub index : ℕ
    pub index_in : index < length ws
    pub refused_alone : (turn_step L t (at ws index)).reply ≡ refused n
    pub passed_before : (j : ℕ) → j < index → Turnable F S (at ws j)

  -- "then 30 to 34 as the list is walked": which of 30, 35, 31 and 32 is said
  abbrev pub WalkedExactly : Type 0
  WalkedExactly = (ws : List ℕ) (n : ℕ) → 30 ≤ n → n ≤ 35 → n ≢ 34 → ((turn_all_step L t ws).reply ≡ refused n) ↔ (Usable L t × (Group ws × FirstRefused ws n))

  -- "The rules for one turn are proved as the list of length one": the same reply and the same tables
  abbrev pub TurnIsGroup : Type 0
  TurnIsGroup = (w : ℕ) → turn_step L t w ≡ turn_all_step L t (w ∷ [])

  -- whatever the call, tables that are of full size and sound stay so
  abbrev pub StaysUsable : Type 0
  StaysUsable = Usable L t → (c : Call) → Usable L (step L t c).tables

  -- "A drone's remaining rounds are those until it finishes, 0 if finished. Remaining cost is their sum"; they are also what "the longest chain of unvisited stops
  -- that ends at its last stop" counts, and that "is the one with the largest sum of legs and counts that sum"
  pub record CostMeans : Type 0 where
    -- "A stop is reached LEG rounds after the last stop it awaits, its own drone's stop before it included; stops visited before the count begins are reached at round 0"
    pub is_reached : Usable L t → Table (graph F S) F.leg (place_of F S) (reached (graph F S) F.leg (place_of F S))
    pub is_sum : Usable L t → cost_reply L t ≡ costs (sum_below F.drones (remaining (graph F S) F.leg (place_of F S)))
    pub is_longest : Usable L t → (d : ℕ) → d < F.drones → place_of F S d < F.last d → Longest (graph F S) F.leg (place_of F S) d (remaining (graph F S) F.leg (place_of F S) d)
    pub is_none : Usable L t → (d : ℕ) → d < F.drones → F.last d ≤ place_of F S d → remaining (graph F S) F.leg (place_of F S) d ≡ 0
    -- a withdrawn drone "costs nothing"
    pub none_withdrawn : Usable L t → (d : ℕ) → d < F.drones → S.withdrawn d ≡ true → remaining (graph F S) F.leg (place_of F S) d ≡ 0

-- the greatest cost of plans of a form: every drone waits for every stop but the first ones, and every leg is the longest of the form
abbrev pub greatest_cost : Limits → ℕ → ℕ
greatest_cost L form = longest_leg L form * (L.drones * (L.stops - L.drones))

abbrev pub CostBounded : Type 0
CostBounded = (L : Limits) (t : Tables) (n : ℕ) → 2 * L.drones ≤ L.stops → cost_reply L t ≡ costs n → n ≤ greatest_cost L (form_of t.plan)

-- "Cost is at most 7,618,560"
abbrev pub CostLimit : Type 0
CostLimit = (t : Tables) (n : ℕ) → cost_reply limits t ≡ costs n → n ≤ most_cost

-- .. and of a `plan=1` plan at most 126,976, as before
abbrev pub PlainCostLimit : Type 0
PlainCostLimit = (t : Tables) (n : ℕ) → form_of t.plan ≡ 1 → cost_reply limits t ≡ costs n → n ≤ most_plain_cost

-- in the log too one turn is the list of length one: the same reply, and it names the same
pub record LogTurnIsGroup (F : FieldPlan) (log : List Entry) (w : ℕ) : Type 0 where
  pub same_reply_lem : reply_by F log (turn w) ≡ reply_by F log (turn_all (w ∷ []))
  pub same_named : (v : ℕ) → is_turn v (turn w) ≡ is_turn v (turn_all (w ∷ []))

-- "Demand 3 counts unvisited stops .. among those not withdrawn": the unvisited stops of a graph and the places that count are those of the others
abbrev pub UnvisitedOfOthers : FieldPlan → Status → Type 0
UnvisitedOfOthers F s = unvisited (graph F s) (place_of F s) ≡ sum_below F.drones (λ d. pick (s.withdrawn d) 0 (F.last d - s.place d))

-- .. and so are the legs that bound demand 3's rounds: a withdrawn drone has none left
abbrev pub LegsOfOthers : FieldPlan → Status → Type 0
LegsOfOthers F s = legs_left (graph F s) F.leg (place_of F s) ≡ sum_below F.drones (λ d. pick (s.withdrawn d) 0 (legs_ahead (graph F s) F.leg d (s.place d)))

-- ---- every list of calls

-- "(40 and 41 never do)": whatever the log before it, no call is refused by 40 or 41
abbrev pub LogNever40Or41 : Type 0
LogNever40Or41 = (F : FieldPlan) (log : List Entry) (c : Call) → (reply_number (reply_by F log c) ≢ 40) × (reply_number (reply_by F log c) ≢ 41)

-- "33 leaves the list of turn and of group turn", "The number isn't used again": no call is refused by 33, neither by the log nor on any tables
pub record Never33 : Type 0 where
  pub by_log : (F : FieldPlan) (log : List Entry) (c : Call) → reply_number (reply_by F log c) ≢ 33
  pub on_tables : (L : Limits) (t : Tables) (c : Call) → reply_number (step L t c).reply ≢ 33

-- t' differs from t at most in the progress of the drones and the flags of the dependencies that the plan has
pub record ProgressOnly (t t' : Tables) : Type 0 where
  pub plan_same : t'.plan ≡ t.plan
  pub visited_length : length t'.visited ≡ length t.visited
  pub drone_flags_length : length t'.drone_flags ≡ length t.drone_flags
  pub flags_length : length t'.flags ≡ length t.flags
  pub visited_unused : (d : ℕ) → drones t.plan ≤ d → at t'.visited d ≡ at t.visited d
  pub drone_flags_unused : (d : ℕ) → drones t.plan ≤ d → at t'.drone_flags d ≡ at t.drone_flags d
  pub flags_unused : (w : ℕ) → dependencies t.plan ≤ w → at t'.flags w ≡ at t.flags w

-- after the calls the tables are of full size and sound, nobody is past a last stop, and nothing but progress and flags in use has changed
pub record KeptByCalls (L : Limits) (lists : PlanLists) (t t' : Tables) : Type 0 where
  pub usable : Usable L t'
  pub within : (d : ℕ) → d < drones lists → at t'.visited d ≤ (plan_of lists).last d
  pub changed : ProgressOnly t t'

-- what stays after an accepted reading, whatever is called
abbrev pub CallsKeep : Type 0
CallsKeep = (L : Limits) (lists : PlanLists) (t : Tables) (calls : List Call) → AsRead L lists t → KeptByCalls L lists t (tables_after (step L) t calls)

-- of all tables
pub record Demand2 : Type 0 where
  pub granted_exactly : (L : Limits) (t : Tables) → GrantedExactly L t
  pub waits_exactly : (L : Limits) (t : Tables) → WaitsExactly L t
  pub arrived_exactly : (L : Limits) (t : Tables) → ArrivedExactly L t
  pub withdrawn_exactly : (L : Limits) (t : Tables) → WithdrawnExactly L t
  pub gone_exactly : (L : Limits) (t : Tables) (d : ℕ) → GoneExactly L t d
  pub aside_exactly : (L : Limits) (t : Tables) → AsideExactly L t
  pub nobody_waits : (L : Limits) (t : Tables) → NobodyWaits L t
  pub withdrawal_raises_none : (L : Limits) (t : Tables) → WithdrawalRaisesNone L t
  pub unvisited_of_others : (F : FieldPlan) (s : Status) → UnvisitedOfOthers F s
  pub legs_of_others : (F : FieldPlan) (s : Status) → LegsOfOthers F s
  pub second_after_first : (L : Limits) (t : Tables) → SecondAfterFirst L t
  pub turned_exactly : (L : Limits) (t : Tables) → TurnedExactly L t
  pub cycle_exactly : (L : Limits) (t : Tables) → CycleExactly L t
  pub group_exactly : (L : Limits) (t : Tables) → GroupExactly L t
  pub group_cycle_exactly : (L : Limits) (t : Tables) → GroupCycleExactly L t
  pub no_group_exactly : (L : Limits) (t : Tables) → NoGroupExactly L t
  pub walked_exactly : (L : Limits) (t : Tables) → WalkedExactly L t
  pub turn_is_group : (L : Limits) (t : Tables) → TurnIsGroup L t
  pub log_turn_is_group : (F : FieldPlan) (log : List Entry) (w : ℕ) → LogTurnIsGroup F log w
  pub stays_usable : (L : Limits) (t : Tables) → StaysUsable L t
  pub cost_means : (L : Limits) (t : Tables) → CostMeans L t
  pub cost_bounded : CostBounded
  pub cost_limit : CostLimit
  pub plain_cost_limit : PlainCostLimit
