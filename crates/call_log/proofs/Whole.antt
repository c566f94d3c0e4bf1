-- Demand 3, proved: call by call the tables show the log, so every reply is the log's, and what is found by the log holds. Assumes nothing.
use mathlib.Core.Path.{◌≡◌, refl, sym, ap, ◌∙◌, subst, fun_ext}
use mathlib.Core.Bool.{Bool, true, cond}
use mathlib.Core.List.{List, [], ◌∷◌, ◌++◌, append_assoc, append-nil}
use Prim.Native.Nat.{ℕ, ◌≤◌, ◌<◌}
use native.Mathlib.Omega.{arith}
use Rattle.below.specs.Below.{at}
use Rattle.below.proofs.Tests.{by_cases}
use Rattle.tables.specs.Limits.{Limits}
use Rattle.tables.specs.Tables.{PlanLists, Tables, drones, full_size}
use Rattle.precedence.specs.Graph.{cost}
use Rattle.precedence.proofs.Agreement.{cost_agree}
use Rattle.plan.specs.Field.{FieldPlan, AcceptedPlan, plan_of, graph, place_of}
use Rattle.plan.specs.Status.{status_in}
use Rattle.sound.specs.Sound.{sound}
use Rattle.call_log.specs.CallLog.{Call, grant, arrive, withdraw, turn, turn_all, Reply, is_accepted, Entry, entry_of, status_by, accepted_calls, reply_by, log_from, log_of}
use Rattle.call_log.specs.Calls.{Answer, granted, arrived, marked, flipped, flip_flags, flipped_all, grant_step, arrive_step, withdraw_step, turn_step, turn_all_step, step, recorded, tables_after, Answered, Ran, none, next, AsRead, costs, cost_reply}
use Rattle.call_log.specs.Demand.{Found, Demand3, Demand3OfContracts}
use Rattle.call_log.proofs.Groups.{group_iff}
use Rattle.call_log.proofs.Checks.{grant_passed, arrive_passed, withdraw_passed, group_passed, one_reply}
use Rattle.call_log.specs.Claims.{MayGo, MayArrive, ProgressOnly, CallsKeep}
use Rattle.call_log.proofs.Log.{arrivals, grants, marks, turns, Counts, counts_refused, counts_grant, counts_arrive, counts_withdraw, Names, names_one, names_list, counts_turns, GoodLog, good_empty, idle-same, good_more, good_calls}
use Rattle.call_log.proofs.Good.{good_waits}
use Rattle.call_log.proofs.SoundParts.{accepted_plan}
use Rattle.call_log.proofs.Shown.{full-same, base_read, Base, Kept, kept-grant, kept-arrive, kept-withdraw, kept_turns, kept_status, kept-sound, kept_reply, kept-start}
use Rattle.call_log.proofs.SameStatus.{Same, same_agree, plans_self, graphs_agree, graph_in, counts_same}
use Rattle.call_log.proofs.Steps.{cost_0}
use Rattle.call_log.proofs.Found.{log_held, log_goes_on, log_finishes}

module _ (L : Limits) (lists : PlanLists) (t₀ : Tables) (read : AsRead L lists t₀) where
  abbrev F : FieldPlan
  F = plan_of lists

  pub plan : AcceptedPlan F
  plan = accepted_plan L lists read.plan_accepted read.dependencies_own

  base : Base L lists t₀
  base = base_read L lists t₀ read

  -- the tables show the log, entry by entry
  abbrev pub KeptLog : List Entry → Tables → Type 0
  KeptLog log t = Kept lists t₀ (arrivals log) (grants log) (marks log) (turns log) t

  kept_counts : (log : List Entry) (p e : ℕ → ℕ) (x u : ℕ → Bool) (t : Tables) → Counts log p e x u → Kept lists t₀ p e x u t → KeptLog log t
  kept_counts log p e x u t c k =
      subst (λ (y : ℕ → ℕ). Kept lists t₀ y (grants log) (marks log) (turns log) t) (sym (fun_ext c.arrivals_are))
      (subst (λ (y : ℕ → ℕ). Kept lists t₀ p y (marks log) (turns log) t) (sym (fun_ext c.grants_are))
      (subst (λ (y : ℕ → Bool). Kept lists t₀ p e y (turns log) t) (sym (fun_ext c.marks_are))
      (subst (λ (y : ℕ → Bool). Kept lists t₀ p e x y t) (sym (fun_ext c.turns_are)) k)))

  module _ (log : List Entry) (good : GoodLog F log) (t : Tables) (kept : KeptLog log t) where
    -- the call gets the reply of the log
    pub same_reply_lem : (c : Call) → (step L t c).reply ≡ reply_by F log c
    unfolding grant_step arrive_step withdraw_step turn_step turn_all_step
    same_reply_lem (grant d) = kept_reply L lists t₀ base _ _ _ _ t kept plan good (grant d)
    same_reply_lem (arrive d) = kept_reply L lists t₀ base _ _ _ _ t kept plan good (arrive d)
    same_reply_lem (withdraw d) = kept_reply L lists t₀ base _ _ _ _ t kept plan good (withdraw d)
    same_reply_lem (turn w) = kept_reply L lists t₀ base _ _ _ _ t kept plan good (turn w)
    same_reply_lem (turn_all ws) = kept_reply L lists t₀ base _ _ _ _ t kept plan good (turn_all ws)

    -- what an accepted call leaves
    left : Call → Tables
    left (grant d) = granted t d
    left (arrive d) = arrived t d
    left (withdraw d) = marked t d
    left (turn w) = flipped t w
    left (turn_all ws) = flipped_all t ws

    same_left : (c : Call) → (step L t c).tables ≡ cond (is_accepted (reply_by F log c)) (left c) t
    unfolding grant_step arrive_step withdraw_step turn_step turn_all_step left
    same_left (grant d) = ap (λ (r : Reply). cond (is_accepted r) (left (grant d)) t) (kept_reply L lists t₀ base _ _ _ _ t kept plan good (grant d))
    same_left (arrive d) = ap (λ (r : Reply). cond (is_accepted r) (left (arrive d)) t) (kept_reply L lists t₀ base _ _ _ _ t kept plan good (arrive d))
    same_left (withdraw d) = ap (λ (r : Reply). cond (is_accepted r) (left (withdraw d)) t) (kept_reply L lists t₀ base _ _ _ _ t kept plan good (withdraw d))
    same_left (turn w) = ap (λ (r : Reply). cond (is_accepted r) (left (turn w)) t) (kept_reply L lists t₀ base _ _ _ _ t kept plan good (turn w))
    same_left (turn_all ws) = ap (λ (r : Reply). cond (is_accepted r) (left (turn_all ws)) t) (kept_reply L lists t₀ base _ _ _ _ t kept plan good (turn_all ws))

    kept_group : (c : Call) (ws : List ℕ) → Names c ws → reply_by F log c ≡ reply_by F log (turn_all ws) → is_accepted (reply_by F log c) ≡ true → KeptLog (log ++ (entry_of c (reply_by F log c) ∷ [])) (flipped_all t ws)
    kept_group c ws n s e =
        let q = group_passed F (status_by log) (good_waits F _ _ _ _ good) ws (ap is_accepted (sym s) ∙ e) in
        kept_counts _ _ _ _ _ _ (counts_turns log _ c ws n e) (kept_turns L lists t₀ base _ _ _ _ t kept ws ((group_iff ws).1 q.0) (λ w i. (q.1.0 w i).exists))

    kept-left : (c : Call) → is_accepted (reply_by F log c) ≡ true → KeptLog (log ++ (entry_of c (reply_by F log c) ∷ [])) (left c)
    unfolding left flip_flags
    kept-left (grant d) e =
        let q : MayGo F (status_by log) d = grant_passed F (status_by log) d e in
        kept_counts _ _ _ _ _ _ (counts_grant log _ d e (idle-same F log good d q.waiting.idle)) (kept-grant L lists t₀ base _ _ _ _ t kept d q.waiting.exists)
    kept-left (arrive d) e =
        let q : MayArrive F (status_by log) d = arrive_passed F (status_by log) d e in
        kept_counts _ _ _ _ _ _ (counts_arrive log _ d e) (kept-arrive L lists t₀ base _ _ _ _ t kept d q.exists (good.running.ahead d))
    kept-left (withdraw d) e = kept_counts _ _ _ _ _ _ (counts_withdraw log _ d e) (kept-withdraw L lists t₀ base _ _ _ _ t kept d (withdraw_passed F (status_by log) d e).exists)
    kept-left (turn w) e = kept_group (turn w) (w ∷ []) (names_one w) (one_reply F (status_by log) w) e
    kept-left (turn_all ws) e = kept_group (turn_all ws) ws (names_list ws) refl e

    pub kept_more : (c : Call) → KeptLog (log ++ (entry_of c (reply_by F log c) ∷ [])) (step L t c).tables
    kept_more c = by_cases (is_accepted (reply_by F log c))
        (λ e. rw (same_left c, e) (kept-left c e))
        (λ e. rw (same_left c, e) (kept_counts _ _ _ _ _ _ (counts_refused log (reply_by F log c) c e) kept))

    -- the cost is that of the log
    pub same_cost : cost_reply L t ≡ costs (cost (graph F (status_by log)) F.leg (place_of F (status_by log)))
    same_cost =
        let s : Same F (status_in t) (status_by log) = kept_status L lists t₀ base _ _ _ _ t kept in
        cost_0 L t (full-same L t₀ t kept.same read.full) (kept-sound L lists t₀ base _ _ _ _ t kept plan good)
        ∙ ap (λ (l : PlanLists). costs (cost (graph (plan_of l) (status_in t)) (plan_of l).leg (place_of (plan_of l) (status_in t)))) (kept.same.plan_same ∙ read.plan_read)
        ∙ ap costs (cost_agree (graph F (status_in t)) (graph F (status_by log)) (graphs_agree F F (plans_self F) plan (status_in t) (status_by log) s.marks s.turns) (graph_in F plan (status_in t)) F.leg F.leg (λ d k l o h. refl) (place_of F (status_in t)) (place_of F (status_by log)) (counts_same F (status_in t) (status_by log) (same_agree F _ _ s)))

  -- the whole list
  replies_same : (cs : List Call) (log : List Entry) → GoodLog F log → (t : Tables) → KeptLog log t → log ++ recorded (step L) t cs ≡ log_from F log cs
  unfolding recorded log_from
  replies_same [] log g t k = append-nil log
  replies_same (c ∷ cs) log g t k =
      rw (same_reply_lem log g t k c) (sym (append_assoc log (entry_of c (reply_by F log c) ∷ []) (recorded (step L) (step L t c).tables cs))
      ∙ replies_same cs (log ++ (entry_of c (reply_by F log c) ∷ [])) (good_more F plan log g c) (step L t c).tables (kept_more log g t k c))

  kept_calls : (cs : List Call) (log : List Entry) → GoodLog F log → (t : Tables) → KeptLog log t → KeptLog (log_from F log cs) (tables_after (step L) t cs)
  unfolding tables_after log_from
  kept_calls [] log g t k = k
  kept_calls (c ∷ cs) log g t k = kept_calls cs (log ++ (entry_of c (reply_by F log c) ∷ [])) (good_more F plan log g c) (step L t c).tables (kept_more log g t k c)

  pub kept_empty : KeptLog [] t₀
  unfolding accepted_calls
  kept_empty = kept-start L lists t₀ read

  found : (calls : List Call) → Found F calls (recorded (step L) t₀ calls) (tables_after (step L) t₀ calls)
  found calls = record {
    replies = replies_same calls [] (good_empty F plan) t₀ kept_empty;
    shown = same_agree F _ _ (kept_status L lists t₀ base _ _ _ _ (tables_after (step L) t₀ calls) after);
    held = log_held F plan (log_of F calls) good;
    goes_on = log_goes_on F plan (log_of F calls) good;
    finishes = log_finishes F plan (log_of F calls) good;
  }
    where
      good : GoodLog F (log_of F calls)
      good = good_calls F plan calls [] (good_empty F plan)

      after : KeptLog (log_of F calls) (tables_after (step L) t₀ calls)
      after = kept_calls calls [] (good_empty F plan) t₀ kept_empty

  -- besides: the tables stay sound, and all but progress and bit 0 stays as it was read
  pub stays_sound : (calls : List Call) → sound L (tables_after (step L) t₀ calls) ≡ true
  stays_sound calls = kept-sound L lists t₀ base _ _ _ _ (tables_after (step L) t₀ calls) (kept_calls calls [] (good_empty F plan) t₀ kept_empty) plan (good_calls F plan calls [] (good_empty F plan))

  pub stays_same : (calls : List Call) → ProgressOnly t₀ (tables_after (step L) t₀ calls)
  stays_same calls = (kept_calls calls [] (good_empty F plan) t₀ kept_empty).same

  pub stays_full : (calls : List Call) → full_size L (tables_after (step L) t₀ calls) ≡ true
  stays_full calls = full-same L t₀ (tables_after (step L) t₀ calls) (stays_same calls) read.full

  pub stays_within : (calls : List Call) (d : ℕ) → d < drones lists → at (tables_after (step L) t₀ calls).visited d ≤ (plan_of lists).last d
  stays_within calls d l = omega (arith, (kept_calls calls [] (good_empty F plan) t₀ kept_empty).visited_is d l, (good_calls F plan calls [] (good_empty F plan)).running.behind d, (good_calls F plan calls [] (good_empty F plan)).within d l)

pub calls_keep : CallsKeep
calls_keep L lists t calls read = record { usable = (stays_full L lists t read calls, stays_sound L lists t read calls); within = stays_within L lists t read calls; changed = stays_same L lists t read calls }

pub demand3 : Demand3
demand3 L lists t calls read = found L lists t read calls

-- a run by contracts is the run of the step functions
pub replies_of : (L : Limits) {t t' : Tables} {cs : List Call} {es : List Entry} → Ran (step L) t cs es t' → es ≡ recorded (step L) t cs
unfolding recorded
replies_of L none = refl
replies_of L (next {c = c} {cs = cs} a r) = rw (replies_of L r, a.replied, a.left)

pub tables_of_lem : (L : Limits) {t t' : Tables} {cs : List Call} {es : List Entry} → Ran (step L) t cs es t' → t' ≡ tables_after (step L) t cs
unfolding tables_after
tables_of_lem L none = refl
tables_of_lem L (next {cs = cs} a r) = tables_of_lem L r ∙ ap (λ (t : Tables). tables_after (step L) t cs) a.left

pub demand3_of_contracts : Demand3OfContracts
demand3_of_contracts L lists t calls got t' read ran = rw (replies_of L ran, tables_of_lem L ran) (demand3 L lists t calls read)

-- every list of calls has such a run
pub ran : (L : Limits) (cs : List Call) (t : Tables) → Ran (step L) t cs (recorded (step L) t cs) (tables_after (step L) t cs)
unfolding recorded tables_after
ran L [] t = none
ran L (c ∷ cs) t = next (record { replied = refl; left = refl }) (ran L cs (step L t c).tables)

-- one call more at the end of a run, as a loop makes it
pub ran_more : {program : Tables → Call → Answer} {t t' t'' : Tables} {c : Call} {r : Reply} {cs : List Call} {es : List Entry} → Ran program t cs es t' → Answered program t' c r t'' → Ran program t (cs ++ (c ∷ [])) (es ++ (entry_of c r ∷ [])) t''
ran_more none a = next a none
ran_more (next b r) a = next b (ran_more r a)
