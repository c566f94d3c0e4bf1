-- The invariant of the log: what every list of calls keeps, by counts of accepted calls. Assumes nothing.
use mathlib.Core.Path.{◌≡◌, refl, sym, ap, ◌∙◌, subst, fun_ext}
use mathlib.Core.Bool.{Bool, true, false}
use mathlib.Core.List.{List, [], ◌∷◌, ◌++◌}
use Prim.Native.Nat.{ℕ, suc}
use native.Mathlib.Omega.{arith}
use lib.Dec.{eqb, ltb}
use borrow.Author.Tests.{lt-ltb, ltb-false, eqb-true}
use Rattle.below.proofs.Tests.{by_cases}
use Rattle.below.specs.Below.{pick, update, is_in}
use Rattle.call_log.proofs.Checks.{grant_passed, arrive_passed, group_passed, one_reply}
use Rattle.call_log.specs.Claims.{MayGo}
use Rattle.call_log.proofs.Counts.{counted-more, is_odd-suc}
use Rattle.call_log.proofs.Good.{Good, good_start, good_grant, good_arrive, good_withdraw, good_turns, good_waits}
use Rattle.call_log.specs.CallLog.{Call, grant, arrive, withdraw, turn, turn_all, Reply, is_accepted, Entry, entry_of, is_grant, is_arrival, is_withdrawal, is_turn, accepted_calls, is_odd, status_by, reply_by, log_from}
use Rattle.plan.specs.Field.{FieldPlan, flip_all, mark, AcceptedPlan}

abbrev pub arrivals : List Entry → ℕ → ℕ
arrivals log d = accepted_calls (is_arrival d) log

abbrev pub grants : List Entry → ℕ → ℕ
grants log d = accepted_calls (is_grant d) log

abbrev pub marks : List Entry → ℕ → Bool
marks log d = ltb 0 (accepted_calls (is_withdrawal d) log)

abbrev pub turns : List Entry → ℕ → Bool
turns log w = is_odd (accepted_calls (is_turn w) log)

-- the log has these counts
pub record Counts (log : List Entry) (p e : ℕ → ℕ) (x t : ℕ → Bool) : Type 0 where
  pub arrivals_are : (d : ℕ) → arrivals log d ≡ p d
  pub grants_are : (d : ℕ) → grants log d ≡ e d
  pub marks_are : (d : ℕ) → marks log d ≡ x d
  pub turns_are : (w : ℕ) → turns log w ≡ t w

-- the call is a turn that names the dependencies of the list
pub record Names (c : Call) (ws : List ℕ) : Type 0 where
  pub no_arrival : (d : ℕ) → is_arrival d c ≡ false
  pub no_grant : (d : ℕ) → is_grant d c ≡ false
  pub no_withdrawal : (d : ℕ) → is_withdrawal d c ≡ false
  pub named : (v : ℕ) → is_turn v c ≡ is_in v ws

pub names_one : (w : ℕ) → Names (turn w) (w ∷ [])
unfolding is_in
names_one w = record { no_arrival = λ d. refl; no_grant = λ d. refl; no_withdrawal = λ d. refl; named = λ v. refl }

pub names_list : (ws : List ℕ) → Names (turn_all ws) ws
names_list ws = record { no_arrival = λ d. refl; no_grant = λ d. refl; no_withdrawal = λ d. refl; named = λ v. refl }

module _ (log : List Entry) (c : Call) (r : Reply) where
  more_no : is_accepted r ≡ false → (f : Call → Bool) → accepted_calls f (log ++ (entry_of c r ∷ [])) ≡ accepted_calls f log
  more_no e f = counted-more f log (entry_of c r) ∙ rw e

  more_yes : is_accepted r ≡ true → (f : Call → Bool) → accepted_calls f (log ++ (entry_of c r ∷ [])) ≡ pick (f c) (suc (accepted_calls f log)) (accepted_calls f log)
  more_yes e f = counted-more f log (entry_of c r) ∙ rw e

module _ (log : List Entry) (r : Reply) where
  pub counts_refused : (c : Call) → is_accepted r ≡ false → Counts (log ++ (entry_of c r ∷ [])) (arrivals log) (grants log) (marks log) (turns log)
  counts_refused c e = record { arrivals_are = λ d. more_no log c r e (is_arrival d); grants_are = λ d. more_no log c r e (is_grant d); marks_are = λ d. ap (ltb 0) (more_no log c r e (is_withdrawal d)); turns_are = λ w. ap is_odd (more_no log c r e (is_turn w)) }

  pub counts_grant : (d : ℕ) → is_accepted r ≡ true → grants log d ≡ arrivals log d → Counts (log ++ (entry_of (grant d) r ∷ [])) (arrivals log) (update (grants log) d (suc (arrivals log d))) (marks log) (turns log)
  counts_grant d e same = record {
    arrivals_are = λ c. more_yes log (grant d) r e (is_arrival c);
    grants_are = λ c. more_yes log (grant d) r e (is_grant c) ∙ by_cases (eqb c d) (λ q. rw q (ap suc (rw (eqb-true c d q) same))) (λ q. rw q);
    marks_are = λ c. ap (ltb 0) (more_yes log (grant d) r e (is_withdrawal c));
    turns_are = λ w. ap is_odd (more_yes log (grant d) r e (is_turn w));
  }

  pub counts_arrive : (d : ℕ) → is_accepted r ≡ true → Counts (log ++ (entry_of (arrive d) r ∷ [])) (update (arrivals log) d (suc (arrivals log d))) (grants log) (marks log) (turns log)
  counts_arrive d e = record {
    arrivals_are = λ c. more_yes log (arrive d) r e (is_arrival c) ∙ by_cases (eqb c d) (λ q. rw q (ap suc (rw (eqb-true c d q)))) (λ q. rw q);
    grants_are = λ c. more_yes log (arrive d) r e (is_grant c);
    marks_are = λ c. ap (ltb 0) (more_yes log (arrive d) r e (is_withdrawal c));
    turns_are = λ w. ap is_odd (more_yes log (arrive d) r e (is_turn w));
  }

  pub counts_withdraw : (d : ℕ) → is_accepted r ≡ true → Counts (log ++ (entry_of (withdraw d) r ∷ [])) (arrivals log) (grants log) (mark (marks log) d) (turns log)
  counts_withdraw d e = record {
    arrivals_are = λ c. more_yes log (withdraw d) r e (is_arrival c);
    grants_are = λ c. more_yes log (withdraw d) r e (is_grant c);
    marks_are = λ c. ap (ltb 0) (more_yes log (withdraw d) r e (is_withdrawal c)) ∙ by_cases (eqb c d) (λ q. rw q (lt-ltb 0 (suc (accepted_calls (is_withdrawal c) log)) (omega arith))) (λ q. rw q);
    turns_are = λ w. ap is_odd (more_yes log (withdraw d) r e (is_turn w));
  }

  pub counts_turns : (c : Call) (ws : List ℕ) → Names c ws → is_accepted r ≡ true → Counts (log ++ (entry_of c r ∷ [])) (arrivals log) (grants log) (marks log) (flip_all (turns log) ws)
  counts_turns c ws n e = record {
    arrivals_are = λ d. more_yes log c r e (is_arrival d) ∙ rw (n.no_arrival d);
    grants_are = λ d. more_yes log c r e (is_grant d) ∙ rw (n.no_grant d);
    marks_are = λ d. ap (ltb 0) (more_yes log c r e (is_withdrawal d)) ∙ rw (n.no_withdrawal d) refl;
    turns_are = λ v. ap is_odd (more_yes log c r e (is_turn v)) ∙ rw (n.named v) (by_cases (is_in v ws) (λ q. rw q (is_odd-suc (accepted_calls (is_turn v) log))) (λ q. rw q));
  }

module _ (F : FieldPlan) where
  abbrev pub GoodLog : List Entry → Type 0
  GoodLog log = Good F (arrivals log) (grants log) (marks log) (turns log)

  good_counts : (log : List Entry) (p e : ℕ → ℕ) (x t : ℕ → Bool) → Counts log p e x t → Good F p e x t → GoodLog log
  good_counts log p e x t c g =
      subst (λ (y : ℕ → ℕ). Good F y (grants log) (marks log) (turns log)) (sym (fun_ext c.arrivals_are))
      (subst (λ (y : ℕ → ℕ). Good F p y (marks log) (turns log)) (sym (fun_ext c.grants_are))
      (subst (λ (y : ℕ → Bool). Good F p e y (turns log)) (sym (fun_ext c.marks_are))
      (subst (λ (y : ℕ → Bool). Good F p e x y) (sym (fun_ext c.turns_are)) g)))

  pub good_empty : AcceptedPlan F → GoodLog []
  unfolding accepted_calls
  good_empty a = good_start F a

  -- a drone that is not under way has as many grants as arrivals
  pub idle-same : (log : List Entry) → GoodLog log → (d : ℕ) → ltb (arrivals log d) (grants log d) ≡ false → grants log d ≡ arrivals log d
  idle-same log g d e = omega (arith, g.running.behind d, ltb-false (arrivals log d) (grants log d) e)

  module _ (plan : AcceptedPlan F) where
    pub good_more : (log : List Entry) → GoodLog log → (c : Call) → GoodLog (log ++ (entry_of c (reply_by F log c) ∷ []))
    good_more log g c = by_cases (is_accepted (reply_by F log c)) (yes' c) (λ e. good_counts _ _ _ _ _ (counts_refused log (reply_by F log c) c e) g)
      where
        turns' : (c : Call) (ws : List ℕ) → Names c ws → reply_by F log c ≡ reply_by F log (turn_all ws) → is_accepted (reply_by F log c) ≡ true → GoodLog (log ++ (entry_of c (reply_by F log c) ∷ []))
        turns' c ws n s e = let q = group_passed F (status_by log) (good_waits F _ _ _ _ g) ws (ap is_accepted (sym s) ∙ e) in good_counts _ _ _ _ _ (counts_turns log _ c ws n e) (good_turns F _ _ _ _ g ws q.1.0 q.1.1)

        yes' : (c : Call) → is_accepted (reply_by F log c) ≡ true → GoodLog (log ++ (entry_of c (reply_by F log c) ∷ []))
        yes' (grant d) e = let q : MayGo F (status_by log) d = grant_passed F (status_by log) d e in good_counts _ _ _ _ _ (counts_grant log _ d e (idle-same log g d q.waiting.idle)) (good_grant F _ _ _ _ g d q)
        yes' (arrive d) e = good_counts _ _ _ _ _ (counts_arrive log _ d e) (good_arrive F _ _ _ _ g d (arrive_passed F (status_by log) d e))
        yes' (withdraw d) e = good_counts _ _ _ _ _ (counts_withdraw log _ d e) (good_withdraw F plan _ _ _ _ g d)
        yes' (turn w) e = turns' (turn w) (w ∷ []) (names_one w) (one_reply F (status_by log) w) e
        yes' (turn_all ws) e = turns' (turn_all ws) ws (names_list ws) refl e

    pub good_calls : (cs : List Call) (log : List Entry) → GoodLog log → GoodLog (log_from F log cs)
    unfolding log_from
    good_calls [] log g = g
    good_calls (c ∷ cs) log g = good_calls cs (log ++ (entry_of c (reply_by F log c) ∷ [])) (good_more log g c)
