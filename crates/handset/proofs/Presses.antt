-- A press is a list of calls, so demand 3 holds of any list of presses and calls. Assumes nothing.
use mathlib.Core.Path.{◌≡◌, refl, sym, ap, ◌∙◌, subst}
use mathlib.Core.Bool.{true, false, cond}
use mathlib.Core.List.{List, [], ◌∷◌, ◌++◌}
use Prim.Native.Nat.{ℕ, zero, suc, ◌^◌}
use lib.ListN.{length, drop}
use lib.Seq.{drop-append_seam}
use Rattle.below.specs.Below.{pick}
use Rattle.below.proofs.Sum.{sum_ext}
use Rattle.below.proofs.Tests.{by_cases}
use Rattle.tables.specs.Limits.{Limits}
use Rattle.tables.specs.Tables.{PlanLists, Tables, full_size}
use Rattle.sound.specs.Sound.{sound}
use Rattle.plan.specs.Field.{FieldPlan, plan_of}
use Rattle.call_log.specs.CallLog.{Call, grant, arrive, Reply, is_accepted, reply_number, Entry, entry_of, reply_by, log_from, log_of}
use Rattle.call_log.specs.Calls.{Answer, step, grant_step, arrive_step, recorded, tables_after, AsRead}
use Rattle.call_log.specs.Claims.{Usable}
use Rattle.call_log.specs.Demand.{Found}
use Rattle.call_log.proofs.Steps.{step_41, step_40}
use Rattle.call_log.proofs.Meaning.{log_joins}
use Rattle.call_log.proofs.Whole.{ran, demand3, stays_full, stays_sound}
use Rattle.accepted.specs.TextPlan.{text_plan}
use Rattle.accepted.proofs.TextFound.{demand3_of_texts, left as left-as-read}
use Rattle.handset.specs.Press.{granted, press_refused, after_grants, bits_below, grant_all_step, after_arrival, press_step}
use Rattle.handset.specs.Claims.{grants_below, press_calls, PressIsCalls, Action, pressed, ActionSeen, reply_seen, press_seen, Performed, none, next_call, next_press, calls_by, bits_by, seen_by, all_calls_by, all_seen_by, FoundOfActions, Demand3OfPresses, Demand3OfPressesOn}
use Rattle.std.specs.Prelude.{Option, Some, None}

after_both : (program : Tables → Call → Answer) (xs ys : List Call) (t : Tables) → tables_after program t (xs ++ ys) ≡ tables_after program (tables_after program t xs) ys
unfolding tables_after
after_both program [] ys t = refl
after_both program (c ∷ xs) ys t = after_both program xs ys (program t c).tables

-- tables that every call leaves as they were
pub unchanged : (L : Limits) (t : Tables) → ((c : Call) → (step L t c).tables ≡ t) → (cs : List Call) → tables_after (step L) t cs ≡ t
unfolding tables_after
unchanged L t h [] = refl
unchanged L t h (c ∷ cs) = ap (λ (z : Tables). tables_after (step L) z cs) (h c) ∙ unchanged L t h cs

-- such are those that are not usable
pub leaves_41 : (L : Limits) (t : Tables) → full_size L t ≡ false → (c : Call) → (step L t c).tables ≡ t
leaves_41 L t f c = ap (λ (a : Answer). a.tables) (step_41 L t f c)

pub leaves_40 : (L : Limits) (t : Tables) → full_size L t ≡ true → sound L t ≡ false → (c : Call) → (step L t c).tables ≡ t
leaves_40 L t f s c = ap (λ (a : Answer). a.tables) (step_40 L t f s c)

module _ (L : Limits) where
  grants_are_calls : (t : Tables) (n : ℕ) → after_grants L t n ≡ tables_after (step L) t (grants_below n)
  unfolding after_grants tables_after grants_below
  grants_are_calls t zero = refl
  grants_are_calls t (suc n) = ap (λ (z : Tables). (step L z (grant n)).tables) (grants_are_calls t n) ∙ sym (after_both (step L) (grants_below n) (grant n ∷ []) t)

  pub grants_unchanged : (t : Tables) → ((c : Call) → (step L t c).tables ≡ t) → (n : ℕ) → after_grants L t n ≡ t
  grants_unchanged t h n = grants_are_calls t n ∙ unchanged L t h (grants_below n)

  pub press_is_calls : PressIsCalls L
  unfolding press_step after_arrival grant_all_step tables_after
  press_is_calls t None = grants_are_calls t L.drones
  press_is_calls t (Some d) = by_cases (is_accepted (arrive_step L t d).reply)
      (λ e. rw e (grants_are_calls (arrive_step L t d).tables L.drones))
      (λ e. rw e refl)

-- ---- what the pilots saw, by the log

recorded_both : (program : Tables → Call → Answer) (xs ys : List Call) (t : Tables) → recorded program t (xs ++ ys) ≡ recorded program t xs ++ recorded program (tables_after program t xs) ys
unfolding recorded tables_after
recorded_both program [] ys t = refl
recorded_both program (c ∷ xs) ys t = ap (λ (es : List Entry). entry_of c (program t c).reply ∷ es) (recorded_both program xs ys (program t c).tables)

-- the last entries of two lists that are else the same
last_same : (es : List Entry) (a b : Entry) → es ++ a ∷ [] ≡ es ++ b ∷ [] → a ≡ b
last_same es a b h = let q : a ∷ [] ≡ b ∷ [] = sym (drop-append_seam es (a ∷ [])) ∙ ap (drop (length es)) h ∙ drop-append_seam es (b ∷ []) in cc q

-- tables on which every list of calls gets the replies of the log of F, and which stay usable
module _ (L : Limits) (F : FieldPlan) (t₀ : Tables) (logged : (cs : List Call) → recorded (step L) t₀ cs ≡ log_of F cs) (usable : (cs : List Call) → Usable L (tables_after (step L) t₀ cs)) where
  abbrev left : List Call → Tables
  left cs = tables_after (step L) t₀ cs

  reply_logged : (cs : List Call) (c : Call) → (step L (left cs) c).reply ≡ reply_by F (log_of F cs) c
  unfolding recorded log_from
  reply_logged cs c =
      let both : log_of F cs ++ entry_of c (step L (left cs) c).reply ∷ [] ≡ log_of F cs ++ entry_of c (reply_by F (log_of F cs) c) ∷ [] =
      ap (λ (es : List Entry). es ++ entry_of c (step L (left cs) c).reply ∷ []) (sym (logged cs)) ∙ sym (recorded_both (step L) cs (c ∷ []) t₀) ∙ logged (cs ++ c ∷ []) ∙ log_joins F cs (c ∷ []) [] in
      ap (λ (e : Entry). e.reply) (last_same (log_of F cs) _ _ both)

  bits_logged : (cs : List Call) (n : ℕ) → bits_below L (left cs) n ≡ bits_by L F cs n
  unfolding bits_below bits_by
  bits_logged cs n = sum_ext n _ _ (λ d l. ap (λ (r : Reply). pick (is_accepted r) (2 ^ d) 0)
      (ap (λ (z : Tables). (grant_step L z d).reply) (grants_are_calls L (left cs) d ∙ sym (after_both (step L) cs (grants_below d) t₀)) ∙ reply_logged (cs ++ grants_below d) (grant d)))

  grants_logged : (cs : List Call) → (grant_all_step L (left cs)).reply ≡ granted (bits_by L F cs L.drones)
  unfolding grant_all_step
  grants_logged cs = let (f, s) = usable cs in rw (f, s) (ap granted (bits_logged cs L.drones))

  after_call : (cs : List Call) (c : Call) → (step L (left cs) c).tables ≡ left (cs ++ c ∷ [])
  unfolding tables_after
  after_call cs c = sym (after_both (step L) cs (c ∷ []) t₀)

  press_logged : (cs : List Call) (report : Option ℕ) → press_seen (press_step L (left cs) report).reply ≡ seen_by L F cs (pressed report)
  unfolding press_step after_arrival
  press_logged cs None = ap press_seen (grants_logged cs)
  press_logged cs (Some d) = ap press_seen (by_cases (is_accepted (arrive_step L (left cs) d).reply)
      (λ e. let q : is_accepted (reply_by F (log_of F cs) (arrive d)) ≡ true = ap is_accepted (sym (reply_logged cs (arrive d))) ∙ e in
      rw (e, q) (ap (λ (z : Tables). (grant_all_step L z).reply) (after_call cs (arrive d)) ∙ grants_logged (cs ++ arrive d ∷ [])))
      (λ e. let q : is_accepted (reply_by F (log_of F cs) (arrive d)) ≡ false = ap is_accepted (sym (reply_logged cs (arrive d))) ∙ e in
      rw (e, q) (ap (λ (r : Reply). press_refused (reply_number r)) (reply_logged cs (arrive d)))))

  -- the calls of a press are those of the log
  calls_logged : (cs : List Call) (report : Option ℕ) → press_calls L (left cs) report ≡ calls_by L F cs (pressed report)
  calls_logged cs None = refl
  calls_logged cs (Some d) = ap (λ (r : Reply). arrive d ∷ cond (is_accepted r) (grants_below L.drones) []) (reply_logged cs (arrive d))

  press_leaves : (cs : List Call) (report : Option ℕ) → (press_step L (left cs) report).tables ≡ left (cs ++ calls_by L F cs (pressed report))
  press_leaves cs report = press_is_calls L (left cs) report ∙ ap (tables_after (step L) (left cs)) (calls_logged cs report) ∙ sym (after_both (step L) cs (calls_by L F cs (pressed report)) t₀)

  pub performed_logged : {t t' : Tables} {xs : List Action} {seen : List ActionSeen} → Performed L t xs seen t' → (cs : List Call) → t ≡ left cs → (seen ≡ all_seen_by L F cs xs) × (t' ≡ left (all_calls_by L F cs xs))
  unfolding all_seen_by all_calls_by
  performed_logged none cs e = (refl, e)
  performed_logged (next_call {c = c} {r = r} {xs = xs} a more) cs e =
      let (p, q) = performed_logged more (cs ++ c ∷ []) (a.left ∙ ap (λ (z : Tables). (step L z c).tables) e ∙ after_call cs c) in
      let s : r ≡ reply_by F (log_of F cs) c = a.replied ∙ ap (λ (z : Tables). (step L z c).reply) e ∙ reply_logged cs c in
      (λ i. reply_seen (s i) ∷ p i, q)
  performed_logged (next_press {report = report} {r = r} {xs = xs} a more) cs e =
      let (p, q) = performed_logged more (cs ++ calls_by L F cs (pressed report)) (a.left ∙ ap (λ (z : Tables). (press_step L z report).tables) e ∙ press_leaves cs report) in
      let s : press_seen r ≡ seen_by L F cs (pressed report) = ap press_seen (a.replied ∙ ap (λ (z : Tables). (press_step L z report).reply) e) ∙ press_logged cs report in
      (λ i. s i ∷ p i, q)

-- found after actions on tables t₁ as a reading leaves them, where demand 3 holds of every list of calls by the log of F
found_of_actions : (L : Limits) (F : FieldPlan) (lists : PlanLists) (t₁ : Tables) → AsRead L lists t₁ → ((cs : List Call) → Found F cs (recorded (step L) t₁ cs) (tables_after (step L) t₁ cs))
    → (actions : List Action) (seen : List ActionSeen) (t' : Tables) → Performed L t₁ actions seen t' → FoundOfActions L F actions seen t'
unfolding tables_after
found_of_actions L F lists t₁ read found actions seen t' performed =
    let (p, q) = performed_logged L F t₁ (λ cs. (found cs).replies) (λ cs. (stays_full L lists t₁ read cs, stays_sound L lists t₁ read cs)) performed [] refl in
    let calls : List Call = all_calls_by L F [] actions in
    record { as_logged = p; found = subst (λ (es : List Entry). Found F calls es t') (found calls).replies (subst (λ (z : Tables). Found F calls (recorded (step L) t₁ calls) z) (sym q) (found calls)) }

pub demand3_of_presses : Demand3OfPresses
demand3_of_presses L s text t r t₁ actions seen t' read e performed =
    found_of_actions L (text_plan L s text) t₁.plan t₁ (left-as-read L s text t r t₁ read e) (λ cs. demand3_of_texts L s text t r t₁ cs _ _ read e (ran L cs t₁)) actions seen t' performed

pub demand3_of_presses_on : Demand3OfPressesOn
demand3_of_presses_on L lists t actions seen t' read performed = found_of_actions L (plan_of lists) lists t read (λ cs. demand3 L lists t cs read) actions seen t' performed
