-- Grants asked one after another on usable tables: who is granted is known at the start, whatever the order. Assumes nothing.
use mathlib.Core.Path.{◌≡◌, refl, sym, ap, ◌∙◌, subst, fun_ext}
use mathlib.Core.Bool.{Bool, true, false, cond, not, ◌&&◌, ◌||◌, and-true}
use mathlib.Core.List.{List}
use Prim.Native.Nat.{ℕ, zero, suc, ◌<◌}
use native.Mathlib.Omega.{arith}
use lib.Dec.{eqb, ltb}
use lib.ListN.{length, length-set}
use borrow.Author.Tests.{eqb-true, eqb-false, ltb-true, ltb-false, lt-ltb, le-ltb, not-true}
use Rattle.below.specs.Below.{at, pick}
use Rattle.below.proofs.Tests.{by_cases, and_left, and_right, true_or_false}
use Rattle.below.proofs.Index.{at_set}
use Rattle.tables.specs.Limits.{Limits}
use Rattle.tables.specs.Tables.{PlanLists, Tables}
use Rattle.tables.specs.Flags.{turned_bit, under_way_bit, withdrawn_bit, set_under_way}
use Rattle.tables.proofs.FlagLaws.{set_under_way_lem, set_keeps_withdrawn}
use Rattle.plan.specs.Field.{plan_of}
use Rattle.plan.specs.Status.{status_in}
use Rattle.call_log.specs.CallLog.{grant, Reply, is_accepted, reply_in}
use Rattle.call_log.specs.Calls.{reply_of, granted, grant_step, step}
use Rattle.call_log.specs.Claims.{Usable}
use Rattle.call_log.proofs.Checks.{grant_passed}
use Rattle.call_log.proofs.Steps.{reply}
use Rattle.handset.specs.Press.{after_grants, reply_at}
use Rattle.handset.proofs.UsableParts.{drones-within, flags_room}
use Rattle.call_log.proofs.SoundKept.{stays_usable}

-- the reply to a grant of drone d by the drone's own flag byte x, and by who is withdrawn
abbrev by_byte : PlanLists → List ℕ → List ℕ → (ℕ → Bool) → ℕ → ℕ → Reply
by_byte p visited flags withdrawn d x = reply_in (plan_of p) (record { place = at visited; under_way = λ e. under_way_bit x; withdrawn = withdrawn; turned = λ w. turned_bit (at flags w) }) (grant d)

-- who is withdrawn
abbrev marks_in : Tables → ℕ → Bool
marks_in t e = withdrawn_bit (at t.drone_flags e)

by_byte_lem : (L : Limits) (t : Tables) → Usable L t → (d : ℕ) → reply_of L t (grant d) ≡ by_byte t.plan t.visited t.flags (marks_in t) d (at t.drone_flags d)
unfolding reply_of reply_in
by_byte_lem L t u d = rw (u.0, u.1) refl

-- a drone that is under way is not granted
by_byte_22 : (p : PlanLists) (v f : List ℕ) (m : ℕ → Bool) (d x : ℕ) → under_way_bit x ≡ true → is_accepted (by_byte p v f m d x) ≡ false
by_byte_22 p v f m d x e = by_cases (is_accepted (by_byte p v f m d x))
    (λ a. true_or_false e (grant_passed (plan_of p) (record { place = at v; under_way = λ e. under_way_bit x; withdrawn = m; turned = λ w. turned_bit (at f w) }) d a).waiting.idle)
    (λ a. a)

module _ (L : Limits) (t : Tables) (u : Usable L t) where
  -- the drone may go, as the tables stand at the start
  abbrev pub goes : ℕ → Bool
  goes d = is_accepted (reply_of L t (grant d))

  -- the tables after the drones that pass `asked` were asked, in some order
  pub record Asked (asked : ℕ → Bool) (t' : Tables) : Type 0 where
    pub plan_same : t'.plan ≡ t.plan
    pub visited-same : t'.visited ≡ t.visited
    pub flags_same : t'.flags ≡ t.flags
    pub length-same : length t'.drone_flags ≡ length t.drone_flags
    pub bytes_are : (d : ℕ) → at t'.drone_flags d ≡ pick (asked d && goes d) (set_under_way (at t.drone_flags d)) (at t.drone_flags d)
    pub usable : Usable L t'

  pub asked_none : Asked (λ d. false) t
  asked_none = record { plan_same = refl; visited-same = refl; flags_same = refl; length-same = refl; bytes_are = λ d. refl; usable = u }

  -- a drone is granted when it may go at the start and was not asked before
  pub asked_reply : (asked : ℕ → Bool) (t' : Tables) → Asked asked t' → (d : ℕ) → is_accepted (reply_of L t' (grant d)) ≡ goes d && not (asked d)
  asked_reply asked t' a d = ap (λ (r : Reply). is_accepted r) (by_byte_lem L t' a.usable d) ∙ ap is_accepted same ∙ go (asked d) (goes d) refl
    where
      x : ℕ
      x = at t.drone_flags d

      -- a grant changes no mark
      marks : marks_in t' ≡ marks_in t
      marks = fun_ext (λ e. ap withdrawn_bit (a.bytes_are e) ∙ kept (asked e && goes e) (at t.drone_flags e))
        where
          kept : (b : Bool) (y : ℕ) → withdrawn_bit (pick b (set_under_way y) y) ≡ withdrawn_bit y
          kept true y = set_keeps_withdrawn y
          kept false y = refl

      same : by_byte t'.plan t'.visited t'.flags (marks_in t') d (at t'.drone_flags d) ≡ by_byte t.plan t.visited t.flags (marks_in t) d (pick (asked d && goes d) (set_under_way (at t.drone_flags d)) (at t.drone_flags d))
      same = ap (λ (m : ℕ → Bool). by_byte t'.plan t'.visited t'.flags m d (at t'.drone_flags d)) marks ∙ rw (a.plan_same, a.visited-same, a.flags_same, a.bytes_are d) refl

      here : is_accepted (by_byte t.plan t.visited t.flags (marks_in t) d (at t.drone_flags d)) ≡ goes d
      here = sym (ap (λ (r : Reply). is_accepted r) (by_byte_lem L t u d))

      go : (b g : Bool) → goes d ≡ g → is_accepted (by_byte t.plan t.visited t.flags (marks_in t) d (pick (b && g) (set_under_way (at t.drone_flags d)) (at t.drone_flags d))) ≡ g && not b
      go true true e = by_byte_22 t.plan t.visited t.flags (marks_in t) d (set_under_way (at t.drone_flags d)) (set_under_way_lem (at t.drone_flags d))
      go true false e = here ∙ e
      go false true e = here ∙ e
      go false false e = here ∙ e

  -- one drone more
  pub asked_more : (asked : ℕ → Bool) (t' : Tables) → Asked asked t' → (n : ℕ) → Asked (λ d. eqb d n || asked d) (grant_step L t' n).tables
  unfolding grant_step
  asked_more asked t' a n = by_cases (is_accepted (reply_of L t' (grant n))) yes' no'
    where
      usable' : Usable L (step L t' (grant n)).tables
      usable' = stays_usable L t' a.usable (grant n)

      yes' : is_accepted (reply_of L t' (grant n)) ≡ true → Asked (λ d. eqb d n || asked d) (cond (is_accepted (reply_of L t' (grant n))) (granted t' n) t')
      yes' e =
          let both : goes n && not (asked n) ≡ true = sym (asked_reply asked t' a n) ∙ e in
          let g : goes n ≡ true = and_left (goes n) _ both in
          let byte : at t'.drone_flags n ≡ at t.drone_flags n = a.bytes_are n ∙ rw (not-true (asked n) (and_right (goes n) _ both)) refl in
          rw e (record {
            plan_same = a.plan_same;
            visited-same = a.visited-same;
            flags_same = a.flags_same;
            length-same = length-set t'.drone_flags n _ ∙ a.length-same;
            bytes_are = λ d. at_set t'.drone_flags n (set_under_way (at t'.drone_flags n)) (room e) d ∙ by_cases (eqb d n)
                (λ q. rw (q, eqb-true d n q, g, byte) refl)
                (λ q. rw q (a.bytes_are d));
            usable = rw e at usable';
          })
        where
          room : is_accepted (reply_of L t' (grant n)) ≡ true → n < length t'.drone_flags
          room e = omega (arith, (grant_passed (plan_of t'.plan) (status_in t') n (sym (ap (λ (r : Reply). is_accepted r) (reply L t' a.usable.0 a.usable.1 (grant n))) ∙ e)).waiting.exists, drones-within L t' a.usable, flags_room L t' a.usable)

      no' : is_accepted (reply_of L t' (grant n)) ≡ false → Asked (λ d. eqb d n || asked d) (cond (is_accepted (reply_of L t' (grant n))) (granted t' n) t')
      no' e =
          let none : goes n && not (asked n) ≡ false = sym (asked_reply asked t' a n) ∙ e in
          rw e (record {
            plan_same = a.plan_same;
            visited-same = a.visited-same;
            flags_same = a.flags_same;
            length-same = a.length-same;
            bytes_are = λ d. a.bytes_are d ∙ by_cases (eqb d n)
                (λ q. rw (q, eqb-true d n q, asked_both (asked n) (goes n) none) refl)
                (λ q. rw q refl);
            usable = a.usable;
          })
        where
          asked_both : (b g : Bool) → g && not b ≡ false → b && g ≡ g
          asked_both true g h = refl
          asked_both false true h = true_or_false refl h
          asked_both false false h = refl

  -- from drone 0 on
  pub asked_below : (n : ℕ) → Asked (λ d. ltb d n) (after_grants L t n)
  unfolding after_grants
  asked_below zero = subst (λ (f : ℕ → Bool). Asked f t) (fun_ext (λ d. sym (le-ltb d 0 (omega arith)))) asked_none
  asked_below (suc n) = subst (λ (f : ℕ → Bool). Asked f (grant_step L (after_grants L t n) n).tables) (fun_ext below) (asked_more (λ d. ltb d n) (after_grants L t n) (asked_below n) n)
    where
      below : (d : ℕ) → eqb d n || ltb d n ≡ ltb d (suc n)
      below d = by_cases (ltb d (suc n))
          (λ e. by_cases (eqb d n) (λ q. rw (q, e) refl) (λ q. rw (q, e, lt-ltb d n (omega (arith, eqb-false d n q, ltb-true d (suc n) e))) refl))
          (λ e. let m = ltb-false d (suc n) e in rw (e, le-ltb d n (omega arith)) (by_cases (eqb d n) (λ q. absurd (omega (arith, eqb-true d n q))) (λ q. rw q refl)))

  -- so a drone is newly granted exactly when it may go at the start
  pub newly_is : (d : ℕ) → is_accepted (reply_at L t d) ≡ goes d
  unfolding grant_step
  newly_is d = asked_reply (λ e. ltb e d) (after_grants L t d) (asked_below d) d ∙ rw (le-ltb d d (omega arith)) (and-true (goes d))
