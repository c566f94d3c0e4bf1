-- A withdrawal lets those go that waited for the drone alone, and nothing but it sets a mark. Assumes nothing.
use mathlib.Core.Path.{◌≡◌, refl, ap, ◌∙◌, subst, sym}
use mathlib.Core.Logic.{◌≢◌, ◌⊎◌, inl, inr}
use mathlib.Core.List.{List, [], ◌∷◌}
use mathlib.Core.Bool.{Bool, true, false, cond, ◌&&◌, ◌||◌}
use Prim.Native.Nat.{ℕ}
use lib.Dec.{ltb, eqb}
use lib.ListN.{length, set}
use lib.Seq.{set_out}
use borrow.Author.Tests.{eqb-true, ltb-true, ltb-false}
use Rattle.below.specs.Below.{at, update}
use Rattle.below.proofs.Tests.{by_cases}
use Rattle.below.proofs.Index.{at_set}
use Rattle.tables.specs.Limits.{Limits}
use Rattle.tables.specs.Tables.{Tables}
use Rattle.tables.specs.Flags.{withdrawn_bit, set_under_way, clear_under_way}
use Rattle.tables.proofs.FlagLaws.{set_keeps_withdrawn, clear_keeps_withdrawn}
use Rattle.plan.specs.Field.{FieldPlan, plan_of, mark, after_withdrawal, Status}
use Rattle.plan.specs.Status.{status_in, dependency_now}
use Rattle.plan.proofs.Withdrawals.{mark-here, mark_other}
use Rattle.call_log.specs.CallLog.{grant, arrive, withdraw, turn, turn_all, is_accepted}
use Rattle.call_log.specs.Calls.{marked, grant_step, arrive_step, withdraw_step, turn_step, turn_all_step, step, tables_after}
use Rattle.call_log.specs.Claims.{IntoNext, Met, Waiting, MayGo}
use Rattle.call_log.specs.Withdrawals.{WithdrawalFrees, ChangesOnlyMark, MarkedExactly, StaysWithdrawn, WithdrawalClaims}
use Rattle.call_log.proofs.Checks.{is_accepted_lem}
use Rattle.call_log.proofs.Exactly.{granted_exactly, withdrawn_exactly}
use Rattle.call_log.proofs.SoundKept.{stays_usable}
use Rattle.call_log.proofs.Withdrawals.{status_after}

-- ---- whoever waited for that drone alone may go

-- e may go once d is withdrawn
freed : (F : FieldPlan) (s : Status) (d e : ℕ) → e ≢ d → Waiting F s e → ((w : ℕ) → IntoNext F s e w → Met F s w ⊎ ((dependency_now F s w).first ≡ d)) → MayGo F (after_withdrawal s d) e
freed F s d e n x met = record {
  waiting = record { exists = x.exists; not_withdrawn = mark_other s.withdrawn d e n ∙ x.not_withdrawn; unfinished = x.unfinished; idle = x.idle };
  met = λ w h. go w (met w h);
}
  where
    stays : (j : ℕ) → s.withdrawn j ≡ true → mark s.withdrawn d j ≡ true
    stays j h = by_cases (eqb j d) (λ q. rw q refl) (λ q. rw q h)

    go : (w : ℕ) → Met F s w ⊎ ((dependency_now F s w).first ≡ d) → Met F (after_withdrawal s d) w
    go w (inl (inl gone)) = inl (stays (dependency_now F s w).first gone)
    go w (inl (inr left)) = inr left
    go w (inr q) = inl (ap (mark s.withdrawn d) q ∙ mark-here s.withdrawn d)

withdrawal_frees : (L : Limits) (t : Tables) → WithdrawalFrees L t
unfolding withdraw_step
withdrawal_frees L t d e a n x met =
    let (u, m) = (withdrawn_exactly L t d).0 a in
    let after = stays_usable L t u (withdraw d) in
    let may = subst (λ (s : Status). MayGo (plan_of t.plan) s e) (sym (status_after L t u d m.exists)) (freed (plan_of t.plan) (status_in t) d e n x met) in
    rw (ap is_accepted a) ((granted_exactly L (marked t d) e).1 (rw (ap is_accepted a) at after, may))

-- ---- it changes only the mark, and nothing else sets it

changes_only_mark : (L : Limits) (t : Tables) → ChangesOnlyMark L t
unfolding withdraw_step
changes_only_mark L t d a =
    let (u, m) = (withdrawn_exactly L t d).0 a in
    rw (ap is_accepted a) (status_after L t u d m.exists)

-- a change of one byte that keeps its mark keeps all marks
pub keeps_marks : (f : ℕ → ℕ) → ((y : ℕ) → withdrawn_bit (f y) ≡ withdrawn_bit y) → (l : List ℕ) (i d : ℕ) → withdrawn_bit (at (set l i (f (at l i))) d) ≡ withdrawn_bit (at l d)
keeps_marks f same l i d = by_cases (ltb i (length l))
    (λ h. ap withdrawn_bit (at_set l i (f (at l i)) (ltb-true i (length l) h) d) ∙ here (eqb d i) refl)
    (λ h. ap (λ (k : List ℕ). withdrawn_bit (at k d)) (set_out l i (f (at l i)) (ltb-false i (length l) h)))
  where
    here : (b : Bool) → eqb d i ≡ b → withdrawn_bit (update (at l) i (f (at l i)) d) ≡ withdrawn_bit (at l d)
    here true q = rw q (same (at l i) ∙ ap (λ (e : ℕ). withdrawn_bit (at l e)) (sym (eqb-true d i q)))
    here false q = rw q refl

or_nothing : (a b : Bool) → a ≡ (a || b && false)
or_nothing true b = refl
or_nothing false true = refl
or_nothing false false = refl

module _ (L : Limits) (t : Tables) where
  -- a call that keeps all marks, accepted or not
  other_call : (t' : Tables) (b : Bool) (d : ℕ) → withdrawn_bit (at t'.drone_flags d) ≡ withdrawn_bit (at t.drone_flags d) → withdrawn_bit (at (cond b t' t).drone_flags d) ≡ (withdrawn_bit (at t.drone_flags d) || b && false)
  other_call t' true d e = e ∙ or_nothing (withdrawn_bit (at t.drone_flags d)) true
  other_call t' false d e = or_nothing (withdrawn_bit (at t.drone_flags d)) false

  or_mark : (a b : Bool) → cond b true a ≡ (a || b)
  or_mark true true = refl
  or_mark true false = refl
  or_mark false true = refl
  or_mark false false = refl

  withdrawal : (e d : ℕ) → withdrawn_bit (at (withdraw_step L t e).tables.drone_flags d) ≡ (withdrawn_bit (at t.drone_flags d) || is_accepted (withdraw_step L t e).reply && eqb d e)
  unfolding withdraw_step
  withdrawal e d = by_cases (is_accepted (withdraw_step L t e).reply)
      (λ a. let (u, m) = (withdrawn_exactly L t e).0 (is_accepted_lem (withdraw_step L t e).reply a) in
      rw a (ap (λ (s : Status). s.withdrawn d) (status_after L t u e m.exists) ∙ or_mark (withdrawn_bit (at t.drone_flags d)) (eqb d e)))
      (λ a. rw a (or_nothing (withdrawn_bit (at t.drone_flags d)) true))

  marked_exactly : MarkedExactly L t
  unfolding grant_step arrive_step turn_step turn_all_step
  marked_exactly (grant e) d = other_call _ (is_accepted (grant_step L t e).reply) d (keeps_marks set_under_way set_keeps_withdrawn t.drone_flags e d)
  marked_exactly (arrive e) d = other_call _ (is_accepted (arrive_step L t e).reply) d (keeps_marks clear_under_way clear_keeps_withdrawn t.drone_flags e d)
  marked_exactly (withdraw e) d = withdrawal e d
  marked_exactly (turn w) d = other_call _ (is_accepted (turn_step L t w).reply) d refl
  marked_exactly (turn_all ws) d = other_call _ (is_accepted (turn_all_step L t ws).reply) d refl

stays_withdrawn : (L : Limits) (t : Tables) → StaysWithdrawn L t
unfolding tables_after
stays_withdrawn L t [] d h = h
stays_withdrawn L t (c ∷ cs) d h = stays_withdrawn L (step L t c).tables cs d (marked_exactly L t c d ∙ rw h refl)

pub withdrawal_claims : WithdrawalClaims
withdrawal_claims = record {
  withdrawal_frees = withdrawal_frees;
  changes_only_mark = changes_only_mark;
  marked_exactly = marked_exactly;
  stays_withdrawn = stays_withdrawn;
}
