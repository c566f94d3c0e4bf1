-- The first two refusals by the ways through their code, and what a call then knows: that a table is too small, that the tables are not sound, or that they can be used. Assumes nothing.
use mathlib.Core.Path.{◌≡◌, refl, sym, ◌∙◌, subst}
use mathlib.Core.Bool.{Bool, true, false, cond}
use Rattle.std.specs.Prelude.{⊤, Result, Ok, Err}
use Rattle.tables.specs.Limits.{Limits}
use Rattle.tables.specs.Tables.{Tables, full_size}
use Rattle.sound.specs.Sound.{sound}
use Rattle.call_log.specs.CallLog.{Call, refused}
use Rattle.call_log.specs.Calls.{step, Answered, cost_refused, cost_reply, rounds_refused, rounds_reply}
use Rattle.call_log.specs.Claims.{Usable}
use Rattle.call_log.proofs.Steps.{refusal, step_41, step_40, cost_41, cost_40}
use Rattle.flat.specs.declared.replies.TablesFault.{TablesFault}
use Rattle.flat.specs.declared.replies.TablesFault.TheVariants.{TooSmall, NotSound}
use Rattle.flat.specs.Checking.{tables_check_of}
use Rattle.flat.specs.Replies.{fault_number}
use Rattle.flat.proofs.Answers.{answered}

module _ (L : Limits) (t : Tables) where
  -- ---- the check's returns

  pub too_small : full_size L t ≡ false → Err TooSmall ≡ tables_check_of L t
  unfolding tables_check_of
  too_small f = rw f refl

  module _ (f : full_size L t ≡ true) where
    pub not_sound : sound L t ≡ false → Err NotSound ≡ tables_check_of L t
    unfolding tables_check_of
    not_sound s = rw (f, s) refl

    pub usable_now : sound L t ≡ true → Ok tt ≡ tables_check_of L t
    unfolding tables_check_of
    usable_now s = rw (f, s) refl

  -- ---- what the check's answer says

  abbrev pub FaultSaid : TablesFault → Type 0
  FaultSaid TooSmall = full_size L t ≡ false
  FaultSaid NotSound = (full_size L t ≡ true) × (sound L t ≡ false)

  abbrev CheckSaid : Result ⊤ TablesFault → Type 0
  CheckSaid (Ok usable) = Usable L t
  CheckSaid (Err fault) = FaultSaid fault

  check_said : CheckSaid (tables_check_of L t)
  unfolding tables_check_of
  check_said = go (full_size L t) (sound L t) refl refl
    where
      go : (f s : Bool) → full_size L t ≡ f → sound L t ≡ s → CheckSaid (cond f (cond s (Ok tt) (Err NotSound)) (Err TooSmall))
      go true true f s = (f, s)
      go true false f s = (f, s)
      go false s f _ = f

  module _ (r : Result ⊤ TablesFault) (is-r : r ≡ tables_check_of L t) where
    pub says_usable : {x : ⊤} → r ≡ Ok x → Usable L t
    says_usable e = subst CheckSaid (sym is-r ∙ e) check_said

    pub says_fault : {fault : TablesFault} → r ≡ Err fault → FaultSaid fault
    says_fault e = subst CheckSaid (sym is-r ∙ e) check_said

  -- ---- the calls that are refused by it

  step_fault : (fault : TablesFault) → FaultSaid fault → (c : Call) → step L t c ≡ refusal t (refused (fault_number fault))
  step_fault TooSmall s c = step_41 L t s c
  step_fault NotSound (f, s) c = step_40 L t f s c

  pub refused_faulty : (fault : TablesFault) → FaultSaid fault → (c : Call) → Answered (step L) t c (refused (fault_number fault)) t
  refused_faulty fault s c = answered (step L) t c (refused (fault_number fault)) t (step_fault fault s c)

  pub cost_faulty : (fault : TablesFault) → FaultSaid fault → cost_refused (fault_number fault) ≡ cost_reply L t
  cost_faulty TooSmall s = sym (cost_41 L t s)
  cost_faulty NotSound (f, s) = sym (cost_40 L t f s)

  pub rounds_faulty : (fault : TablesFault) → FaultSaid fault → rounds_refused (fault_number fault) ≡ rounds_reply L t
  unfolding rounds_reply
  rounds_faulty TooSmall s = rw s refl
  rounds_faulty NotSound (f, s) = rw (f, s) refl
