-- Answers carried from the tables of the columns to those of the records, and the refusal where too few records are lent.
--     answered-over, written_over, best-over, told_over    the same answer over equal tables
--     short_said, best_short    the tables of few records are too small
--     group-made, turn-made    a turn of a list and of one that flips its records where they lie, and nothing past the full size
-- Assumes nothing.
use mathlib.Core.Path.{◌≡◌, refl, sym, ap, ◌∙◌}
use mathlib.Core.Bool.{Bool, true, false, cond}
use mathlib.Core.List.{List, [], ◌∷◌}
use Prim.Native.Nat.{ℕ, ◌<◌}
use native.Mathlib.Omega.{arith}
use lib.ListN.{length, drop}
use lib.Seq.{drop-set-lt}
use Rattle.below.specs.Below.{is_in}
use Rattle.below.proofs.Tests.{by_cases}
use Rattle.below.proofs.Members.{in_head, in_tail}
use Rattle.std.specs.Prelude.{Result, Err}
use Rattle.tables.specs.Limits.{Limits}
use Rattle.tables.specs.Tables.{Tables, dependencies}
use Rattle.tables.specs.Entries.{flip_dependency}
use Rattle.tables.specs.declared.entries.Dependency.{Dependency}
use Rattle.tables.specs.declared.lent.Plan.{Plan}
use Rattle.call_log.specs.CallLog.{Call, turn, turn_all, Reply, is_accepted}
use Rattle.call_log.specs.Calls.{Answer, step, turn_step, turn_all_step, flip_flags, flipped, flipped_all, Answered}
use Rattle.call_log.specs.BestOrder.{best_order}
use Rattle.call_log.proofs.Checks.{is_accepted_lem}
use Rattle.call_log.proofs.Exactly.{group_exactly, turn_is_group}
use Rattle.flat.specs.Writing.{Writing, writes, buffer_left, PlanWritten}
use Rattle.flat.specs.declared.replies.TablesFault.{TablesFault}
use Rattle.flat.specs.declared.replies.TablesFault.TheVariants.{TooSmall}
use Rattle.flat.proofs.CheckLaws.{FaultSaid}
use Rattle.flat.proofs.Facts.{facts}
use Rattle.best_order.specs.Replies.{BestAnswered}
use Rattle.best_order.specs.declared.replies.BestOrder.{BestOrder}
use Rattle.best_order.specs.declared.replies.BestRefusal.{BestRefusal}
use Rattle.best_order.specs.declared.replies.BestRefusal.TheVariants as best
use Rattle.best_order.proofs.BestAnswers.{answered_as}
use Rattle.records.specs.Records.{record_at, flip_if, flip_all_if, flags_of, seen, records_in}
use Rattle.records.proofs.Flips.{seen-flip, field_stays, flags_flip, group_none}
use Rattle.records.proofs.Seen.{tables_short}

pub answered_over : {program : Tables → Call → Answer} {t u t' u' : Tables} {c : Call} {r : Reply} → t ≡ t' → u ≡ u' → Answered program t c r u → Answered program t' c r u'
answered_over {program} {t} {u} {t'} {u'} {c} e f a = record {
  replied = a.replied ∙ ap (λ (x : Tables). (program x c).reply) e;
  left = sym f ∙ a.left ∙ ap (λ (x : Tables). (program x c).tables) e;
}

module _ (L : Limits) where
  pub written_over : {t t' : Tables} {before after : List ℕ} {r : Writing} → t ≡ t' → PlanWritten L t before after r → PlanWritten L t' before after r
  written_over {t} {t'} {before} e w = record { replied = w.replied ∙ ap (λ (x : Tables). writes L x before) e; left = w.left ∙ ap (λ (x : Tables). buffer_left L x before) e }

  pub best-over : {t t' : Tables} {before after : List ℕ} {budget : ℕ} {r : Result BestOrder BestRefusal} → t ≡ t' → BestAnswered L t before budget r after → BestAnswered L t' before budget r after
  best-over {t} {t'} {before} {after} {budget} e b = record { replied = b.replied ∙ ap (λ (x : Tables). (best_order L x before budget).outcome) e; listed = b.listed ∙ ap (λ (x : Tables). (best_order L x before budget).list) e }

  -- what is told of tables is told of equal ones
  pub told_over : {A : Type 0} (told : Tables → A) {t t' : Tables} {r : A} → t ≡ t' → r ≡ told t → r ≡ told t'
  told_over told e a = a ∙ ap told e

  -- too few records make the tables too small
  pub short_said : (t : Tables) (ds : List Dependency) (fault : TablesFault) → t.flags ≡ flags_of (seen L ds) → (fault ≡ TooSmall) × (length ds < L.dependencies) → FaultSaid L t fault
  short_said t ds fault f (e, l) = rw e (tables_short L t ds f l)

  -- .. for the search too, whatever list is lent
  pub best_short : (t : Tables) (ds : List Dependency) (fault : TablesFault) (list : List ℕ) (budget : ℕ) → t.flags ≡ flags_of (seen L ds) → (fault ≡ TooSmall) × (length ds < L.dependencies) → BestAnswered L t list budget (Err (best.Tables fault)) list
  unfolding best_order
  best_short t ds fault list budget f (e, l) = rw e (answered_as (rw (tables_short L t ds f l) refl))

  -- ---- turn: the flipped records are the flipped tables

  module _ (plan : Plan) (visited drone_flags : List ℕ) where
    flip_tables : (ds : List Dependency) (w : ℕ) → records_in L plan visited drone_flags (flip_if true w ds) ≡ flipped (records_in L plan visited drone_flags ds) w
    flip_tables ds w = rw (
      seen-flip L ds w,
      field_stays (λ (d : Dependency). d.first_drone) (λ d. refl) (seen L ds) w,
      field_stays (λ (d : Dependency). d.first_stop) (λ d. refl) (seen L ds) w,
      field_stays (λ (d : Dependency). d.second_drone) (λ d. refl) (seen L ds) w,
      field_stays (λ (d : Dependency). d.second_stop) (λ d. refl) (seen L ds) w,
      flags_flip (seen L ds) w,
    ) refl

    group_tables : (ws : List ℕ) (ds : List Dependency) → records_in L plan visited drone_flags (flip_all_if true ws ds) ≡ flipped_all (records_in L plan visited drone_flags ds) ws
    unfolding flip_all_if flip_flags
    group_tables [] ds = refl
    group_tables (w ∷ ws) ds = group_tables ws (flip_if true w ds) ∙ ap (λ (t : Tables). flipped_all t ws) (flip_tables ds w)

    -- by the reply: flipped where it is accepted, as they were where it is not
    group_left : (b : Bool) (ws : List ℕ) (ds : List Dependency) → records_in L plan visited drone_flags (flip_all_if b ws ds) ≡ cond b (flipped_all (records_in L plan visited drone_flags ds) ws) (records_in L plan visited drone_flags ds)
    group_left true ws ds = group_tables ws ds
    group_left false ws ds = ap (λ (x : List Dependency). records_in L plan visited drone_flags x) (sym (group_none false ws ds refl))

    group_answered : (ds after : List Dependency) (ws : List ℕ) (r : Reply) → r ≡ (step L (records_in L plan visited drone_flags ds) (turn_all ws)).reply → after ≡ flip_all_if (is_accepted r) ws ds → Answered (step L) (records_in L plan visited drone_flags ds) (turn_all ws) r (records_in L plan visited drone_flags after)
    unfolding turn_all_step
    group_answered ds after ws r e f = record { replied = e; left = rw f (group_left (is_accepted r) ws ds ∙ rw e refl) }

  -- a turn that is accepted names dependencies below the full size
  group_within : (t : Tables) (ws : List ℕ) → is_accepted (turn_all_step L t ws).reply ≡ true → (w : ℕ) → is_in w ws ≡ true → w < L.dependencies
  group_within t ws a w i =
      let (u, (g, (all, acyclic))) = (group_exactly L t ws).0 (is_accepted_lem (turn_all_step L t ws).reply a) in
      let l : w < dependencies t.plan = (all w i).exists in omega (arith, l, (facts L t u).dependencies_few)

  -- so nothing past the full size changes
  group_past : (n : ℕ) (ws : List ℕ) (ds : List Dependency) → ((w : ℕ) → is_in w ws ≡ true → w < n) → drop n (flip_all_if true ws ds) ≡ drop n ds
  unfolding flip_all_if
  group_past n [] ds within = refl
  group_past n (w ∷ ws) ds within = group_past n ws (flip_if true w ds) (λ v i. within v (in_tail v w ws i)) ∙ drop-set-lt n ds w (flip_dependency (record_at ds w)) (within w (in_head w ws))

  group_rest : (t : Tables) (ds after : List Dependency) (ws : List ℕ) (r : Reply) → r ≡ (turn_all_step L t ws).reply → after ≡ flip_all_if (is_accepted r) ws ds → drop L.dependencies after ≡ drop L.dependencies ds
  group_rest t ds after ws r e f = by_cases (is_accepted r)
      (λ b. ap (drop L.dependencies) (f ∙ ap (λ (x : Bool). flip_all_if x ws ds) b) ∙ group_past L.dependencies ws ds (group_within t ws (sym (ap is_accepted e) ∙ b)))
      (λ b. ap (drop L.dependencies) (f ∙ sym (group_none (is_accepted r) ws ds b)))

  -- the whole contract of a turn, of a list and of one
  module _ (plan : Plan) (visited drone_flags : List ℕ) (ds after : List Dependency) where
    pub group_made : (ws : List ℕ) (r : Reply) → r ≡ (step L (records_in L plan visited drone_flags ds) (turn_all ws)).reply → after ≡ flip_all_if (is_accepted r) ws ds → Answered (step L) (records_in L plan visited drone_flags ds) (turn_all ws) r (records_in L plan visited drone_flags after) × (after ≡ flip_all_if (is_accepted r) ws ds) × (drop L.dependencies after ≡ drop L.dependencies ds)
    group_made ws r e f = (group_answered plan visited drone_flags ds after ws r e f, f, group_rest (records_in L plan visited drone_flags ds) ds after ws r e f)

    pub turn-made : (w : ℕ) (r : Reply) → r ≡ (step L (records_in L plan visited drone_flags ds) (turn w)).reply → after ≡ flip_if (is_accepted r) w ds → Answered (step L) (records_in L plan visited drone_flags ds) (turn w) r (records_in L plan visited drone_flags after) × (after ≡ flip_if (is_accepted r) w ds) × (drop L.dependencies after ≡ drop L.dependencies ds)
    unfolding flip_all_if
    turn-made w r e f =
        let same : turn_step L (records_in L plan visited drone_flags ds) w ≡ turn_all_step L (records_in L plan visited drone_flags ds) (w ∷ []) = turn_is_group L (records_in L plan visited drone_flags ds) w in
        let made = group_made (w ∷ []) r (e ∙ ap (λ (x : Answer). x.reply) same) f in
        (record { replied = e; left = made.0.left ∙ ap (λ (x : Answer). x.tables) (sym same) }, f, made.2)
