-- Demand 2: the replies of the calls on tables are those of the tables' status once 41 and 40 are passed; 34's test is a cycle of the graph. Assumes nothing.
use mathlib.Core.Path.{◌≡◌, refl, sym, ap, ◌∙◌}
use mathlib.Core.Logic.{◌↔◌}
use mathlib.Core.Bool.{Bool, true, false, cond}
use mathlib.Core.List.{List, [], ◌∷◌}
use Prim.Native.Nat.{ℕ, suc, ◌-◌, ◌<◌}
use native.Mathlib.Omega.{arith}
use lib.Dec.{ltb}
use lib.ListN.{length}
use borrow.Author.Tests.{le-ltb}
use Rattle.below.specs.Below.{pick, at, is_in}
use Rattle.below.proofs.Tests.{by_cases, true_or_false}
use Rattle.below.proofs.Every.{all_below-at}
use Rattle.below.proofs.Sum.{sum_ext, sum-zero}
use Rattle.tables.specs.Limits.{Limits}
use Rattle.tables.specs.Tables.{Tables, full_size}
use Rattle.precedence.specs.Graph.{Formed, unvisited, legs_ahead, legs_left}
use Rattle.precedence.proofs.Visits.{cyclic_iff, acyclic_iff}
use Rattle.plan.specs.Field.{FieldPlan, AcceptedPlan, plan_of, of_withdrawn, graph, fixed, Status, after_turns}
use Rattle.plan.specs.Status.{status_in, fixed_unturned, waits_kept}
use Rattle.plan.specs.Claims.{Unfixed}
use Rattle.plan.proofs.Turns.{flip_all_elim, graph-formed}
use Rattle.sound.specs.Sound.{sound}
use Rattle.call_log.specs.CallLog.{Call, grant, arrive, withdraw, turn, turn_all, Check, first_that_holds, walked_rows, Reply, accepted, refused, must_wait, reply_number, reply_in, Entry, status_by}
use Rattle.call_log.specs.Calls.{Answer, flip_flags, reply_of, grant_step, arrive_step, withdraw_step, turn_step, turn_all_step}
use Rattle.call_log.specs.Claims.{Usable, MayGo, MustWait, MayArrive, MayWithdraw, IsWithdrawn, Turnable, TurnedCycle, GrantedExactly, WaitsExactly, ArrivedExactly, WithdrawnExactly, GoneExactly, AsideExactly, NobodyWaits, UnvisitedOfOthers, LegsOfOthers, SecondAfterFirst, TurnedExactly, CycleExactly, Group, AllTurnable, GroupCycle, GroupExactly, GroupCycleExactly, NoGroupExactly, FirstRefused, WalkedExactly, TurnIsGroup, LogTurnIsGroup}
use Rattle.sound.proofs.Clauses.{sound-says}
use Rattle.call_log.proofs.SoundParts.{accepted_plan}
use Rattle.call_log.proofs.Groups.{group_iff}
use Rattle.call_log.proofs.Steps.{walk_at, reply}
use Rattle.call_log.proofs.Checks.{passes, turnable, cycle_row, group_stopped, one_stopped, differ, unfixed_is, grant-accepted, grant_waits, arrive-accepted, withdraw-accepted, grant-gone, arrive-gone, withdraw-gone, waits_for_others, turn_aside, group_accepted, group_cycle, no_group, one_reply, one_group, one_turnable, second_unentered}

-- none of the fixed ones is turned, as a test and as a law
pub unfixed_says : (F : FieldPlan) (s : Status) → fixed_unturned F s ≡ true → Unfixed F s
unfolding fixed_unturned
unfixed_says F s h w l u = by_cases (fixed F w)
    (λ f. true_or_false (all_below-at F.count _ h w l) (rw (u, f) refl))
    (λ f. f)

-- nor is one after a turn of dependencies that are not fixed
pub turned-formed : (F : FieldPlan) (s : Status) → AcceptedPlan F → fixed_unturned F s ≡ true → (ws : List ℕ) → AllTurnable F s ws → Formed (graph F (after_turns s ws))
turned-formed F s plan h ws m = graph-formed F plan (after_turns s ws) (flip_all_elim (λ v b. v < F.count → b ≡ true → fixed F v ≡ false) s.turned ws (λ w i b l u. unfixed_is F s (m w i).not_first (m w i).not_last) (unfixed_says F s h))

module _ (L : Limits) (t : Tables) where
  abbrev F : FieldPlan
  F = plan_of t.plan

  abbrev S : Status
  S = status_in t

  -- a reply that is neither 40 nor 41 is the status' own
  passed : (c : Call) (r : Reply) → reply_number r < 40 → reply_of L t c ≡ r → Usable L t × (reply_in F S c ≡ r)
  unfolding reply_of
  passed c r n e = go (full_size L t) (sound L t) refl refl e
    where
      go : (a b : Bool) → full_size L t ≡ a → sound L t ≡ b → cond a (cond b (reply_in F S c) (refused 40)) (refused 41) ≡ r → Usable L t × (reply_in F S c ≡ r)
      go true true f s e = ((f, s), e)
      go true false f s e = differ e (omega arith)
      go false b f s e = differ e (omega arith)

  exactly : (A : Type 0) (c : Call) (r : Reply) → reply_number r < 40 → (Usable L t → (reply_in F S c ≡ r) ↔ A) → (reply_of L t c ≡ r) ↔ (Usable L t × A)
  unfolding reply_of
  exactly A c r n iff = (
    λ e. let (u, q) = passed c r n e in (u, (iff u).0 q),
    λ (u, a). rw (u.0, u.1) ((iff u).1 a),
  )

  pub granted_exactly : GrantedExactly L t
  unfolding grant_step
  granted_exactly d = exactly (MayGo F S d) (grant d) accepted (omega arith) (λ u. grant-accepted F S d)

  pub waits_exactly : WaitsExactly L t
  unfolding grant_step
  waits_exactly d w = exactly (MustWait F S d w) (grant d) (must_wait w) (omega arith) (λ u. grant_waits F S d w)

  pub arrived_exactly : ArrivedExactly L t
  unfolding arrive_step
  arrived_exactly d = exactly (MayArrive F S d) (arrive d) accepted (omega arith) (λ u. arrive-accepted F S d)

  pub withdrawn_exactly : WithdrawnExactly L t
  unfolding withdraw_step
  withdrawn_exactly d = exactly (MayWithdraw F S d) (withdraw d) accepted (omega arith) (λ u. withdraw-accepted F S d)

  pub gone_exactly : (d : ℕ) → GoneExactly L t d
  unfolding grant_step arrive_step withdraw_step
  gone_exactly d = record {
    grant_25 = exactly (IsWithdrawn F S d) (grant d) (refused 25) (omega arith) (λ u. grant-gone F S d);
    arrive_25 = exactly (IsWithdrawn F S d) (arrive d) (refused 25) (omega arith) (λ u. arrive-gone F S d);
    withdraw_25 = exactly (IsWithdrawn F S d) (withdraw d) (refused 25) (omega arith) (λ u. withdraw-gone F S d);
  }

  pub aside_exactly : AsideExactly L t
  unfolding turn_step
  aside_exactly w = exactly ((w < F.count) × (of_withdrawn F S w ≡ true)) (turn w) (refused 35) (omega arith) (λ u. turn_aside F S w)

  pub nobody_waits : NobodyWaits L t
  nobody_waits d w e = waits_for_others F S d w ((waits_exactly d w).0 e).1

  waits : sound L t ≡ true → waits_kept F S ≡ true
  waits s = (sound-says L t s).waits_kept_lem

  pub second_after_first : SecondAfterFirst L t
  second_after_first s w l o u = second_unentered F S (waits s) w l o u

  formed : sound L t ≡ true → (ws : List ℕ) → AllTurnable F S ws → Formed (graph F (after_turns S ws))
  formed s = let x = sound-says L t s in turned-formed F S (accepted_plan L t.plan x.accepted x.dependencies_own) x.fixed_unturned_lem

  pub group_exactly : GroupExactly L t
  unfolding turn_all_step
  group_exactly ws = exactly (Group ws × (AllTurnable F S ws × (GroupCycle F S ws → ⊥))) (turn_all ws) accepted (omega arith) (λ u. (
    λ e. let (g, x) = (group_accepted F S (waits u.1) ws).0 e in (g, (x.0, (acyclic_iff (graph F (after_turns S ws)) (formed u.1 ws x.0)).0 x.1)),
    λ (g, x). (group_accepted F S (waits u.1) ws).1 (g, (x.0, (acyclic_iff (graph F (after_turns S ws)) (formed u.1 ws x.0)).1 x.1)),
  ))

  pub group_cycle_exactly : GroupCycleExactly L t
  unfolding turn_all_step
  group_cycle_exactly ws = exactly (Group ws × (AllTurnable F S ws × GroupCycle F S ws)) (turn_all ws) (refused 34) (omega arith) (λ u. (
    λ e. let (g, x) = (group_cycle F S (waits u.1) ws).0 e in (g, (x.0, (cyclic_iff (graph F (after_turns S ws)) (formed u.1 ws x.0)).0 x.1)),
    λ (g, x). (group_cycle F S (waits u.1) ws).1 (g, (x.0, (cyclic_iff (graph F (after_turns S ws)) (formed u.1 ws x.0)).1 x.1)),
  ))

  pub no_group_exactly : NoGroupExactly L t
  unfolding turn_all_step
  no_group_exactly ws = exactly (Group ws → ⊥) (turn_all ws) (refused 36) (omega arith) (λ u. no_group F S ws)

  -- the dependency at index i of the list does not pass, those before it do
  stopped : (ws : List ℕ) (n i : ℕ) → Group ws → i < length ws → ((j : ℕ) → j < i → Turnable F S (at ws j)) → ((rest : List Check) → first_that_holds (walked_rows F S (at ws i ∷ []) rest) ≡ refused n) → reply_in F S (turn_all ws) ≡ refused n
  unfolding reply_in
  stopped ws n i g l before stops = rw ((group_iff ws).1 g) (walk_at F S ws (cycle_row F S ws) (refused n) i l (λ j m. passes F S (before j m)) stops)

  pub walked_exactly : WalkedExactly L t
  unfolding turn_all_step turn_step reply_in
  walked_exactly ws n x y z = exactly (Group ws × FirstRefused L t ws n) (turn_all ws) (refused n) (omega arith) (λ u. (
    λ e.
        let (g, f) = group_stopped F S ws n x y z e in (
          g,
          record {
            index = f.index;
            index_in = f.index_in;
            refused_alone = reply L t u.0 u.1 (turn (at ws f.index)) ∙ f.stops (cycle_row F S (at ws f.index ∷ []));
            passed_before = λ j l. turnable F S (waits u.1) (f.passed_before j l);
          },
        ),
    λ (g, f). stopped ws n f.index g f.index_in f.passed_before (one_stopped F S (at ws f.index) n x z (sym (reply L t u.0 u.1 (turn (at ws f.index))) ∙ f.refused_alone)),
  ))

  -- ---- one turn is the list of length one

  pub turn_is_group : TurnIsGroup L t
  unfolding turn_step turn_all_step reply_of reply_in flip_flags is_in
  turn_is_group w = refl

  -- what is known of the list of length one, of the turn
  one_exactly : (A B : Type 0) (w : ℕ) (r : Reply) → ((turn_all_step L t (w ∷ [])).reply ≡ r) ↔ (Usable L t × (Group (w ∷ []) × (A × B))) → A ↔ Turnable F S w → ((turn_step L t w).reply ≡ r) ↔ (Usable L t × (Turnable F S w × B))
  one_exactly A B w r iff each = (
    λ e. let (u, x) = iff.0 (ap (λ (a : Answer). a.reply) (sym (turn_is_group w)) ∙ e) in (u, (each.0 x.1.0, x.1.1)),
    λ (u, x). ap (λ (a : Answer). a.reply) (turn_is_group w) ∙ iff.1 (u, (one_group F S w, (each.1 x.0, x.1))),
  )

  pub turned_exactly : TurnedExactly L t
  unfolding is_in
  turned_exactly w = one_exactly (AllTurnable F S (w ∷ [])) (TurnedCycle F S w → ⊥) w accepted (group_exactly (w ∷ [])) (one_turnable F S w)

  pub cycle_exactly : CycleExactly L t
  unfolding is_in
  cycle_exactly w = one_exactly (AllTurnable F S (w ∷ [])) (TurnedCycle F S w) w (refused 34) (group_cycle_exactly (w ∷ [])) (one_turnable F S w)

pub log_turn_is_group : (F : FieldPlan) (log : List Entry) (w : ℕ) → LogTurnIsGroup F log w
unfolding is_in
log_turn_is_group F log w = record { same_reply_lem = one_reply F (status_by log) w; same_named = λ v. refl }

pub unvisited_of_others : (F : FieldPlan) (s : Status) → UnvisitedOfOthers F s
unfolding unvisited
unvisited_of_others F s = sum_ext F.drones _ _ (λ d l. go (s.withdrawn d) d)
  where
    go : (b : Bool) (d : ℕ) → F.last d - cond b (F.last d) (s.place d) ≡ pick b 0 (F.last d - s.place d)
    go true d = omega arith
    go false d = refl

pub legs_of_others : (F : FieldPlan) (s : Status) → LegsOfOthers F s
unfolding legs_left
legs_of_others F s = sum_ext F.drones _ _ (λ d l. go (s.withdrawn d) d)
  where
    go : (b : Bool) (d : ℕ) → legs_ahead (graph F s) F.leg d (cond b (F.last d) (s.place d)) ≡ pick b 0 (legs_ahead (graph F s) F.leg d (s.place d))
    go true d = sum_ext (suc (F.last d)) (λ k. pick (ltb (F.last d) k) (F.leg d k) 0) (λ k. 0) (λ k l. ap (λ (b : Bool). pick b (F.leg d k) 0) (le-ltb (F.last d) k (omega arith))) ∙ sum-zero (suc (F.last d))
    go false d = refl
