-- An accepted withdrawal raises nobody's remaining rounds: the graph has fewer waits, and nobody stands further back. Assumes nothing.
use mathlib.Core.Path.{◌≡◌, ap, ◌∙◌, fun_ext, subst, sym}
use mathlib.Core.Bool.{Bool}
use Prim.Native.Nat.{ℕ, ◌≤◌, ◌<◌}
use native.Mathlib.Omega.{arith}
use lib.Dec.{eqb}
use borrow.Author.Tests.{leb-true, eqb-true}
use Rattle.below.specs.Below.{at, update}
use Rattle.below.proofs.Tests.{by_cases, and_left}
use Rattle.below.proofs.Every.{all_below-at}
use Rattle.below.proofs.Index.{at_set}
use Rattle.tables.specs.Limits.{Limits}
use Rattle.tables.specs.Tables.{Tables, drones}
use Rattle.tables.specs.Flags.{under_way_bit, withdrawn_bit, set_withdrawn}
use Rattle.tables.proofs.FlagLaws.{set_withdrawn_lem, withdrawn_under_way}
use Rattle.tables.proofs.SizeLaws.{full_sizes}
use Rattle.precedence.specs.Graph.{remaining}
use Rattle.precedence.proofs.Ahead.{remaining_ahead}
use Rattle.plan.specs.Field.{FieldPlan, plan_of, mark, after_withdrawal, graph, place_of, Status}
use Rattle.plan.specs.Status.{status_in, within_stops}
use Rattle.plan.proofs.Turns.{graph-formed}
use Rattle.plan.proofs.Withdrawals.{withdrawal_fewer, withdrawal_ahead}
use Rattle.sound.proofs.Clauses.{sound-says}
use Rattle.call_log.specs.CallLog.{is_accepted}
use Rattle.call_log.specs.Calls.{marked, withdraw_step}
use Rattle.call_log.specs.Claims.{Usable, WithdrawalRaisesNone}
use Rattle.call_log.proofs.SoundParts.{accepted_plan, drones_in}
use Rattle.call_log.proofs.Exactly.{unfixed_says, withdrawn_exactly}
use Rattle.call_log.proofs.Costs.{formed, acyclic, flies}

module _ (L : Limits) (t : Tables) (u : Usable L t) (d : ℕ) (l : d < drones t.plan) where
  abbrev F : FieldPlan
  F = plan_of t.plan

  abbrev S : Status
  S = status_in t

  byte_after : (c : ℕ) → at (marked t d).drone_flags c ≡ update (at t.drone_flags) d (set_withdrawn (at t.drone_flags d)) c
  byte_after = at_set t.drone_flags d (set_withdrawn (at t.drone_flags d)) (omega (arith, drones_in L t.plan (sound-says L t u.1).accepted, (full_sizes L t u.0).drone_flags))

  -- the marked tables hold the status after the withdrawal
  pub status_after : status_in (marked t d) ≡ after_withdrawal S d
  status_after = ap (λ (x : ℕ → Bool). with_marks (status_in (marked t d)).under_way x) (fun_ext marks_are) ∙ ap (λ (y : ℕ → Bool). with_marks y (mark S.withdrawn d)) (fun_ext under_ways_are)
    where
      with_marks : (ℕ → Bool) → (ℕ → Bool) → Status
      with_marks y x = record { place = at t.visited; under_way = y; withdrawn = x; turned = S.turned }

      marks_are : (c : ℕ) → withdrawn_bit (at (marked t d).drone_flags c) ≡ mark S.withdrawn d c
      marks_are c = ap withdrawn_bit (byte_after c) ∙ by_cases (eqb c d) (λ q. rw q (set_withdrawn_lem (at t.drone_flags d))) (λ q. rw q)

      under_ways_are : (c : ℕ) → under_way_bit (at (marked t d).drone_flags c) ≡ under_way_bit (at t.drone_flags c)
      under_ways_are c = ap under_way_bit (byte_after c) ∙ by_cases (eqb c d) (λ q. rw q (withdrawn_under_way (at t.drone_flags d) ∙ ap (λ (e : ℕ). under_way_bit (at t.drone_flags e)) (sym (eqb-true c d q)))) (λ q. rw q)

  within : (e : ℕ) → e < F.drones → S.place e ≤ F.last e
  unfolding within_stops
  within e h = leb-true _ _ (and_left _ _ (all_below-at F.drones _ (sound-says L t u.1).within e h))

  pub none_raised : (e : ℕ) → e < F.drones → remaining (graph F (status_in (marked t d))) F.leg (place_of F (status_in (marked t d))) e ≤ remaining (graph F S) F.leg (place_of F S) e
  none_raised e h = subst (λ (s : Status). remaining (graph F s) F.leg (place_of F s) e ≤ remaining (graph F S) F.leg (place_of F S) e) (sym status_after)
      (let x = sound-says L t u.1 in
      remaining_ahead (graph F S) (graph F (after_withdrawal S d)) (formed L t x) (withdrawal_fewer F S d) (graph-formed F (accepted_plan L t.plan x.accepted x.dependencies_own) (after_withdrawal S d) (unfixed_says F S x.fixed_unturned_lem)) (acyclic L t x) F.leg (place_of F S) (place_of F (after_withdrawal S d)) (flies L t x) (withdrawal_ahead F S d within) e h)

pub withdrawal_raises_none : (L : Limits) (t : Tables) → WithdrawalRaisesNone L t
unfolding withdraw_step
withdrawal_raises_none L t d e c h =
    let (u, m) = (withdrawn_exactly L t d).0 e in
    rw (ap is_accepted e) (none_raised L t u d m.exists c h)
