-- What is turned in tables whose flags are flipped for a list that passes 36, 30, 35, 31 and 32. Assumes nothing.
use mathlib.Core.Path.{◌≡◌, refl, ap, ◌∙◌, fun_ext}
use mathlib.Core.Bool.{Bool, true}
use mathlib.Core.List.{List}
use Prim.Native.Nat.{ℕ, ◌<◌}
use native.Mathlib.Omega.{arith}
use lib.ListN.{length}
use Rattle.below.specs.Below.{at, is_in}
use Rattle.below.proofs.Tests.{by_cases}
use Rattle.tables.specs.Limits.{Limits}
use Rattle.tables.specs.Tables.{Tables, full_size}
use Rattle.tables.specs.Flags.{turned_bit}
use Rattle.tables.proofs.FlagLaws.{flip-turned}
use Rattle.tables.proofs.SizeLaws.{full_sizes}
use Rattle.plan.specs.Field.{FieldPlan, plan_of, flip_all, Status, after_turns}
use Rattle.plan.specs.Status.{status_in}
use Rattle.sound.specs.Sound.{sound}
use Rattle.sound.proofs.Clauses.{sound-says}
use Rattle.call_log.specs.CallLog.{is_group}
use Rattle.call_log.specs.Calls.{flipped_all}
use Rattle.call_log.specs.Claims.{AllTurnable}
use Rattle.call_log.proofs.Checks.{turnable}
use Rattle.call_log.proofs.SoundParts.{dependencies_in}
use Rattle.call_log.proofs.FlipLaws.{flips_at}
use Rattle.call_log.proofs.Steps.{PassedTo, passed_all}

module _ (L : Limits) (t : Tables) (full : full_size L t ≡ true) (now-sound : sound L t ≡ true) (ws : List ℕ) (group : is_group ws ≡ true) (passed : PassedTo (plan_of t.plan) (status_in t) ws (length ws)) where
  abbrev F : FieldPlan
  F = plan_of t.plan

  abbrev S : Status
  S = status_in t

  each : AllTurnable F S ws
  each w i = turnable F S (sound-says L t now-sound).waits_kept_lem (passed_all F S ws passed w i)

  pub flags_room : (w : ℕ) → is_in w ws ≡ true → w < length t.flags
  flags_room w i =
      let s = sound-says L t now-sound in
      omega (arith, (each w i).exists, dependencies_in L t.plan s.accepted s.dependencies_own, (full_sizes L t full).flags)

  -- what is turned in the flipped tables
  pub turned-after : (status_in (flipped_all t ws)).turned ≡ flip_all S.turned ws
  turned-after = fun_ext (λ v. ap turned_bit (flips_at ws t.flags group flags_room v) ∙ by_cases (is_in v ws) (λ i. rw i (flip-turned (at t.flags v))) (λ i. rw i refl))

  -- the tables then hold the status after the turn
  pub status_after : status_in (flipped_all t ws) ≡ after_turns S ws
  status_after = ap (λ (turned : ℕ → Bool). record { place = S.place; under_way = S.under_way; withdrawn = S.withdrawn; turned = turned }) turned-after
