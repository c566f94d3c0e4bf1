-- Sound, clause by clause: the conjunction taken apart and put together again. Assumes nothing.
use mathlib.Core.Path.{◌≡◌, refl}
use mathlib.Core.Bool.{true, false, not}
use borrow.Author.Tests.{not-true}
use Rattle.below.proofs.Tests.{and_left, and_right}
use Rattle.tables.specs.Limits.{Limits}
use Rattle.tables.specs.Tables.{Tables}
use Rattle.precedence.specs.Graph.{cyclic}
use Rattle.plan.specs.Field.{plan_of, graph}
use Rattle.plan.specs.Status.{status_in, fixed_unturned, within_stops, waits_kept}
use Rattle.sound.specs.Sound.{plan_accepted_lem, dependencies_sound, plan_unused_lem, flags_sound, drone_flags_sound, progress_unused, sound}

-- the clauses of "sound"
pub record Sound (L : Limits) (t : Tables) : Type 0 where
  pub accepted : plan_accepted_lem L t.plan ≡ true
  pub dependencies_own : dependencies_sound L t.plan ≡ true
  pub flags_right : flags_sound L t ≡ true
  pub fixed_unturned_lem : fixed_unturned (plan_of t.plan) (status_in t) ≡ true
  pub no_cycle : cyclic (graph (plan_of t.plan) (status_in t)) ≡ false
  pub drone_flags : drone_flags_sound L t ≡ true
  pub within : within_stops (plan_of t.plan) (status_in t) ≡ true
  pub waits_kept_lem : waits_kept (plan_of t.plan) (status_in t) ≡ true
  pub plan_unused : plan_unused_lem L t.plan ≡ true
  pub progress_unused_lem : progress_unused L t ≡ true

module _ (L : Limits) (t : Tables) where
  pub sound-says : sound L t ≡ true → Sound L t
  unfolding sound
  sound-says h =
      let h₁ = and_right (plan_accepted_lem L t.plan) _ h in
      let h₂ = and_right (dependencies_sound L t.plan) _ h₁ in
      let h₃ = and_right (flags_sound L t) _ h₂ in
      let h₄ = and_right (fixed_unturned (plan_of t.plan) (status_in t)) _ h₃ in
      let h₅ = and_right (not (cyclic (graph (plan_of t.plan) (status_in t)))) _ h₄ in
      let h₆ = and_right (drone_flags_sound L t) _ h₅ in
      let h₇ = and_right (within_stops (plan_of t.plan) (status_in t)) _ h₆ in
      let h₈ = and_right (waits_kept (plan_of t.plan) (status_in t)) _ h₇ in
      record {
        accepted = and_left _ _ h;
        dependencies_own = and_left _ _ h₁;
        flags_right = and_left _ _ h₂;
        fixed_unturned_lem = and_left _ _ h₃;
        no_cycle = not-true (cyclic (graph (plan_of t.plan) (status_in t))) (and_left _ _ h₄);
        drone_flags = and_left _ _ h₅;
        within = and_left _ _ h₆;
        waits_kept_lem = and_left _ _ h₇;
        plan_unused = and_left _ _ h₈;
        progress_unused_lem = and_right (plan_unused_lem L t.plan) _ h₈;
      }

  pub says-sound : Sound L t → sound L t ≡ true
  unfolding sound
  says-sound s = rw (s.accepted, s.dependencies_own, s.flags_right, s.fixed_unturned_lem, s.no_cycle, s.drone_flags, s.within, s.waits_kept_lem, s.plan_unused, s.progress_unused_lem) refl
