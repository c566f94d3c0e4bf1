-- "As an accepted reading left them" as a test that computes, for flights. Assumes nothing.
use mathlib.Core.Path.{◌≡◌, refl, ◌∙◌}
use mathlib.Core.Bool.{Bool, true, cond, ◌&&◌}
use Prim.Native.Nat.{ℕ, ◌<◌}
use native.Mathlib.Omega.{arith}
use lib.Dec.{ltb, eqb}
use borrow.Author.Tests.{eqb-true, lt-ltb, le-ltb}
use Rattle.below.specs.Below.{at, all_below}
use Rattle.below.proofs.Tests.{and_left, and_right}
use Rattle.below.proofs.Every.{all_below-at}
use Rattle.tables.specs.Limits.{Limits}
use Rattle.tables.specs.Tables.{Tables, dependencies, full_size}
use Rattle.tables.specs.Flags.{fixed_flag}
use Rattle.plan.specs.Field.{plan_of, fixed}
use Rattle.sound.specs.Sound.{sound}
use Rattle.call_log.specs.Calls.{AsRead}
use Rattle.sound.proofs.Clauses.{sound-says}
use Rattle.call_log.proofs.SoundParts.{dependencies_in}

module _ (L : Limits) (t : Tables) where
  -- the flag byte that an accepted reading leaves
  abbrev flag_read : ℕ → ℕ
  flag_read w = cond (ltb w (dependencies t.plan)) (fixed_flag (fixed (plan_of t.plan) w)) 0

  unfoldable pub is_read : Bool
  is_read =
      full_size L t
      && (sound L t
      && (all_below L.drones (λ d. eqb (at t.visited d) 0)
      && (all_below L.drones (λ d. eqb (at t.drone_flags d) 0) && all_below L.dependencies (λ w. eqb (at t.flags w) (flag_read w)))))

  pub as_read : is_read ≡ true → AsRead L t.plan t
  unfolding is_read
  as_read h =
      let h₁ = and_right (full_size L t) _ h in
      let h₂ = and_right (sound L t) _ h₁ in
      let h₃ = and_right (all_below L.drones (λ d. eqb (at t.visited d) 0)) _ h₂ in
      let s = sound-says L t (and_left _ _ h₁) in
      let flag : (w : ℕ) → w < L.dependencies → at t.flags w ≡ flag_read w = λ w l. eqb-true _ _ (all_below-at L.dependencies _ (and_right (all_below L.drones (λ d. eqb (at t.drone_flags d) 0)) _ h₃) w l) in
      record {
        plan_read = refl;
        full = and_left _ _ h;
        plan_accepted = s.accepted;
        dependencies_own = s.dependencies_own;
        plan_unused = s.plan_unused;
        visited_zero = λ d l. eqb-true _ _ (all_below-at L.drones _ (and_left _ _ h₂) d l);
        drone_flags_zero = λ d l. eqb-true _ _ (all_below-at L.drones _ (and_left _ _ h₃) d l);
        flags_fixed = λ w l. flag w (omega (arith, dependencies_in L t.plan s.accepted s.dependencies_own)) ∙ rw (lt-ltb w (dependencies t.plan) l) refl;
        flags_zero = λ w k l. flag w l ∙ rw (le-ltb w (dependencies t.plan) k) refl;
      }

  pub sound_read : is_read ≡ true → sound L t ≡ true
  unfolding is_read
  sound_read h = and_left _ _ (and_right (full_size L t) _ h)
