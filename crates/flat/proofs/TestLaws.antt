-- The tests of one dependency by the ways through their code, and what their result says. Assumes nothing.
use mathlib.Core.Path.{◌≡◌, refl, sym, ◌∙◌, subst}
use mathlib.Core.Bool.{Bool, true, false, cond}
use Prim.Native.Nat.{ℕ, ◌≤◌, ◌<◌}
use lib.Dec.{leb}
use borrow.Author.Tests.{le-leb, lt-leb}
use Rattle.std.specs.Prelude.{⊤, Result, Ok, Err}
use Rattle.below.specs.Below.{at}
use Rattle.tables.specs.Limits.{Limits}
use Rattle.tables.specs.Tables.{Tables, dependencies}
use Rattle.tables.specs.Flags.{turned_bit, fixed_bit}
use Rattle.plan.specs.Field.{FieldPlan, Status, plan_of, Dependency, in_force, of_withdrawn, fixed}
use Rattle.plan.specs.Status.{status_in, entered, dependency_now}
use Rattle.call_log.specs.Claims.{Usable}
use Rattle.sound.specs.Parts.{entered_by}
use Rattle.sound.proofs.Clauses.{sound-says}
use Rattle.call_log.proofs.SoundParts.{fixed_bit_lem}
use Rattle.flat.specs.declared.replies.TurnRefusal.{TurnRefusal}
use Rattle.flat.specs.declared.replies.TurnRefusal.TheVariants.{Tables as Faulty, NoDependency, Withdrawn, Fixed, FirstEntered, Cycle}
use Rattle.flat.specs.TurnTests.{first_of, test_of}

-- the first side of a dependency is entered, in the order now in force
first_entered : (F : FieldPlan) (s : Status) (x : Dependency) (b : Bool) → cond b (entered F s x.second x.second_stop) (entered F s x.first x.first_stop) ≡ entered F s (in_force b x).first (in_force b x).first_stop
first_entered F s x true = refl
first_entered F s x false = refl

-- what each result says of the four tests; the tests know of no faulty tables and of no cycle
abbrev pub Said : (none aside fixed entered : Bool) → Result ⊤ TurnRefusal → Type 0
Said a o b c (Err NoDependency) = a ≡ true
Said a o b c (Err Withdrawn) = (a ≡ false) × (o ≡ true)
Said a o b c (Err Fixed) = (a ≡ false) × (o ≡ false) × (b ≡ true)
Said a o b c (Err FirstEntered) = (a ≡ false) × (o ≡ false) × (b ≡ false) × (c ≡ true)
Said a o b c (Ok passes) = (a ≡ false) × (o ≡ false) × (b ≡ false) × (c ≡ false)
Said a o b c (Err (Faulty fault)) = ⊥
Said a o b c (Err Cycle) = ⊥

first_said : (a o b c : Bool) → Said a o b c (first_of a o b c)
first_said true o b c = refl
first_said false true b c = (refl, refl)
first_said false false true c = (refl, refl, refl)
first_said false false false true = (refl, refl, refl, refl)
first_said false false false false = (refl, refl, refl, refl)

module _ (L : Limits) (t : Tables) (u : Usable L t) (w : ℕ) where
  abbrev F : FieldPlan
  F = plan_of t.plan

  abbrev S : Status
  S = status_in t

  -- ---- the tests' returns

  pub test_30 : dependencies t.plan ≤ w → Err NoDependency ≡ test_of t w
  unfolding test_of
  test_30 a = rw (le-leb (dependencies t.plan) w a) refl

  -- o: a drone of the dependency is withdrawn
  pub test_35 : w < dependencies t.plan → (o : Bool) → o ≡ of_withdrawn F S w → o ≡ true → Err Withdrawn ≡ test_of t w
  unfolding test_of
  test_35 a o is-o e = rw (lt-leb (dependencies t.plan) w a, sym is-o ∙ e) refl

  module _ (a : w < dependencies t.plan) (o : Bool) (is-o : o ≡ of_withdrawn F S w) (others : o ≡ false) (f : Bool) (is_f : f ≡ fixed_bit (at t.flags w)) where
    is_fixed_lem : f ≡ fixed F w
    is_fixed_lem = is_f ∙ fixed_bit_lem L t (sound-says L t u.1) w a

    pub test_31 : f ≡ true → Err Fixed ≡ test_of t w
    unfolding test_of
    test_31 e = rw (lt-leb (dependencies t.plan) w a, sym is-o ∙ others, sym is_fixed_lem ∙ e) refl

    -- p and q: the planned first and second side are entered; x: the first side in force is
    module _ (free : f ≡ false) (p q b x : Bool)
        (is-p : p ≡ entered_by (at t.visited (at t.plan.first_drones w)) (at t.drone_flags (at t.plan.first_drones w)) (at t.plan.first_stops w))
        (is-q : q ≡ entered_by (at t.visited (at t.plan.second_drones w)) (at t.drone_flags (at t.plan.second_drones w)) (at t.plan.second_stops w))
        (is_b : b ≡ turned_bit (at t.flags w)) (is_x : x ≡ cond b q p) where
      x_is : x ≡ entered F S (dependency_now F S w).first (dependency_now F S w).first_stop
      unfolding entered_by
      x_is = is_x ∙ rw (is_b, is-p, is-q) (first_entered F S (F.dependency w) (turned_bit (at t.flags w)))

      pub test_32 : x ≡ true → Err FirstEntered ≡ test_of t w
      unfolding test_of
      test_32 e = rw (lt-leb (dependencies t.plan) w a, sym is-o ∙ others, sym is_fixed_lem ∙ free, sym x_is ∙ e) refl

      pub test_passes : x ≡ false → Ok tt ≡ test_of t w
      unfolding test_of
      test_passes e = rw (lt-leb (dependencies t.plan) w a, sym is-o ∙ others, sym is_fixed_lem ∙ free, sym x_is ∙ e) refl

-- ---- what the result says

abbrev pub SaidOf : Tables → ℕ → Result ⊤ TurnRefusal → Type 0
SaidOf t w r = Said (leb (dependencies t.plan) w) (of_withdrawn (plan_of t.plan) (status_in t) w) (fixed (plan_of t.plan) w) (entered (plan_of t.plan) (status_in t) (dependency_now (plan_of t.plan) (status_in t) w).first (dependency_now (plan_of t.plan) (status_in t) w).first_stop) r

pub test_said : (t : Tables) (w : ℕ) (r x : Result ⊤ TurnRefusal) → r ≡ test_of t w → r ≡ x → SaidOf t w x
unfolding test_of
test_said t w r x e h = subst (SaidOf t w) (sym e ∙ h) (first_said (leb (dependencies t.plan) w) (of_withdrawn (plan_of t.plan) (status_in t) w) (fixed (plan_of t.plan) w) (entered (plan_of t.plan) (status_in t) (dependency_now (plan_of t.plan) (status_in t) w).first (dependency_now (plan_of t.plan) (status_in t) w).first_stop))
