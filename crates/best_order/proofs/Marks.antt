-- The open dependencies are marked one after the other. Assumes nothing.
use mathlib.Core.Path.{◌≡◌, refl, sym, ap, ◌∙◌}
use mathlib.Core.Bool.{Bool, true, false}
use mathlib.Core.List.{List, [], ◌∷◌}
use Prim.Native.Nat.{ℕ, ◌+◌, ◌≤◌}
use native.Mathlib.Omega.{arith}
use lib.Dec.{leb}
use lib.ListN.{set}
use Rattle.std.specs.Prelude.{Result, Ok, Err, is_ok}
use Rattle.std.specs.Int.{from_bool}
use Rattle.flat.specs.declared.replies.TurnRefusal.{TurnRefusal}
use Rattle.below.specs.Below.{pick}
use Rattle.below.proofs.Count.{count_le, count_start, count_yes, count_no}
use Rattle.below.proofs.Fill.{fill_none, fill_store}
use Rattle.below.proofs.Tests.{by_cases}
use Rattle.tables.specs.Tables.{Tables}
use Rattle.plan.specs.Field.{FieldPlan, Status, plan_of, of_withdrawn, fixed}
use Rattle.plan.specs.Status.{status_in, entered, dependency_now}
use Rattle.flat.specs.TurnTests.{first_of, test_of}
use Rattle.call_log.specs.CallLog.{when, first_that_holds, is_accepted, refused}
use Rattle.call_log.specs.BestOrder.{opens}
use Rattle.best_order.specs.Opening.{pass_number, OpenMarked}

module _ (t : Tables) where
  abbrev F : FieldPlan
  F = plan_of t.plan

  abbrev S : Status
  S = status_in t

  -- the mark is the result of the tests
  pub pass_is : (w : ℕ) → pass_number (test_of t w) ≡ pick (opens F S w) 1 0
  unfolding test_of opens
  pass_is w = go (leb F.count w) (of_withdrawn F S w) (fixed F w) (entered F S (dependency_now F S w).first (dependency_now F S w).first_stop)
    where
      go : (a o b c : Bool) → pass_number (first_of a o b c) ≡ pick (is_accepted (first_that_holds (when a (refused 30) ∷ when o (refused 35) ∷ when b (refused 31) ∷ when c (refused 32) ∷ []))) 1 0
      go true o b c = refl
      go false true b c = refl
      go false false true c = refl
      go false false false true = refl
      go false false false false = refl

  pub marked-none : (z : List ℕ) → OpenMarked t 0 z z 0
  marked-none z = record { marks_are = fill_none _ z; count_is = sym (count_start (opens F S)) }

  pub marked_more : {w : ℕ} {z os : List ℕ} {k : ℕ} → OpenMarked t w z os k → {b : Bool} {x y : ℕ} → b ≡ is_ok (test_of t w) → x ≡ from_bool b → y ≡ from_bool b → OpenMarked t (w + 1) z (set os w x) (k + y)
  marked_more {w} {z} {os} {k} M {b} {x} {y} eb ex ey = record {
    marks_are = fill_store (λ v. pick (opens F S v) 1 0) z w os M.marks_are x is;
    count_is = by_cases (opens F S w)
        (λ o. let one : y ≡ 1 = ey ∙ sym ex ∙ is ∙ ap (λ (b : Bool). pick b 1 0) o in omega (arith, M.count_is, count_yes w (opens F S) o))
        (λ o. let none : y ≡ 0 = ey ∙ sym ex ∙ is ∙ ap (λ (b : Bool). pick b 1 0) o in omega (arith, M.count_is, count_no w (opens F S) o));
  }
    where
      number : (r : Result (Unit {0}) TurnRefusal) → from_bool (is_ok r) ≡ pass_number r
      number (Ok passes) = refl
      number (Err refusal) = refl

      is : x ≡ pick (opens F S w) 1 0
      is = ex ∙ ap from_bool eb ∙ number (test_of t w) ∙ pass_is w

  pub marked_few : {m : ℕ} {z os : List ℕ} {k : ℕ} → OpenMarked t m z os k → k ≤ m
  marked_few {m} {z} {os} {k} M = omega (arith, M.count_is, count_le m (opens F S))
