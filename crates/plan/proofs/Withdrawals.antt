-- A withdrawal leaves the waits of the drone out and keeps every other, so the graph has fewer waits: no cycle comes, and nobody's rounds grow. Assumes nothing.
use mathlib.Core.Path.{◌≡◌, refl}
use mathlib.Core.Logic.{◌≢◌, ◌⊎◌, inl, inr}
use mathlib.Core.Bool.{Bool, true, false, ◌||◌}
use Prim.Native.Nat.{ℕ, ◌≤◌, ◌<◌}
use native.Mathlib.Omega.{arith}
use lib.Dec.{eqb}
use borrow.Author.Tests.{eq-eqb, ne_eqb}
use Rattle.below.proofs.Tests.{by_cases, true_or_false, or_left, or_right}
use Rattle.precedence.specs.Graph.{Fewer, Ahead}
use Rattle.plan.specs.Field.{FieldPlan, Status, mark, after_withdrawal, of_withdrawn, graph, place_of}
use Rattle.plan.specs.Claims.{WithdrawalRules}

-- who is withdrawn stays so, and the drone is
pub mark-here : (x : ℕ → Bool) (d : ℕ) → mark x d d ≡ true
mark-here x d = rw (eq-eqb d d refl) refl

pub mark_other : (x : ℕ → Bool) (d e : ℕ) → e ≢ d → mark x d e ≡ x e
mark_other x d e n = rw (ne_eqb e d n) refl

pub mark_stays : (x : ℕ → Bool) (d e : ℕ) → mark x d e ≡ false → x e ≡ false
mark_stays x d e h = by_cases (eqb e d) (λ q. true_or_false (rw q refl) h) (λ q. rw q at h)

either : (a b : Bool) → (a ≡ true) ⊎ (b ≡ true) → a || b ≡ true
either true b h = refl
either false b (inl e) = true_or_false e refl
either false b (inr e) = e

module _ (F : FieldPlan) (s : Status) (d : ℕ) where
  open F use {drones, last, count, dependency}

  -- no drone of the dependency is withdrawn after it, so none was before
  pub others_before : (w : ℕ) → of_withdrawn F (after_withdrawal s d) w ≡ false → of_withdrawn F s w ≡ false
  others_before w h =
      rw (mark_stays s.withdrawn d (dependency w).first (or_left _ _ h), mark_stays s.withdrawn d (dependency w).second (or_right (mark s.withdrawn d (dependency w).first) _ h)) refl

  pub withdrawal_rules : WithdrawalRules F s d
  withdrawal_rules = record {
    own_rules = λ w h. rw (either (mark s.withdrawn d (dependency w).first) (mark s.withdrawn d (dependency w).second) (marked w h)) refl;
    other_rules = λ w a b. rw (mark_other s.withdrawn d (dependency w).first a, mark_other s.withdrawn d (dependency w).second b) refl;
  }
    where
      marked : (w : ℕ) → ((dependency w).first ≡ d) ⊎ ((dependency w).second ≡ d) → (mark s.withdrawn d (dependency w).first ≡ true) ⊎ (mark s.withdrawn d (dependency w).second ≡ true)
      marked w (inl e) = inl (rw (eq-eqb (dependency w).first d e) refl)
      marked w (inr e) = inr (rw (eq-eqb (dependency w).second d e) refl)

  -- every wait is the one that it was, or counts for nothing
  pub withdrawal_fewer : Fewer (graph F s) (graph F (after_withdrawal s d))
  withdrawal_fewer = record {
    drones_same = refl;
    last_same = λ e. refl;
    waits_in = λ w l. by_cases (of_withdrawn F (after_withdrawal s d) w)
        (λ o. inl (rw o refl))
        (λ o. inr (w, l, rw (o, others_before w o) refl));
  }

  -- nobody counts as standing further back
  pub withdrawal_ahead : ((e : ℕ) → e < drones → s.place e ≤ last e) → Ahead drones (place_of F s) (place_of F (after_withdrawal s d))
  withdrawal_ahead within e l = by_cases (s.withdrawn e)
      (λ x. by_cases (eqb e d) (λ q. rw (x, q) (omega arith)) (λ q. rw (x, q) (omega arith)))
      (λ x. by_cases (eqb e d) (λ q. rw (x, q) (within e l)) (λ q. rw (x, q) (omega arith)))
