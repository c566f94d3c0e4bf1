-- The tests of a list of dependencies as it is walked: by the ways through their code, and what their result says. Assumes nothing.
use mathlib.Core.Path.{◌≡◌, refl, sym, ◌∙◌, subst}
use mathlib.Core.List.{List, [], ◌∷◌}
use Prim.Native.Nat.{ℕ, zero, suc, ◌<◌}
use native.Mathlib.Omega.{arith}
use lib.ListN.{length}
use Rattle.std.specs.Prelude.{⊤, Result, Ok, Err}
use Rattle.below.specs.Below.{at}
use Rattle.tables.specs.Tables.{Tables}
use Rattle.plan.specs.Field.{plan_of}
use Rattle.plan.specs.Status.{status_in}
use Rattle.call_log.proofs.Steps.{PassedTo}
use Rattle.flat.specs.declared.replies.TurnRefusal.{TurnRefusal}
use Rattle.flat.specs.TurnTests.{test_of, or_else, walk_of}
use Rattle.flat.proofs.TestLaws.{SaidOf, test_said}

module _ (t : Tables) where
  -- ---- the walk's returns

  -- the first i dependencies of the list pass
  abbrev pub AllPass : List ℕ → ℕ → Type 0
  AllPass ws i = (j : ℕ) → j < i → test_of t (at ws j) ≡ Ok tt

  pub one_more : (ws : List ℕ) (i k : ℕ) → k ≡ suc i → AllPass ws i → test_of t (at ws i) ≡ Ok tt → AllPass ws k
  one_more ws i k q p h j l = last_or_before (λ (z : ℕ). test_of t (at ws z) ≡ Ok tt) i p h j (omega arith)
    where
      last_or_before : (C : ℕ → Type 0) (i : ℕ) → ((j : ℕ) → j < i → C j) → C i → (j : ℕ) → j < suc i → C j
      last_or_before C zero p h zero l = h
      last_or_before C zero p h (suc j) l = absurd (omega arith)
      last_or_before C (suc i) p h zero l = p 0 (omega arith)
      last_or_before C (suc i) p h (suc j) l = last_or_before (λ z. C (suc z)) i (λ z m. p (suc z) (omega arith)) h j (omega arith)

  -- the dependency at index i is refused
  pub walk_hit : (ws : List ℕ) (i : ℕ) → i < length ws → AllPass ws i → (refusal : TurnRefusal) → test_of t (at ws i) ≡ Err refusal → Err refusal ≡ walk_of t ws
  unfolding walk_of
  walk_hit [] i l p x e = absurd (omega arith)
  walk_hit (w ∷ ws) zero l p x e = rw e refl
  walk_hit (w ∷ ws) (suc i) l p x e = rw (p 0 (omega arith)) (walk_hit ws i (omega arith) (λ j m. p (suc j) (omega arith)) x e)

  pub walk_all : (ws : List ℕ) → AllPass ws (length ws) → Ok tt ≡ walk_of t ws
  unfolding walk_of
  walk_all [] p = refl
  walk_all (w ∷ ws) p = rw (p 0 (omega arith)) (walk_all ws (λ j m. p (suc j) (omega arith)))

  -- ---- what the result says

  abbrev Passed : List ℕ → ℕ → Type 0
  Passed ws i = PassedTo (plan_of t.plan) (status_in t) ws i

  -- all pass, or the first dependency of the list that does not pass is refused
  abbrev pub WalkSaid : List ℕ → Result ⊤ TurnRefusal → Type 0
  WalkSaid ws (Err refusal) = (i : ℕ) × (i < length ws) × Passed ws i × SaidOf t (at ws i) (Err refusal)
  WalkSaid ws (Ok passes) = Passed ws (length ws)

  passed_more : (w : ℕ) (ws : List ℕ) (i : ℕ) → SaidOf t w (Ok tt) → Passed ws i → Passed (w ∷ ws) (suc i)
  passed_more w ws i s p zero l = s
  passed_more w ws i s p (suc j) l = p j (omega arith)

  said_more : (w : ℕ) (ws : List ℕ) → SaidOf t w (Ok tt) → (x : Result ⊤ TurnRefusal) → WalkSaid ws x → WalkSaid (w ∷ ws) x
  said_more w ws s (Err refusal) (i, l, p, q) = (suc i, omega arith, passed_more w ws i s p, q)
  said_more w ws s (Ok passes) p = passed_more w ws (length ws) s p

  said_first : (w : ℕ) (ws : List ℕ) (x : Result ⊤ TurnRefusal) → test_of t w ≡ x → WalkSaid ws (walk_of t ws) → WalkSaid (w ∷ ws) (or_else x (walk_of t ws))
  said_first w ws (Err refusal) e h = (0, omega arith, λ j l. absurd (omega arith), test_said t w (test_of t w) (Err refusal) refl e)
  said_first w ws (Ok passes) e h = said_more w ws (test_said t w (test_of t w) (Ok passes) refl e) (walk_of t ws) h

  walk_says : (ws : List ℕ) → WalkSaid ws (walk_of t ws)
  unfolding walk_of
  walk_says [] = λ j l. absurd (omega arith)
  walk_says (w ∷ ws) = said_first w ws (test_of t w) refl (walk_says ws)

  pub walk_said : (ws : List ℕ) (r x : Result ⊤ TurnRefusal) → r ≡ walk_of t ws → r ≡ x → WalkSaid ws x
  walk_said ws r x e h = subst (WalkSaid ws) (sym e ∙ h) (walk_says ws)
