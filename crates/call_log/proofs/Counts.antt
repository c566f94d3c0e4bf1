-- Counts of accepted calls, one entry more. Assumes nothing.
use mathlib.Core.Path.{◌≡◌, refl, ap}
use mathlib.Core.Bool.{Bool, true, false, not, ◌&&◌}
use mathlib.Core.List.{List, [], ◌∷◌, ◌++◌}
use Prim.Native.Nat.{ℕ, suc, ◌%◌}
use native.Mathlib.Omega.{arith}
use lib.Dec.{eqb}
use borrow.Author.Tests.{eqb-true, eqb-false, eq-eqb, ne_eqb}
use Rattle.below.proofs.Tests.{by_cases}
use Rattle.below.specs.Below.{pick}
use Rattle.call_log.specs.CallLog.{Call, Entry, is_accepted, accepted_calls, is_odd}

pub counted-more : (f : Call → Bool) (log : List Entry) (e : Entry) → accepted_calls f (log ++ (e ∷ [])) ≡ pick (is_accepted e.reply && f e.call) (suc (accepted_calls f log)) (accepted_calls f log)
unfolding accepted_calls
counted-more f [] e = refl
counted-more f (x ∷ xs) e = go (is_accepted x.reply && f x.call) (is_accepted e.reply && f e.call) (counted-more f xs e)
  where
    go : (b c : Bool) → accepted_calls f (xs ++ (e ∷ [])) ≡ pick c (suc (accepted_calls f xs)) (accepted_calls f xs) → pick b (suc (accepted_calls f (xs ++ (e ∷ [])))) (accepted_calls f (xs ++ (e ∷ []))) ≡ pick c (suc (pick b (suc (accepted_calls f xs)) (accepted_calls f xs))) (pick b (suc (accepted_calls f xs)) (accepted_calls f xs))
    go true true h = ap suc h
    go true false h = ap suc h
    go false true h = h
    go false false h = h

pub is_odd-suc : (n : ℕ) → is_odd (suc n) ≡ not (is_odd n)
is_odd-suc n = by_cases (eqb (n % 2) 1)
    (λ e. rw e (ne_eqb (suc n % 2) 1 (omega (arith, eqb-true (n % 2) 1 e))))
    (λ e. rw e (eq-eqb (suc n % 2) 1 (let ne : n % 2 ≡ 1 → ⊥ = eqb-false (n % 2) 1 e in omega arith)))
