-- The search for the first zero of a row, as std's `position` says it. Assumes nothing.
use mathlib.Core.Path.{◌≡◌, refl, sym, ap, ◌∙◌}
use mathlib.Core.List.{List, [], ◌∷◌}
use mathlib.Core.Bool.{Bool, true, false, not, cond}
use Prim.Native.Nat.{ℕ, zero, suc, ◌+◌, ◌<◌}
use native.Mathlib.Omega.{arith}
use lib.Dec.{ltb}
use lib.ListN.{length}
use borrow.Author.Tests.{ltb-false}
use Rattle.std.specs.Prelude.{Some, None, unwrap_or}
use Rattle.std.specs.List.{position_or_len}
use Rattle.below.specs.Below.{at, First, first_below}
use Rattle.below.proofs.Search.{first_below_is}
use Rattle.below.proofs.Tests.{by_cases}

-- the first place at which an element passes is the first index below the length at which it does
pub place_first : (test : ℕ → Bool) (xs : List ℕ) → First (length xs) (λ i. test (at xs i)) (position_or_len test xs)
place_first test [] = record { within = omega arith; skipped = λ i l. absurd (omega arith); found = λ l. absurd (omega arith) }
place_first test (x ∷ xs) = here (test x) refl (place_first test xs)
  where
    here : (b : Bool) → test x ≡ b → First (length xs) (λ i. test (at xs i)) (position_or_len test xs) → First (length (x ∷ xs)) (λ i. test (at (x ∷ xs) i)) (cond (not b) (1 + position_or_len test xs) 0)
    here true e r = record { within = omega arith; skipped = λ i l. absurd (omega arith); found = λ l. e }
    here false e r = record { within = omega (arith, r.within); skipped = skip; found = λ l. let q : 1 + position_or_len test xs ≡ suc (position_or_len test xs) = omega arith in rw q (r.found (omega arith)) }
      where
        skip : (i : ℕ) → i < 1 + position_or_len test xs → test (at (x ∷ xs) i) ≡ false
        skip zero l = e
        skip (suc i) l = r.skipped i (omega arith)

-- .. also where the code answers the length if none passes
pub place_or : (test : ℕ → Bool) (xs : List ℕ) (n : ℕ) → length xs ≡ n → unwrap_or (cond (ltb (position_or_len test xs) (length xs)) (Some (position_or_len test xs)) None) n ≡ first_below n (λ i. test (at xs i))
place_or test xs n e =
    let r : First (length xs) (λ i. test (at xs i)) (position_or_len test xs) = place_first test xs in
    by_cases (ltb (position_or_len test xs) (length xs))
    (λ h. rw h (sym (first_below_is r) ∙ ap (λ (m : ℕ). first_below m (λ i. test (at xs i))) e))
    (λ h. let past : n ≡ position_or_len test xs = omega (arith, ltb-false _ _ h, r.within) in rw h (past ∙ sym (first_below_is r) ∙ ap (λ (m : ℕ). first_below m (λ i. test (at xs i))) e))
