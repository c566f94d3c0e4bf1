-- With legs of at most one a time that rises rises by the leg, so 12 is never said and the check is that of a plan without legs. Assumes nothing.
use mathlib.Core.Path.{◌≡◌, refl, sym, ◌∙◌}
use mathlib.Core.Logic.{◌≢◌}
use mathlib.Core.Bool.{Bool, true, false, cond}
use Prim.Native.Nat.{ℕ, ◌+◌, ◌-◌, ◌≤◌, ◌<◌}
use native.Mathlib.Omega.{arith}
use lib.Dec.{ltb, leb, eqb}
use borrow.Author.Tests.{leb-false, le-ltb, ltb-true}
use Rattle.below.proofs.Tests.{by_cases}
use Rattle.below.proofs.Search.{first_below_ext}
use Rattle.plan.specs.Visits.{Visits}
use Rattle.plan.specs.Check.{fault_at, first_fault}
use Rattle.plan.specs.Answers.{check_of}
use Rattle.plan.specs.Claims.{plain_fault, ShortLegs, PlainClaims}

module _ (S : Visits) where
  open S use {num, loc, time, n}

  pub plain_fault_lem : (leg : ℕ → ℕ) (v : ℕ) → leg v ≤ 1 → fault_at S leg v ≡ plain_fault S v
  unfolding fault_at
  plain_fault_lem leg v h = by_cases (eqb (num v) 0)
      (λ e. rw e refl)
      (λ e. by_cases (leb (time v) (time (v - 1)))
      (λ f. rw (e, f) refl)
      (λ f. rw (e, f, le-ltb (time v) (time (v - 1) + leg v) (omega (arith, leb-false (time v) (time (v - 1)) f))) refl))

  pub plain_never_12 : (leg : ℕ → ℕ) (v : ℕ) → leg v ≤ 1 → fault_at S leg v ≢ 12
  plain_never_12 leg v h q = go (eqb (num v) 0) (eqb (time v) 0) (leb (time v) (time (v - 1))) (eqb (loc v) (loc (v - 1))) (sym (plain_fault_lem leg v h) ∙ q)
    where
      go : (a b c d : Bool) → ◌≡◌ {A = ℕ} (cond a (cond b 0 7) (cond c 8 (cond d 9 0))) 12 → ⊥
      go true true c d z = omega arith
      go true false c d z = omega arith
      go false b true d z = omega arith
      go false b false true z = omega arith
      go false b false false z = omega arith

  module _ (leg leg' : ℕ → ℕ) (short : ShortLegs S leg) (short' : ShortLegs S leg') where
    fault_plain : (v : ℕ) → v < n → fault_at S leg v ≡ fault_at S leg' v
    fault_plain v l = plain_fault_lem leg v (short v l) ∙ sym (plain_fault_lem leg' v (short' v l))

    pub plain_first : first_fault S leg ≡ first_fault S leg'
    unfolding first_fault
    plain_first = first_below_ext n _ _ (λ v l. rw (fault_plain v l) refl)

    pub plain_check : check_of S leg ≡ check_of S leg'
    unfolding check_of
    plain_check = by_cases (ltb (first_fault S leg) n)
        (λ e. rw (← plain_first, e, fault_plain _ (ltb-true _ _ e)) refl)
        (λ e. rw (← plain_first, e) refl)

pub plain_claims : PlainClaims
plain_claims = record { plain_fault_lem = plain_fault_lem; plain_never_12 = plain_never_12; plain_check = plain_check }
