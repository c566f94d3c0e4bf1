-- Two pairs compared as one number each. Assumes nothing.
use mathlib.Core.Path.{◌≡◌, refl}
use mathlib.Core.Logic.{◌≢◌}
use Prim.Native.Nat.{ℕ, ◌+◌, ◌*◌, ◌<◌}
use native.Mathlib.Omega.{arith}
use lib.Dec.{ltb, eqb}
use borrow.Author.Tests.{ltb-true, ltb-false, eqb-true, eqb-false, lt-ltb, le-ltb}
use Rattle.below.specs.Below.{pair_before}
use Rattle.below.proofs.Tests.{by_cases, same_test}

module _ (v w x y : ℕ) where
  pub before_key : w < 65536 → y < 65536 → ltb (v * 65536 + w) (x * 65536 + y) ≡ pair_before v w x y
  unfolding pair_before
  before_key a b = by_cases (ltb v x)
      (λ h. rw (h, lt-ltb (v * 65536 + w) (x * 65536 + y) (omega (arith, ltb-true v x h))) refl)
      (λ h. by_cases (eqb v x)
      (λ e. rw (h, e) (same_test _ _
      (λ q. lt-ltb w y (omega (arith, eqb-true v x e, ltb-true (v * 65536 + w) (x * 65536 + y) q)))
      (λ q. lt-ltb (v * 65536 + w) (x * 65536 + y) (omega (arith, eqb-true v x e, ltb-true w y q)))))
      (λ e. let ne : v ≢ x = eqb-false v x e in rw (h, e, le-ltb (v * 65536 + w) (x * 65536 + y) (omega (arith, ltb-false v x h))) refl))
