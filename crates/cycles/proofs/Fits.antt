-- The stops of different drones lie apart, so that all of them together are no more than there are, and no walk is longer. Assumes nothing.
use mathlib.Core.Path.{◌≡◌, refl}
use mathlib.Core.Bool.{Bool, true, false}
use Prim.Native.Nat.{ℕ, zero, suc, ◌+◌, ◌-◌, ◌≤◌, ◌<◌}
use native.Mathlib.Nat.{add-suc}
use native.Mathlib.Omega.{arith}
use lib.Dec.{ltb, eqb}
use borrow.Author.Tests.{ltb-true, ltb-false, eqb-true, eq-eqb}
use Rattle.below.proofs.Count.{count_le, count_mono}
use Rattle.below.specs.Below.{pick, count_below, sum_below}
use Rattle.cycles.specs.Flat.{Shape}

-- a run of indices that all pass
count_run : (f : ℕ → Bool) (a len : ℕ) → ((s : ℕ) → s < len → f (a + s) ≡ true) → count_below a f + len ≤ count_below (a + len) f
unfolding count_below
count_run f a zero h = let e : a + 0 ≡ a = omega arith in rw e (omega arith)
count_run f a (suc len) h = rw (add-suc a len, h len (omega arith)) (omega (arith, count_run f a len (λ s l. h s (omega arith))))

-- those below e and those at e are below e + 1
count_split : (g : ℕ → ℕ) (e n : ℕ) → count_below n (λ v. ltb (g v) e) + count_below n (λ v. eqb (g v) e) ≤ count_below n (λ v. ltb (g v) (suc e))
unfolding count_below
count_split g e zero = omega arith
count_split g e (suc n) = go (ltb (g n) e) (eqb (g n) e) (ltb (g n) (suc e)) refl refl refl (count_split g e n)
  where
    A : ℕ
    A = count_below n (λ v. ltb (g v) e)

    B : ℕ
    B = count_below n (λ v. eqb (g v) e)

    C : ℕ
    C = count_below n (λ v. ltb (g v) (suc e))

    go : (a b c : Bool) → ltb (g n) e ≡ a → eqb (g n) e ≡ b → ltb (g n) (suc e) ≡ c → A + B ≤ C → pick a (suc A) A + pick b (suc B) B ≤ pick c (suc C) C
    go true true c x y z h = absurd (omega (arith, ltb-true (g n) e x, eqb-true (g n) e y))
    go true false true x y z h = omega arith
    go true false false x y z h = absurd (omega (arith, ltb-true (g n) e x, ltb-false (g n) (suc e) z))
    go false true true x y z h = omega arith
    go false true false x y z h = absurd (omega (arith, eqb-true (g n) e y, ltb-false (g n) (suc e) z))
    go false false true x y z h = omega arith
    go false false false x y z h = h

-- a sum with one to spare for each term is less than the limit, or there is no term
one_less : (e limit : ℕ) (f : ℕ → ℕ) → sum_below e f + e ≤ limit → sum_below e f ≤ limit - 1
unfolding sum_below
one_less zero limit f h = omega arith
one_less (suc e) limit f h = omega arith

module _ (own off last : ℕ → ℕ) (drones n : ℕ) (shape : Shape own off last drones n) where
  -- a drone has as many stops as it owns, or fewer
  owned : (d : ℕ) → d < drones → suc (last d) ≤ count_below n (λ v. eqb (own v) d)
  owned d l = omega (
    arith,
    count_run (λ v. eqb (own v) d) (off d) (suc (last d)) (λ s h. eq-eqb _ _ (shape.place_own d s l (omega arith))),
    count_mono (off d + suc (last d)) n (λ v. eqb (own v) d) (omega (arith, shape.place_in d (last d) l (omega arith))),
  )

  stops_below : (e : ℕ) → e ≤ drones → sum_below e (λ d. suc (last d)) ≤ count_below n (λ v. ltb (own v) e)
  unfolding sum_below
  stops_below zero l = omega arith
  stops_below (suc e) l = omega (arith, stops_below e (omega arith), owned e l, count_split own e n)

  -- the stops of all drones
  pub stops_fit : sum_below drones (λ d. suc (last d)) ≤ n
  stops_fit = omega (arith, stops_below drones (omega arith), count_le n (λ v. ltb (own v) drones))

  -- .. so drones that stand at stops of theirs have at most the stops before them that are nobody's first
  before_last : (cur : ℕ → ℕ) → ((d : ℕ) → d < drones → off d ≤ cur d) → (e : ℕ) → e ≤ drones → sum_below e (λ d. off d + last d - cur d) + e ≤ sum_below e (λ d. suc (last d))
  unfolding sum_below
  before_last cur low zero l = omega arith
  before_last cur low (suc e) l = omega (arith, before_last cur low e (omega arith), low e (omega arith))

  -- the steps that are left are at most one less than the limit for all stops; an entry is at most that times the longest leg
  pub left-fits : (cur : ℕ → ℕ) → ((d : ℕ) → d < drones → off d ≤ cur d) → (limit : ℕ) → n ≤ limit → sum_below drones (λ d. off d + last d - cur d) ≤ limit - 1
  left-fits cur low limit few = one_less drones limit (λ d. off d + last d - cur d) (omega (arith, stops_fit, before_last cur low drones (omega arith)))
