-- The stops numbered through: a number below the sum of all stop counts lies between the starts of one drone and the next, and that drone is its owner.
-- Assumes nothing.
use mathlib.Core.Path.{◌≡◌, refl, sym, ◌∙◌, subst}
use mathlib.Core.Logic.{◌≢◌}
use mathlib.Core.Bool.{Bool, ◌&&◌}
use mathlib.Core.List.{List}
use Prim.Native.Nat.{ℕ, zero, suc, ◌+◌, ◌-◌, ◌≤◌, ◌<◌}
use native.Mathlib.Omega.{arith}
use lib.Dec.{ltb, eqb}
use borrow.Author.Tests.{ltb-true, ltb-false, lt-ltb, le-ltb, eqb-true, eqb-false, eq-eqb}
use Rattle.below.specs.Below.{First, at}
use Rattle.below.proofs.Tests.{by_cases, true_or_false, and_left, and_right}
use Rattle.below.proofs.Search.{first_below_first, first_is, first_low}
use Rattle.below.proofs.Sum.{sum-none, sum-suc, sum_more, sum_upto}
use Rattle.plan.specs.Stops.{start, owner, stop_number}
use Rattle.plan.specs.Dependencies.{is_last}
use Rattle.plan.specs.Claims.{Numbered}

-- ---- where each drone's stops start

module _ (counts : List ℕ) where
  pub start_none : start counts 0 ≡ 0
  unfolding start
  start_none = sym (sum-none (at counts) 0)

  pub start-suc : (d : ℕ) → start counts (suc d) ≡ start counts d + at counts d
  unfolding start
  start-suc d = sum-suc d (at counts)

  -- one more drone, as a loop's counter goes
  pub start-more : (d : ℕ) → start counts (d + 1) ≡ start counts d + at counts d
  unfolding start
  start-more d = sum_more d (at counts)

  pub start_mono : (d e : ℕ) → d ≤ e → start counts d ≤ start counts e
  unfolding start
  start_mono d e l = sum_upto d e (at counts) l

-- ---- the drone of a stop, and its number there

module _ (drones : ℕ) (counts : List ℕ) where
  abbrev stops : ℕ
  stops = start counts drones

  -- the test by which the owner of v is found
  abbrev ends_past : ℕ → ℕ → Bool
  ends_past v d = ltb v (start counts (suc d))

  owner_first : (v : ℕ) → First drones (ends_past v) (owner drones counts v)
  unfolding owner
  owner_first v = first_below_first drones (ends_past v)

  pub owner_le : (v : ℕ) → owner drones counts v ≤ drones
  owner_le v = (owner_first v).within

  pub owner_is : (v d : ℕ) → d < drones → start counts d ≤ v → v < start counts (suc d) → owner drones counts v ≡ d
  unfolding owner
  owner_is v d l a b = first_is (ends_past v) drones d l (lt-ltb v (start counts (suc d)) b) (λ k m. le-ltb v (start counts (suc k)) (omega (arith, start_mono counts (suc k) d m)))

  pub owner_in_lem : (v : ℕ) → v < stops → owner drones counts v < drones
  owner_in_lem v l = by_cases (ltb (owner drones counts v) drones)
      (λ e. ltb-true _ _ e)
      (λ e. absurd (go drones refl (ltb-false _ _ e)))
    where
      go : (k : ℕ) → drones ≡ k → drones ≤ owner drones counts v → ⊥
      go zero q h = omega (arith, start_none counts, subst (λ (k : ℕ). v < start counts k) q l)
      go (suc k) q h = true_or_false (lt-ltb v (start counts (suc k)) (subst (λ (k : ℕ). v < start counts k) q l)) ((owner_first v).skipped k (omega arith))

  pub owner_end : (v : ℕ) → v < stops → v < start counts (suc (owner drones counts v))
  owner_end v l = ltb-true _ _ ((owner_first v).found (owner_in_lem v l))

  pub owner-start : (v : ℕ) → v < stops → start counts (owner drones counts v) ≤ v
  owner-start v l = go (owner drones counts v) refl
    where
      go : (k : ℕ) → owner drones counts v ≡ k → start counts k ≤ v
      go zero q = omega (arith, start_none counts)
      go (suc k) q = ltb-false _ _ ((owner_first v).skipped k (omega arith))

  -- owners never fall
  pub owner_mono : (v w : ℕ) → v ≤ w → owner drones counts v ≤ owner drones counts w
  unfolding owner
  owner_mono v w l = by_cases (ltb (owner drones counts w) drones)
      (λ e. let b : w < start counts (suc (owner drones counts w)) = ltb-true _ _ ((owner_first w).found (ltb-true _ _ e)) in first_low (ends_past v) (owner drones counts w) drones (lt-ltb v (start counts (suc (owner drones counts w))) (omega arith)))
      (λ e. omega (arith, owner_le v, ltb-false (owner drones counts w) drones e))

  pub number_is : (v : ℕ) → v < stops → start counts (owner drones counts v) + stop_number drones counts v ≡ v
  unfolding stop_number
  number_is v l = omega (arith, owner-start v l)

  pub number_in_lem : (v : ℕ) → v < stops → stop_number drones counts v < at counts (owner drones counts v)
  number_in_lem v l = omega (arith, number_is v l, owner_end v l, start-suc counts (owner drones counts v))

  pub place_in : (d s : ℕ) → d < drones → s < at counts d → start counts d + s < stops
  place_in d s l k = omega (arith, start-suc counts d, start_mono counts (suc d) drones l)

  pub place_owner : (d s : ℕ) → d < drones → s < at counts d → owner drones counts (start counts d + s) ≡ d
  place_owner d s l k = owner_is (start counts d + s) d l (omega arith) (omega (arith, start-suc counts d))

  pub place_number : (d s : ℕ) → d < drones → s < at counts d → stop_number drones counts (start counts d + s) ≡ s
  unfolding stop_number
  place_number d s l k = rw (place_owner d s l k) (omega arith)

  -- each drone has a stop: its last is one less than its count
  pub numbered : ((d : ℕ) → d < drones → 1 ≤ at counts d) → Numbered (owner drones counts) (stop_number drones counts) (start counts) (λ d. at counts d - 1) drones stops
  numbered some = record {
    own_in = owner_in_lem;
    number_in_lem = λ v l. omega (arith, number_in_lem v l);
    number_is = number_is;
    place_in = λ d s l k. place_in d s l (omega (arith, some d l));
    place_own = λ d s l k. place_owner d s l (omega (arith, some d l));
    place_number = λ d s l k. place_number d s l (omega (arith, some d l));
    grouped = λ v w l k. owner_mono v w l;
  }

-- ---- what the numbering says of neighbours, first and last stops, and order

module _ {own num off last : ℕ → ℕ} {drones n : ℕ} (N : Numbered own num off last drones n) where
  pub off_le : (v : ℕ) → v < n → off (own v) ≤ v
  off_le v l = omega (arith, N.number_is v l)

  pub next_number : (v : ℕ) → v + 1 < n → own (v + 1) ≡ own v → num (v + 1) ≡ num v + 1
  next_number v l e = let q : off (own (v + 1)) ≡ off (own v) = rw e refl in omega (arith, N.number_is (v + 1) l, N.number_is v (omega arith))

  pub next-own : (v : ℕ) → v + 1 < n → num (v + 1) ≡ num v + 1 → own (v + 1) ≡ own v
  next-own v l e =
      let q : off (own (v + 1)) + num v ≡ v = omega (arith, N.number_is (v + 1) l) in
      sym (N.place_own (own (v + 1)) (num v) (N.own_in (v + 1) l) (omega (arith, N.number_in_lem (v + 1) l))) ∙ rw q refl

  -- a stop that is not the last of its drone is followed by the drone's next
  pub goes_on : (v : ℕ) → v < n → num v < last (own v) → (v + 1 < n) × (own (v + 1) ≡ own v) × (num (v + 1) ≡ num v + 1)
  goes_on v l k =
      let q : off (own v) + (num v + 1) ≡ v + 1 = omega (arith, N.number_is v l) in
      let m : num v + 1 ≤ last (own v) = omega arith in
      (rw q at (N.place_in (own v) (num v + 1) (N.own_in v l) m), rw q at (N.place_own (own v) (num v + 1) (N.own_in v l) m), rw q at (N.place_number (own v) (num v + 1) (N.own_in v l) m))

  pub stays : (v : ℕ) → v + 1 < n → own (v + 1) ≡ own v → num v < last (own v)
  stays v l e = let m : num (v + 1) ≤ last (own v) = rw e at (N.number_in_lem (v + 1) l) in omega (arith, next_number v l e)

  pub last_is : (v : ℕ) → v < n → is_last own n v ≡ eqb (num v) (last (own v))
  unfolding is_last
  last_is v l = by_cases (eqb (num v) (last (own v)))
      (λ e. let q : num v ≡ last (own v) = eqb-true _ _ e in by_cases (ltb (v + 1) n && eqb (own (v + 1)) (own v))
      (λ h. absurd (omega (arith, stays v (ltb-true _ _ (and_left _ _ h)) (eqb-true _ _ (and_right (ltb (v + 1) n) _ h)))))
      (λ h. rw (e, h) refl))
      (λ e. let q : num v ≢ last (own v) = eqb-false _ _ e in
      let (a, b, c) = goes_on v l (omega (arith, N.number_in_lem v l)) in
      rw (e, lt-ltb (v + 1) n a, eq-eqb (own (v + 1)) (own v) b) refl)

  pub order_number : (v w : ℕ) → v < n → w < n → own v ≡ own w → v < w → num v < num w
  order_number v w l k e h = let q : off (own v) ≡ off (own w) = rw e refl in omega (arith, N.number_is v l, N.number_is w k)
