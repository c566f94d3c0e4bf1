-- The pairs of numbers below n that pass a test: where a pair stands among them, and that a rising list of as many such pairs is all of them.
-- Assumes nothing.
use mathlib.Core.Path.{◌≡◌, refl, sym, ◌∙◌}
use mathlib.Core.Logic.{◌≢◌, ◌⊎◌, inl, inr}
use mathlib.Core.Bool.{Bool, true, false, ◌&&◌}
use Prim.Native.Nat.{ℕ, zero, suc, ◌+◌, ◌-◌, ◌≤◌, ◌<◌}
use native.Mathlib.Nat.{add-zero}
use native.Mathlib.Omega.{arith}
use lib.Dec.{ltb, eqb}
use borrow.Author.Tests.{ltb-true, ltb-false, eqb-true, eqb-false, eq-eqb}
use lib.ListN.{length, get_or}
use Rattle.below.specs.Below.{count_below, picks, pair_before, pairs_of, listed, rank}
use Rattle.below.proofs.Tests.{by_cases, and_left, and_right, or_left, or_right}
use Rattle.below.proofs.Count.{count_past, count_find}
use Rattle.below.proofs.Sum.{sum_past, sum_find}
use Rattle.below.proofs.Picks.{length-picks, length_rows, picks_at, rows_at}

-- ---- a rising sequence

module _ (m : ℕ) (j : ℕ → ℕ) (rises : (k : ℕ) → suc k < m → j k < j (suc k)) where
  climb : (d i : ℕ) → i + d < m → j i + d ≤ j (i + d)
  climb zero i l = rw (add-zero (j i), add-zero i) (omega arith)
  climb (suc d) i l = let s : i + suc d ≡ suc (i + d) = omega arith in rw s (omega (arith, climb d i (omega arith), rises (i + d) (omega arith)))

  -- a rising sequence of m numbers below t: there are no more than t
  pub rising_fit : (t : ℕ) → ((k : ℕ) → k < m → j k < t) → m ≤ t
  rising_fit t h = by_cases (eqb m 0)
      (λ e. omega (arith, eqb-true m 0 e))
      (λ e. let p : m ≢ 0 = eqb-false m 0 e in
      let z : 0 + (m - 1) ≡ m - 1 = omega arith in
      let up : j 0 + (m - 1) ≤ j (0 + (m - 1)) = climb (m - 1) 0 (omega arith) in
      omega (arith, rw z at up, h (m - 1) (omega arith)))

  -- a rising sequence of m numbers below m is 0, 1, ..
  pub rising_all : ((k : ℕ) → k < m → j k < m) → (k : ℕ) → k < m → j k ≡ k
  rising_all h k l =
      let a : 0 + k ≡ k = omega arith in
      let b : k + (m - 1 - k) ≡ m - 1 = omega arith in
      let up : j 0 + k ≤ j (0 + k) = climb k 0 (omega arith) in
      let down : j k + (m - 1 - k) ≤ j (k + (m - 1 - k)) = climb (m - 1 - k) k (omega arith) in
      omega (arith, rw a at up, rw b at down, h (m - 1) (omega arith))

-- ---- pairs in order

pub before-not : (v w x y : ℕ) → pair_before v w x y ≡ false → (pair_before x y v w ≡ true) ⊎ ((v ≡ x) × (w ≡ y))
unfolding pair_before
before-not v w x y e =
    let a : x ≤ v = ltb-false v x (or_left (ltb v x) _ e) in
    by_cases (ltb x v)
    (λ h. inl (rw h refl))
    (λ h. let s : v ≡ x = omega (arith, ltb-false x v h) in
    let b : (eqb v x && ltb w y) ≡ false = or_right (ltb v x) _ e in
    let c : y ≤ w = ltb-false w y (rw (eq-eqb v x s) at b) in
    by_cases (ltb y w)
    (λ g. inl (rw (h, eq-eqb x v (sym s), g) refl))
    (λ g. inr (s, omega (arith, ltb-false y w g))))

module _ (R : ℕ → ℕ → Bool) (n : ℕ) where
  -- how many pairs have the first number v
  abbrev in_row : ℕ → ℕ
  in_row v = count_below n (R v)

  pub length-listed : (f : ℕ → ℕ → ℕ) → length (listed R n f) ≡ pairs_of R n
  length-listed f = length_rows (λ v. picks n (R v) (f v)) in_row (λ v. length-picks (R v) (f v) n) n

  pub listed_at : (f : ℕ → ℕ → ℕ) (v w : ℕ) → v < n → w < n → R v w ≡ true → get_or (listed R n f) (rank R n v w) 0 ≡ f v w
  unfolding rank
  listed_at f v w l m e = rows_at (λ v. picks n (R v) (f v)) in_row (λ v. length-picks (R v) (f v) n) n v (count_below w (R v)) l (count_past w n (R v) m e) ∙ picks_at (R v) (f v) n w m e

  pub rank_below : (v w : ℕ) → v < n → w < n → R v w ≡ true → rank R n v w < pairs_of R n
  unfolding rank
  rank_below v w l m e = omega (arith, count_past w n (R v) m e, sum_past v n in_row l)

  -- the pair that stands at k
  pub rank_find : (k : ℕ) → k < pairs_of R n → (v : ℕ) × (w : ℕ) × (v < n) × (w < n) × (R v w ≡ true) × (rank R n v w ≡ k)
  unfolding rank
  rank_find k l =
      let (v, j, a, b, c) = sum_find n in_row k l in
      let (w, d, e, f) = count_find n (R v) j b in
      (v, w, a, d, e, omega arith)

  pub rank_rises : (v w x y : ℕ) → w < n → y ≤ n → R v w ≡ true → pair_before v w x y ≡ true → rank R n v w < rank R n x y
  unfolding rank pair_before
  rank_rises v w x y l m e b = by_cases (ltb v x)
      (λ h. omega (arith, count_past w n (R v) l e, sum_past v x in_row (ltb-true v x h)))
      (λ h. let t : (eqb v x && ltb w y) ≡ true = rw h at b in
      let s : v ≡ x = eqb-true v x (and_left _ _ t) in
      let c : w < y = ltb-true w y (and_right (eqb v x) _ t) in
      rw (← s) (omega (arith, count_past w y (R v) c e)))

  pub rank_order : (v w x y : ℕ) → v < n → w < n → x < n → y < n → R v w ≡ true → R x y ≡ true → rank R n v w < rank R n x y → pair_before v w x y ≡ true
  rank_order v w x y a b c d e f l = by_cases (pair_before v w x y) (λ h. h) (λ h. elim (before-not v w x y h) [
    | inl t ↦ absurd (omega (arith, rank_rises x y v w d (omega arith) f t))
    | inr (s, t) ↦ absurd (let q : rank R n v w ≡ rank R n x y = rw (s, t) refl in omega arith)
  ])

  -- m pairs, in rising order
  pub record Climbs (m : ℕ) (xs ys : ℕ → ℕ) : Type 0 where
    pub first_in : (k : ℕ) → k < m → xs k < n
    pub second_in : (k : ℕ) → k < m → ys k < n
    pub passes : (k : ℕ) → k < m → R (xs k) (ys k) ≡ true
    pub rises : (k : ℕ) → suc k < m → pair_before (xs k) (ys k) (xs (suc k)) (ys (suc k)) ≡ true

  module _ {m : ℕ} {xs ys : ℕ → ℕ} (climbs : Climbs m xs ys) where
    ranks_rise : (k : ℕ) → suc k < m → rank R n (xs k) (ys k) < rank R n (xs (suc k)) (ys (suc k))
    ranks_rise k l =
        let i : ys k < n = climbs.second_in k (omega arith) in
        let j : ys (suc k) < n = climbs.second_in (suc k) l in
        rank_rises (xs k) (ys k) (xs (suc k)) (ys (suc k)) i (omega arith) (climbs.passes k (omega arith)) (climbs.rises k l)

    ranks_in : (k : ℕ) → k < m → rank R n (xs k) (ys k) < pairs_of R n
    ranks_in k l = rank_below (xs k) (ys k) (climbs.first_in k l) (climbs.second_in k l) (climbs.passes k l)

    -- there are no more than all, and where there are as many, each stands at its place
    pub climbs_few : m ≤ pairs_of R n
    climbs_few = rising_fit m (λ k. rank R n (xs k) (ys k)) ranks_rise (pairs_of R n) ranks_in

    pub climbs_all : m ≡ pairs_of R n → (f : ℕ → ℕ → ℕ) (k : ℕ) → k < m → get_or (listed R n f) k 0 ≡ f (xs k) (ys k)
    climbs_all e f k l =
        let r : rank R n (xs k) (ys k) ≡ k = rising_all m (λ k. rank R n (xs k) (ys k)) ranks_rise (λ k l. rw e (ranks_in k l)) k l in
        rw r at (listed_at f (xs k) (ys k) (climbs.first_in k l) (climbs.second_in k l) (climbs.passes k l))

  -- the list of all climbs
  pub all_climbs : (xs ys : ℕ → ℕ) → ((k : ℕ) → k < pairs_of R n → xs k ≡ get_or (listed R n (λ v w. v)) k 0) → ((k : ℕ) → k < pairs_of R n → ys k ≡ get_or (listed R n (λ v w. w)) k 0) → Climbs (pairs_of R n) xs ys
  all_climbs xs ys fx fy =
      record {
        first_in = λ k l. let (v, w, a, b, c, d, e, f) = place k l in rw e a;
        second_in = λ k l. let (v, w, a, b, c, d, e, f) = place k l in rw f b;
        passes = λ k l. let (v, w, a, b, c, d, e, f) = place k l in rw (e, f) c;
        rises = λ k l.
            let (v, w, a, b, c, d, e, f) = place k (omega arith) in
            let (x, y, g, h, i, j, p, q) = place (suc k) l in
            rw (e, f, p, q) (rank_order v w x y a b g h c i (omega arith));
      }
    where
      place : (k : ℕ) → k < pairs_of R n → (v : ℕ) × (w : ℕ) × (v < n) × (w < n) × (R v w ≡ true) × (rank R n v w ≡ k) × (xs k ≡ v) × (ys k ≡ w)
      place k l =
          let (v, w, a, b, c, d) = rank_find k l in
          (v, w, a, b, c, d, fx k l ∙ rw d at (listed_at (λ v w. v) v w a b c), fy k l ∙ rw d at (listed_at (λ v w. w) v w a b c))
