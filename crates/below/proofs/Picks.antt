-- Lists picked by a test, in order, and a slice into which a loop writes them one after the other. Assumes nothing.
use mathlib.Core.Path.{◌≡◌, refl, ap, ◌∙◌}
use mathlib.Core.Logic.{inl, inr}
use mathlib.Core.Bool.{Bool, true, false, cond}
use mathlib.Core.List.{List, [], ◌∷◌, ◌++◌, append-nil}
use Prim.Native.Nat.{ℕ, zero, suc, ◌+◌, ◌≤◌, ◌<◌}
use native.Mathlib.Nat.{add-zero, zero-add}
use native.Mathlib.Numerals.{add-one}
use native.Mathlib.Omega.{arith}
use lib.ListN.{length, set, get_or, drop, length-append, get_or-append}
use lib.Seq.{sets, sets-eq, length-sets, get_or-append_seam, get_or-append-add}
use Rattle.below.specs.Below.{pick, count_below, sum_below, picks, rows_below, laid}
use Rattle.below.proofs.Tests.{below_cases}
use Rattle.below.proofs.Count.{count_past}
use Rattle.below.proofs.Sum.{sum_past}

pub length-picks : (q : ℕ → Bool) (f : ℕ → ℕ) (n : ℕ) → length (picks n q f) ≡ count_below n q
unfolding picks count_below
length-picks q f zero = refl
length-picks q f (suc n) = length-append (picks n q f) (cond (q n) (f n ∷ []) []) ∙ go (q n) (length-picks q f n)
  where
    go : (b : Bool) → length (picks n q f) ≡ count_below n q → length (picks n q f) + length (cond b (f n ∷ []) []) ≡ pick b (suc (count_below n q)) (count_below n q)
    go true e = omega arith
    go false e = omega arith

pub picks_yes : (q : ℕ → Bool) (f : ℕ → ℕ) (i : ℕ) → q i ≡ true → picks (i + 1) q f ≡ picks i q f ++ (f i ∷ [])
unfolding picks
picks_yes q f i h = rw (add-one i, h) refl

pub picks_no : (q : ℕ → Bool) (f : ℕ → ℕ) (i : ℕ) → q i ≡ false → picks (i + 1) q f ≡ picks i q f
unfolding picks
picks_no q f i h = rw (add-one i, h) (append-nil (picks i q f))

pub length_rows : (g : ℕ → List ℕ) (c : ℕ → ℕ) → ((k : ℕ) → length (g k) ≡ c k) → (n : ℕ) → length (rows_below n g) ≡ sum_below n c
unfolding rows_below sum_below
length_rows g c h zero = refl
length_rows g c h (suc n) = rw (length-append, length_rows g c h n, h n) refl

sets_append : (xs ys l : List ℕ) (c : ℕ) → sets l c (xs ++ ys) ≡ sets (sets l c xs) (c + length xs) ys
sets_append [] ys l c = rw add-zero refl
sets_append (x ∷ xs) ys l c = sets_append xs ys (set l c x) (suc c) ∙ ap (λ (k : ℕ). sets (sets (set l c x) (suc c) xs) k ys) (omega arith)

pub laid-append : (xs ys l : List ℕ) (c : ℕ) → laid l c (xs ++ ys) ≡ laid (laid l c xs) (c + length xs) ys
unfolding laid
laid-append xs ys l c = sets_append xs ys l c

pub laid_none : (l : List ℕ) (c : ℕ) → l ≡ laid l c []
unfolding laid
laid_none l c = refl

pub laid_one : (l : List ℕ) (c x : ℕ) → laid l c (x ∷ []) ≡ set l c x
unfolding laid
laid_one l c x = refl

pub laid-length : (l l₀ : List ℕ) (c : ℕ) (xs : List ℕ) → l ≡ laid l₀ c xs → length l ≡ length l₀
unfolding laid
laid-length l l₀ c xs e = ap length e ∙ length-sets l₀ c xs

-- ---- as a loop over i with a cursor goes
module _ (q : ℕ → Bool) (i : ℕ) where
  module _ (f : ℕ → ℕ) (l₀ : List ℕ) (c : ℕ) (l : List ℕ) (e : l ≡ laid l₀ c (picks i q f)) where
    -- the slice after a store at the cursor
    pub pick_store : (k x : ℕ) → q i ≡ true → k ≡ c + count_below i q → x ≡ f i → set l k x ≡ laid l₀ c (picks (i + 1) q f)
    pick_store k x h ek ex =
        rw (picks_yes q f i h, laid-append (picks i q f) (f i ∷ []) l₀ c, laid_one, length-picks q f i, ← ek, ← ex, ← e) refl

    pub pick_skip : q i ≡ false → l ≡ laid l₀ c (picks (i + 1) q f)
    pick_skip h = rw (picks_no q f i h) e

-- the rows one after the other: l' is l after row i
module _ (g : ℕ → List ℕ) (i : ℕ) (l₀ l l' : List ℕ) (k : ℕ) where
  pub row_store : l ≡ laid l₀ 0 (rows_below i g) → k ≡ length (rows_below i g) → l' ≡ laid l k (g i) → l' ≡ laid l₀ 0 (rows_below (i + 1) g)
  unfolding rows_below
  row_store e ek h = rw (add-one i, laid-append (rows_below i g) (g i) l₀ 0, zero-add, ← ek, ← e) h

-- what a slice holds where a list was laid from its first entry on
pub get_d_laid : (l xs : List ℕ) (k : ℕ) → k < length xs → length xs ≤ length l → get_or (laid l 0 xs) k 0 ≡ get_or xs k 0
unfolding laid
get_d_laid l xs k h r = rw (sets-eq xs l 0 (omega arith)) (get_or-append xs (drop (0 + length xs) l) 0 k h)

-- ---- what stands at an index

pub picks_at : (q : ℕ → Bool) (f : ℕ → ℕ) (n i : ℕ) → i < n → q i ≡ true → get_or (picks n q f) (count_below i q) 0 ≡ f i
unfolding picks
picks_at q f zero i l e = absurd (omega arith)
picks_at q f (suc n) i l e = elim (below_cases l) [
  | inl m ↦ get_or-append (picks n q f) (cond (q n) (f n ∷ []) []) 0 (count_below i q) (omega (arith, length-picks q f n, count_past i n q m e)) ∙ picks_at q f n i m e
  | inr s ↦ let t : q n ≡ true = rw s at e in rw (s, t, ← length-picks q f n) (get_or-append_seam (picks n q f) (f n) [] 0)
]

module _ (g : ℕ → List ℕ) (c : ℕ → ℕ) (each : (k : ℕ) → length (g k) ≡ c k) where
  pub rows_at : (n v i : ℕ) → v < n → i < c v → get_or (rows_below n g) (sum_below v c + i) 0 ≡ get_or (g v) i 0
  unfolding rows_below
  rows_at zero v i l h = absurd (omega arith)
  rows_at (suc n) v i l h = elim (below_cases l) [
    | inl m ↦ get_or-append (rows_below n g) (g n) 0 (sum_below v c + i) (omega (arith, length_rows g c each n, sum_past v n c m)) ∙ rows_at n v i m h
    | inr s ↦ rw (s, ← length_rows g c each n) (get_or-append-add (rows_below n g) (g n) i 0)
  ]
