-- Bounded search, for-all, count, sum and greatest value below a number, and lists given by their entries. Every recursion goes up from 0 and adds the
-- index `n` last, as a loop's turn does. Assumes nothing.
use Rattle.std.specs.Prelude.{◌≡◌, Bool, true, false, cond, not, ◌&&◌, ◌||◌, List, [], ◌∷◌, ◌++◌, ℕ, zero, suc, ◌+◌, ◌≤◌, ◌<◌, max, ltb, eqb, length, get_or, set}
use Rattle.std.proofs.lemmas.List.Edits.{sets}

-- the choice of a number by a test
abbrev pub pick : Bool → ℕ → ℕ → ℕ
pick true a b = a
pick false a b = b

-- every element of a list passes the test
abbrev pub all_in : {A : Type 0} → (A → Bool) → List A → Bool
all_in f [] = true
all_in f (x ∷ xs) = f x && all_in f xs

-- ---- search

-- the least i < n with f i, or n if there is none
unfoldable pub first_below : ℕ → (ℕ → Bool) → ℕ
first_below zero f = zero
first_below (suc n) f = let r = first_below n f in pick (ltb r n) r (pick (f n) n (suc n))

-- one more than the greatest i < n with f i, 0 if there is none
unfoldable pub last_below : ℕ → (ℕ → Bool) → ℕ
last_below zero f = zero
last_below (suc n) f = pick (f n) (suc n) (last_below n f)

-- r is the least index below n that passes f, or n: what a search loop ends with
pub record First (n : ℕ) (f : ℕ → Bool) (r : ℕ) : Type 0 where
  pub within : r ≤ n
  pub skipped : (i : ℕ) → i < r → f i ≡ false
  pub found : r < n → f r ≡ true

-- ---- every index, some index, how many

-- f i for every i < n
unfoldable pub all_below : ℕ → (ℕ → Bool) → Bool
all_below zero f = true
all_below (suc n) f = all_below n f && f n

-- f i for some i < n
abbrev pub any_below : ℕ → (ℕ → Bool) → Bool
any_below n f = not (all_below n (λ i. not (f i)))

-- how many i < n pass f
unfoldable pub count_below : ℕ → (ℕ → Bool) → ℕ
count_below zero f = 0
count_below (suc n) f = pick (f n) (suc (count_below n f)) (count_below n f)

-- ---- sums and greatest values

-- the sum of f i for i < n
unfoldable pub sum_below : ℕ → (ℕ → ℕ) → ℕ
sum_below zero f = zero
sum_below (suc n) f = sum_below n f + f n

-- the sum of g v w for v < w < n
unfoldable pub triangle : ℕ → (ℕ → ℕ → ℕ) → ℕ
triangle n g = sum_below n (λ w. sum_below w (λ v. g v w))

-- the greatest f i for i < n, 0 if n is 0
unfoldable pub max_below : ℕ → (ℕ → ℕ) → ℕ
max_below zero f = zero
max_below (suc n) f = max (max_below n f) (f n)

-- ---- lists by index

-- a list of numbers as a function, 0 past its end
abbrev pub at : List ℕ → ℕ → ℕ
at l i = get_or l i 0

-- a number stands in a list
unfoldable pub is_in : ℕ → List ℕ → Bool
is_in v [] = false
is_in v (w ∷ ws) = is_in v ws || eqb v w

-- the list of f 0 to f (n - 1)
unfoldable pub list_below {ℓ} : {A : Type ℓ} → ℕ → (ℕ → A) → List A
list_below zero f = []
list_below (suc n) f = f zero ∷ list_below n (λ i. f (suc i))

-- l with f i at each i < n
unfoldable pub fill_below : ℕ → (ℕ → ℕ) → List ℕ → List ℕ
fill_below zero f l = l
fill_below (suc n) f l = set (fill_below n f l) n (f n)

-- the first m items linked by their kinds, the greatest first: `head` has the greatest item of each kind, `next` the greatest below an item that is of its kind. Each
-- is written as one more than the item's number, and 0 is none. There are `kinds` entries for kinds and `room` for items.
pub record Linked (kinds room : ℕ) (kind : ℕ → ℕ) (m : ℕ) (head next : List ℕ) : Type 0 where
  pub head_size : length head ≡ kinds
  pub next_size : length next ≡ room
  pub heads : (v : ℕ) → v < kinds → at head v ≡ last_below m (λ k. eqb (kind k) v)
  pub nexts : (k : ℕ) → k < m → at next k ≡ last_below k (λ j. eqb (kind j) (kind k))

-- the function p with the entry of d replaced
abbrev pub update : (ℕ → ℕ) → ℕ → ℕ → ℕ → ℕ
update p d x c = pick (eqb c d) x (p c)

-- l with the entries xs written from the index c on: `lib.Seq`'s `sets` under a name that stays shut, so that the arguments of its laws are found
unfoldable pub laid : List ℕ → ℕ → List ℕ → List ℕ
laid l c xs = sets l c xs

-- f i of each i < n with q i, in order
unfoldable pub picks : ℕ → (ℕ → Bool) → (ℕ → ℕ) → List ℕ
picks zero q f = []
picks (suc n) q f = picks n q f ++ cond (q n) (f n ∷ []) []

-- the lists g i of the i < n, one after the other
unfoldable pub rows_below : ℕ → (ℕ → List ℕ) → List ℕ
rows_below zero g = []
rows_below (suc n) g = rows_below n g ++ g n

-- ---- pairs (v, w) of numbers below n that pass a test R, in rising order of v and then of w

-- (v, w) comes before (x, y)
unfoldable pub pair_before : ℕ → ℕ → ℕ → ℕ → Bool
pair_before v w x y = ltb v x || (eqb v x && ltb w y)

module _ (R : ℕ → ℕ → Bool) (n : ℕ) where
  -- how many pairs there are
  abbrev pub pairs_of : ℕ
  pairs_of = sum_below n (λ v. count_below n (R v))

  -- f of each pair, in order
  abbrev pub listed : (ℕ → ℕ → ℕ) → List ℕ
  listed f = rows_below n (λ v. picks n (R v) (f v))

  -- how many pairs stand before (v, w)
  unfoldable pub rank : ℕ → ℕ → ℕ
  rank v w = sum_below v (λ v. count_below n (R v)) + count_below w (R v)
