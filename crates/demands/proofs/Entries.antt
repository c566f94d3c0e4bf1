-- The first entries of a list and the others, after stores: a store goes on alike in the list and in its first entries, and leaves what stands past it. Assumes nothing.
use mathlib.Core.Path.{◌≡◌, refl, sym, ap, ◌∙◌}
use mathlib.Core.List.{List, [], ◌∷◌}
use Prim.Native.Nat.{ℕ, zero, suc, ◌+◌, ◌*◌, ◌≤◌, ◌<◌, min}
use native.Mathlib.Nat.{suc-mul, suc-add, zero-add}
use native.Mathlib.Omega.{arith}
use lib.Dec.{leb}
use lib.ListN.{length, take, drop, set, length-take}
use lib.Seq.{sets, take-take, take-nil, drop-set-lt, get_or-take, ext_get_or}
use Rattle.below.specs.Below.{at, laid}
use Rattle.below.proofs.Tests.{same_test}
use borrow.Author.Tests.{leb-true, le-leb}
use Rattle.tables.specs.Zero.{zeroed}
use Rattle.tables.proofs.Zero.{zeroed-length, zeroed-below}
use Rattle.tables.specs.Limits.{Limits}
use Rattle.text.specs.TextWritten.{rows_in}

-- what lists that agree up to n have in common
pub entry_same : (n : ℕ) (l l' : List ℕ) → take n l ≡ take n l' → (i : ℕ) → i < n → at l i ≡ at l' i
entry_same n l l' e i h = sym (get_or-take n l i 0 h) ∙ ap (λ (x : List ℕ). at x i) e ∙ get_or-take n l' i 0 h

pub first_same : (m n : ℕ) (l l' : List ℕ) → take n l ≡ take n l' → m ≤ n → take m l ≡ take m l'
first_same m n l l' e h = sym (take-take m n l h) ∙ ap (take m) e ∙ take-take m n l' h

pub size_same : (n : ℕ) (l l' : List ℕ) → take n l ≡ take n l' → leb n (length l) ≡ leb n (length l')
size_same n l l' e =
    let q : min n (length l) ≡ min n (length l') = sym (length-take n l) ∙ ap length e ∙ length-take n l' in
    same_test _ _ (λ h. le-leb n (length l') (omega (arith, leb-true n (length l) h))) (λ h. le-leb n (length l) (omega (arith, leb-true n (length l') h)))

-- ---- stores

pub take-set : (n : ℕ) (l : List ℕ) (i x : ℕ) → take n (set l i x) ≡ set (take n l) i x
take-set zero l i x = refl
take-set (suc n) [] i x = refl
take-set (suc n) (y ∷ l) zero x = refl
take-set (suc n) (y ∷ l) (suc i) x = ap (λ (z : List ℕ). y ∷ z) (take-set n l i x)

-- an entry that is changed by its own value
pub take_change : (n : ℕ) (l : List ℕ) (i : ℕ) (f : ℕ → ℕ) → take n (set l i (f (at l i))) ≡ set (take n l) i (f (at (take n l) i))
take_change zero l i f = refl
take_change (suc n) [] i f = refl
take_change (suc n) (y ∷ l) zero f = refl
take_change (suc n) (y ∷ l) (suc i) f = ap (λ (z : List ℕ). y ∷ z) (take_change n l i f)

pub take_sets : (n : ℕ) (xs l : List ℕ) (i : ℕ) → take n (sets l i xs) ≡ sets (take n l) i xs
take_sets n [] l i = refl
take_sets n (x ∷ xs) l i = take_sets n xs (set l i x) (suc i) ∙ ap (λ (z : List ℕ). sets z (suc i) xs) (take-set n l i x)

pub drop_sets : (n : ℕ) (xs l : List ℕ) (i : ℕ) → i + length xs ≤ n → drop n (sets l i xs) ≡ drop n l
drop_sets n [] l i h = refl
drop_sets n (x ∷ xs) l i h = drop_sets n xs (set l i x) (suc i) (omega arith) ∙ drop-set-lt n l i x (omega arith)

pub take-laid : (n : ℕ) (xs l : List ℕ) → take n (laid l 0 xs) ≡ laid (take n l) 0 xs
unfolding laid
take-laid n xs l = take_sets n xs l 0

pub drop-laid : (n : ℕ) (xs l : List ℕ) → length xs ≤ n → drop n (laid l 0 xs) ≡ drop n l
unfolding laid
drop-laid n xs l h = drop_sets n xs l 0 (omega arith)

-- a table that is zeroed: its first entries are the zeroed first entries
pub take-zeroed : (n : ℕ) (l : List ℕ) → take n (zeroed n l) ≡ zeroed n (take n l)
take-zeroed n l =
    let q : length (take n (zeroed n l)) ≡ min n (length l) = length-take n (zeroed n l) ∙ ap (min n) (zeroed-length n l) in
    let r : length (zeroed n (take n l)) ≡ min n (length l) = zeroed-length n (take n l) ∙ length-take n l in
    ext_get_or 0 (take n (zeroed n l)) (zeroed n (take n l)) (q ∙ sym r)
    (λ i h. let k : i < n = omega arith in get_or-take n (zeroed n l) i 0 k ∙ zeroed-below n l i k ∙ sym (zeroed-below n (take n l) i k))

-- ---- the table of names, row by row

drop-take : (w m : ℕ) (l : List ℕ) → drop w (take (w + m) l) ≡ take m (drop w l)
drop-take zero m l = ap (λ (k : ℕ). take k l) (zero-add m)
drop-take (suc w) m [] = ap (drop (suc w)) (take-nil (suc w + m)) ∙ sym (take-nil m)
drop-take (suc w) m (x ∷ l) = ap (λ (k : ℕ). drop (suc w) (take k (x ∷ l))) (suc-add w m) ∙ drop-take w m l

pub rows_same : (L : Limits) (n : ℕ) (names names' : List ℕ) → take (n * L.name) names ≡ take (n * L.name) names' → rows_in L n names ≡ rows_in L n names'
unfolding rows_in
rows_same L zero names names' e = refl
rows_same L (suc n) names names' e =
    let w = L.name in
    let k : suc n * w ≡ w + n * w = omega (arith, suc-mul n w) in
    let q : take (w + n * w) names ≡ take (w + n * w) names' = rw k at e in
    λ i. first_same w (w + n * w) names names' q (omega arith) i
    ∷ rows_same L n (drop w names) (drop w names') (sym (drop-take w (n * w) names) ∙ ap (drop w) q ∙ drop-take w (n * w) names') i
