-- The rows of names so far stand in the table one after another, so that a row is among the table's exactly when it is in the list of rows.
use Prim.Native.Nat.{ℕ, suc, ◌+◌, ◌*◌, ◌≤◌, ◌<◌}
use native.Mathlib.Nat.{mul-le-mul_right, suc-mul, zero-mul}
use native.Mathlib.Numerals.{add-one}
use native.Mathlib.Omega.{arith}
use mathlib.Core.Path.{◌≡◌, refl, sym, ◌∙◌}
use mathlib.Core.List.{List, [], ◌∷◌, ◌++◌, append_assoc}
use mathlib.Core.Bool.{true}
use lib.Dec.{eqb}
use borrow.Author.Tests.{eqb-true, eq-eqb}
use lib.ListN.{length, get_or, set, length-append, length-set}
use lib.Seq.{sets, get_or-set_other, get_or-set_same}
use Rattle.tables.specs.Limits.{Limits}
use Rattle.lines.specs.Bytes.{byte_at, is_at}
use Rattle.lines.specs.Names.{among}
use Rattle.lines.proofs.ByteLaws.{both, stands_parts}
use Rattle.text.specs.LinesRead.{same, elem, flat}

-- rows of the length of the longest name
abbrev pub AllLong : Limits → List (List ℕ) → Type 0
AllLong L [] = Unit {0}
AllLong L (r ∷ rs) = (length r ≡ L.name) × AllLong L rs

pub flat_long : (L : Limits) (rs : List (List ℕ)) → AllLong L rs → length (flat rs) ≡ length rs * L.name
flat_long L [] a = sym (zero-mul L.name)
flat_long L (r ∷ rs) a = simp length-append (omega (arith, a.0, flat_long L rs a.1, suc-mul (length rs) L.name))

pub flat_append : (x y : List (List ℕ)) → flat (x ++ y) ≡ flat x ++ flat y
flat_append [] y = refl
flat_append (r ∷ x) y = rw (flat_append x y, append_assoc)

pub long_snoc : (L : Limits) (rs : List (List ℕ)) (r : List ℕ) → AllLong L rs → length r ≡ L.name → AllLong L (rs ++ r ∷ [])
long_snoc L [] r a h = (h, tt)
long_snoc L (s ∷ rs) r a h = (a.0, long_snoc L rs r a.1 h)

-- a row against one that stands in the table
same_at : (names : List ℕ) (at : ℕ) (r row : List ℕ) → length r ≡ length row → is_at names at r ≡ true → is_at names at row ≡ same r row
unfolding is_at same
same_at names at [] [] l h = refl
same_at names at [] (b ∷ row) l h = absurd (omega arith)
same_at names at (a ∷ r) [] l h = absurd (omega arith)
same_at names at (a ∷ r) (b ∷ row) l h =
    let w = both (eqb (byte_at names at) a) (is_at names (at + 1) r) h in
    rw (eqb-true (byte_at names at) a w.0, same_at names (at + 1) r row (omega arith) w.1)

pub among-elem : (L : Limits) (earlier : List (List ℕ)) (names : List ℕ) (at : ℕ) (row : List ℕ) → AllLong L earlier → is_at names at (flat earlier) ≡ true → length row ≡ L.name → among L (length earlier) names at row ≡ elem earlier row
unfolding among elem
among-elem L [] names at row a h l = refl
among-elem L (r ∷ rs) names at row a h l =
    let w = stands_parts names at r (flat rs) h in
    rw (same_at names at r row (a.0 ∙ sym l) w.0, among-elem L rs names (at + L.name) row a.1 (rw a.0 at w.1) l)

-- stores further on, and stores here
get_d_sets_below : (l : List ℕ) (i : ℕ) (x : List ℕ) (j d : ℕ) → j < i → get_or (sets l i x) j d ≡ get_or l j d
get_d_sets_below l i [] j d h = refl
get_d_sets_below l i (a ∷ x) j d h = get_d_sets_below (set l i a) (suc i) x j d (omega arith) ∙ get_or-set_other l i j a d (λ (q : j ≡ i). omega arith)

pub is_at-below : (l : List ℕ) (i : ℕ) (x : List ℕ) (at : ℕ) (ys : List ℕ) → at + length ys ≤ i → is_at (sets l i x) at ys ≡ is_at l at ys
unfolding is_at byte_at
is_at-below l i x at [] h = refl
is_at-below l i x at (b ∷ ys) h = rw (get_d_sets_below l i x at 256 (omega arith), is_at-below l i x (at + 1) ys (omega arith))

pub is_at-here : (l : List ℕ) (i : ℕ) (x : List ℕ) → i + length x ≤ length l → is_at (sets l i x) i x ≡ true
unfolding is_at byte_at
is_at-here l i [] h = refl
is_at-here l i (a ∷ x) h =
    let g : get_or (sets (set l i a) (suc i) x) i 256 ≡ a = get_d_sets_below (set l i a) (suc i) x i 256 (omega arith) ∙ get_or-set_same l i a 256 (omega arith) in
    rw (g, eq-eqb a a refl, add-one) (is_at-here (set l i a) (suc i) x (simp length-set (omega arith)))

-- the row of one more drone ends within a table of the full size
pub row_fits : (d n w : ℕ) → d < n → d * w + w ≤ n * w
row_fits d n w h = omega (arith, suc-mul d w, mul-le-mul_right w h)
