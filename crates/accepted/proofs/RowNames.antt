-- The names of a valid plan, byte by byte in their rows: name bytes up to the name's length and zeros after it, and no two rows are equal.
use mathlib.Core.Path.{◌≡◌, refl, ◌∙◌, subst}
use mathlib.Core.Bool.{true, false}
use mathlib.Core.List.{List, [], ◌∷◌, ◌++◌, append_assoc}
use Prim.Native.Nat.{ℕ, zero, suc, ◌+◌, ◌*◌, ◌≤◌, ◌<◌}
use native.Mathlib.Nat.{zero-mul, zero-add, suc-mul}
use native.Mathlib.Omega.{arith}
use lib.Dec.{ltb, eqb}
use borrow.Author.Tests.{ltb-true, ltb-false, eq-eqb, ne_eqb}
use lib.ListN.{length, get_or, replicate, length-append, length-replicate, get_or-replicate, get_or-append}
use lib.Seq.{get_or-append-add}
use Rattle.below.specs.Below.{at}
use Rattle.below.proofs.Tests.{by_cases, and_left, and_right, and_both, or_left, or_right}
use Rattle.tables.specs.Limits.{Limits}
use Rattle.lines.specs.Names.{is_name_byte, name_bytes, good_name, row_of}
use Rattle.text.specs.LinesRead.{same, elem, flat}
use Rattle.text.specs.Written.{Route, rows_of, InLimitsFrom, InLimits}
use Rattle.text.proofs.Rows.{AllLong}
use Rattle.accepted.proofs.Stored.{sets_at, at-past}

-- ---- one row

zeros-at : (n i : ℕ) → at (replicate n 0) i ≡ 0
zeros-at n i = by_cases (ltb i n) (λ e. get_or-replicate n i 0 0 (ltb-true i n e)) (λ e. at-past (replicate n 0) i (omega (arith, length-replicate {A = ℕ} n 0, ltb-false i n e)))

-- a row's bytes are the name's, 0 past its end
pub row_at : (L : Limits) (x : List ℕ) → length x ≤ L.name → (i : ℕ) → at (row_of L x) i ≡ at x i
row_at L x h i = sets_at (replicate L.name 0) x i (omega (arith, length-replicate {A = ℕ} L.name 0)) (zeros-at L.name i)

pub name_byte_lem : (x : List ℕ) → name_bytes x ≡ true → (i : ℕ) → i < length x → is_name_byte (at x i) ≡ true
unfolding name_bytes
name_byte_lem [] h i l = absurd (omega arith)
name_byte_lem (b ∷ x) h zero l = and_left (is_name_byte b) (name_bytes x) h
name_byte_lem (b ∷ x) h (suc i) l = name_byte_lem x (and_right (is_name_byte b) (name_bytes x) h) i (omega arith)

-- no name byte is 0
pub byte_some : (b : ℕ) → is_name_byte b ≡ true → eqb b 0 ≡ false
unfolding is_name_byte
byte_some zero h = absurd (let z : ◌≡◌ {A = ℕ} 0 1 = cc h in omega arith)
byte_some (suc b) h = ne_eqb (suc b) 0 (λ q. omega arith)

-- ---- rows one after another

pub flat-at : (L : Limits) (rs : List (List ℕ)) → AllLong L rs → (d i : ℕ) → d < length rs → i < L.name → at (flat rs) (d * L.name + i) ≡ at (get_or rs d []) i
flat-at L [] a d i l h = absurd (omega arith)
flat-at L (r ∷ rs) a zero i l h = rw (zero-mul L.name, zero-add i) (get_or-append r (flat rs) 0 i (omega (arith, a.0)))
flat-at L (r ∷ rs) a (suc d) i l h =
    let e : suc d * L.name + i ≡ length r + (d * L.name + i) = omega (arith, a.0, suc-mul d L.name) in
    rw e (get_or-append-add r (flat rs) (d * L.name + i) 0 ∙ flat-at L rs a.1 d i (omega arith) h)

-- ---- the row of each drone

-- the row of drone d is that of a good name
pub record GoodRow (L : Limits) (row : List ℕ) : Type 0 where
  pub name : List ℕ
  pub row_is : row ≡ row_of L name
  pub good : good_name L name ≡ true

pub good_rows : (L : Limits) (form : ℕ) (ds : List Route) (earlier : List (List ℕ)) (total : ℕ) → InLimitsFrom L form earlier total ds → (d : ℕ) → d < length ds → GoodRow L (get_or (rows_of L ds) d [])
good_rows L form [] earlier total v d l = absurd (omega arith)
good_rows L form (r ∷ ds) earlier total v zero l = record { name = r.name; row_is = refl; good = v.0 }
good_rows L form (r ∷ ds) earlier total v (suc d) l = good_rows L form ds (earlier ++ row_of L r.name ∷ []) (total + length r.locations) v.5 d (omega arith)

-- ---- rows that differ

elem-none : (rs : List (List ℕ)) (row : List ℕ) → elem rs row ≡ false → (more : List (List ℕ)) (k : ℕ) → k < length rs → same (get_or (rs ++ more) k []) row ≡ false
unfolding elem
elem-none [] row h more k l = absurd (omega arith)
elem-none (r ∷ rs) row h more zero l = or_left (same r row) (elem rs row) h
elem-none (r ∷ rs) row h more (suc k) l = elem-none rs row (or_right (same r row) (elem rs row) h) more k (omega arith)

-- the row of drone d is not among the earlier ones, those of the drones before it included
rows_differ_from : (L : Limits) (form : ℕ) (ds : List Route) (earlier : List (List ℕ)) (total : ℕ) → InLimitsFrom L form earlier total ds → (d k : ℕ) → d < length ds → k < length earlier + d
    → same (get_or (earlier ++ rows_of L ds) k []) (get_or (rows_of L ds) d []) ≡ false
rows_differ_from L form [] earlier total v d k l h = absurd (omega arith)
rows_differ_from L form (r ∷ ds) earlier total v zero k l h = elem-none earlier (row_of L r.name) v.1 (rows_of L (r ∷ ds)) k (omega arith)
rows_differ_from L form (r ∷ ds) earlier total v (suc d) k l h =
    let row = row_of L r.name in
    let ih = rows_differ_from L form ds (earlier ++ row ∷ []) (total + length r.locations) v.5 d k (omega arith) (omega (arith, length-append earlier (row ∷ []))) in
    subst (λ (x : List (List ℕ)). same (get_or x k []) (get_or (rows_of L ds) d []) ≡ false) (append_assoc earlier (row ∷ []) (rows_of L ds)) ih

pub rows_differ : (L : Limits) (form : ℕ) (ds : List Route) → InLimits L form ds → (d e : ℕ) → d < length ds → e < d → same (get_or (rows_of L ds) e []) (get_or (rows_of L ds) d []) ≡ false
rows_differ L form ds v d e l h = rows_differ_from L form ds [] 0 v.2 d e l (omega arith)

-- lists of one length whose bytes are equal
pub same_all : (x y : List ℕ) → length x ≡ length y → ((i : ℕ) → i < length x → at x i ≡ at y i) → same x y ≡ true
unfolding same
same_all [] [] l h = refl
same_all [] (b ∷ y) l h = absurd (omega arith)
same_all (a ∷ x) [] l h = absurd (omega arith)
same_all (a ∷ x) (b ∷ y) l h = and_both (eqb a b) (same x y) (eq-eqb a b (h zero (omega arith))) (same_all x y (omega arith) (λ i k. h (suc i) (omega arith)))
