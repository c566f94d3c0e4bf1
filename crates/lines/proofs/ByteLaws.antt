-- A byte string stands in the text where each of its bytes does: by its first byte, joined and taken apart.
use Prim.Native.Nat.{ℕ, zero, suc, ◌+◌, ◌-◌, ◌≤◌, ◌<◌, suc-le-suc}
use native.Mathlib.Nat.{add-zero, not-suc-le-zero, le_of_suc-le-suc, lt_irrefl}
use native.Mathlib.Numerals.{add-one}
use native.Mathlib.Omega.{arith}
use mathlib.Core.Path.{◌≡◌, refl, sym, subst, ◌∙◌}
use mathlib.Core.List.{List, [], ◌∷◌, ◌++◌}
use mathlib.Core.Bool.{Bool, true, false, ◌&&◌, false≢true, and_assoc}
use lib.Dec.{ltb, leb, eqb, eqb-suc-zero}
use borrow.Author.Tests.{ltb-true, ltb-false, leb-true, leb-false, lt-ltb, le-leb, lt-leb, eqb-true, eqb-false, eq-eqb, ne_eqb}
use lib.ListN.{length, get_or, drop, take, get_or-eq_default, drop_of_length-le, length-append}
use lib.Seq.{drop-cons, drop-length}
use Rattle.std.specs.Cmp.Lexicographic.{pointwise}
use Rattle.lines.specs.Bytes.{byte_at, is_at}

-- within a list the default does not matter
pub get_d_in : (l : List ℕ) (i d e : ℕ) → i < length l → get_or l i d ≡ get_or l i e
get_d_in [] i d e h = absurd (not-suc-le-zero h)
get_d_in (x ∷ l) zero d e h = refl
get_d_in (x ∷ l) (suc i) d e h = get_d_in l i d e (le_of_suc-le-suc h)

-- where a byte stands, the text has not ended
pub byte_at_in : (l : List ℕ) (i b : ℕ) → b ≡ byte_at l i → b < 256 → i < length l
unfolding byte_at
byte_at_in [] i b e h = absurd (lt_irrefl 256 (subst (λ (k : ℕ). k < 256) e h))
byte_at_in (x ∷ l) zero b e h = omega arith
byte_at_in (x ∷ l) (suc i) b e h = suc-le-suc (byte_at_in l i b e h)

-- both halves of a test that holds
pub both : (a b : Bool) → (a && b) ≡ true → (a ≡ true) × (b ≡ true)
both true b e = (refl, e)
both false b e = (e, absurd (false≢true e))

-- the rest of the bytes from index i on: at another byte, at the same byte, at the end of the bytes
module _ (text key : List ℕ) (at i : ℕ) where
  pub key_other : i < length key → at < length text → (get_or text at 0 ≡ get_or key i 0 → ⊥) → is_at text at (drop i key) ≡ false
  unfolding is_at byte_at
  key_other h e n = rw (drop-cons key i 0, get_d_in text at 256 0 e, ne_eqb (get_or text at 0) (get_or key i 0) n)

  pub key_same : i < length key → at < length text → get_or text at 0 ≡ get_or key i 0 → is_at text at (drop i key) ≡ is_at text (at + 1) (drop (i + 1) key)
  unfolding is_at byte_at
  key_same h e n = rw (drop-cons key i 0, get_d_in text at 256 0 e, eq-eqb (get_or text at 0) (get_or key i 0) n, add-one i)

  pub key_end : i ≡ length key → is_at text at (drop i key) ≡ true
  unfolding is_at
  key_end e = rw (e, drop-length)

pub is_at-append : (text : List ℕ) (at : ℕ) (xs ys : List ℕ) → is_at text at (xs ++ ys) ≡ (is_at text at xs && is_at text (at + length xs) ys)
unfolding is_at
is_at-append text at [] ys = rw add-zero
is_at-append text at (b ∷ xs) ys =
    let e : at + 1 + length xs ≡ at + suc (length xs) = omega arith in
    rw (is_at-append text (at + 1) xs ys, e, and_assoc)

-- bytes that stand in the text end within it
abbrev pub small : List ℕ → Bool
small [] = true
small (b ∷ bytes) = ltb b 256 && small bytes

pub is_at_in : (text : List ℕ) (at b : ℕ) (bytes : List ℕ) → is_at text at (b ∷ bytes) ≡ true → small (b ∷ bytes) ≡ true → at + length (b ∷ bytes) ≤ length text
unfolding is_at
is_at_in text at b [] e s = let h = byte_at_in text at b (sym (eqb-true _ _ (both _ _ e).0)) (ltb-true _ _ (both _ _ s).0) in omega arith
is_at_in text at b (d ∷ bytes) e s =
    let h = is_at_in text (at + 1) d bytes (both (eqb (byte_at text at) b) (is_at text (at + 1) (d ∷ bytes)) e).1 (both (ltb b 256) (small (d ∷ bytes)) s).1 in
    omega arith

-- the bytes of a slice are small
pub small_of : (l : List ℕ) → ((i : ℕ) → get_or l i 0 < 256) → small l ≡ true
small_of [] h = refl
small_of (b ∷ l) h = rw (lt-ltb b 256 (h 0), small_of l (λ i. h (suc i)))

-- as `is_at_in`, for a list that is not empty
pub is_at-within : (text : List ℕ) (at : ℕ) (bytes : List ℕ) → 0 < length bytes → ((i : ℕ) → get_or bytes i 0 < 256) → is_at text at bytes ≡ true → at + length bytes ≤ length text
is_at-within text at [] h s e = absurd (not-suc-le-zero h)
is_at-within text at (b ∷ bytes) h s e = is_at_in text at b bytes e (small_of (b ∷ bytes) s)

-- the difference compared in place of the sum, which could be too large for a machine number
pub room : (a k n : ℕ) → k ≤ n → leb a (n - k) ≡ leb (a + k) n
room a k n h = by_test (leb a (n - k)) refl
  where
    by_test : (t : Bool) → leb a (n - k) ≡ t → t ≡ leb (a + k) n
    by_test true e = sym (le-leb (a + k) n (omega (arith, h, leb-true a (n - k) e)))
    by_test false e = sym (lt-leb (a + k) n (omega (arith, h, leb-false a (n - k) e)))

-- a key that is longer than what is left of the text does not stand there
pub key_long : (text : List ℕ) (at : ℕ) (key : List ℕ) → 0 < length key → ((i : ℕ) → get_or key i 0 < 256) → leb (at + length key) (length text) ≡ false → is_at text at key ≡ false
key_long text at key h s e = by_test (is_at text at key) refl
  where
    by_test : (t : Bool) → is_at text at key ≡ t → t ≡ false
    by_test true q = absurd (omega (arith, is_at-within text at key h s q, leb-false (at + length key) (length text) e))
    by_test false q = refl

eqb_swap : (a b : ℕ) → eqb a b ≡ eqb b a
eqb_swap a b = by_test (eqb a b) refl
  where
    by_test : (t : Bool) → eqb a b ≡ t → t ≡ eqb b a
    by_test true e = sym (eq-eqb b a (sym (eqb-true a b e)))
    by_test false e = sym (ne_eqb b a (λ q. eqb-false a b e (sym q)))

-- a key stands where the bytes from its position on begin with it
pub begins_with : (text key : List ℕ) (at : ℕ) → at ≤ length text → ((i : ℕ) → get_or key i 0 < 256) → pointwise eqb key (take (length key) (drop at text)) ≡ is_at text at key
unfolding is_at byte_at
begins_with text [] at h s = refl
begins_with text (b ∷ key) at h s = by_test (ltb at (length text)) refl (λ k. begins_with text key (at + 1) k (λ i. s (suc i)))
  where
    by_test : (t : Bool) → ltb at (length text) ≡ t → (at + 1 ≤ length text → pointwise eqb key (take (length key) (drop (at + 1) text)) ≡ is_at text (at + 1) key) → pointwise eqb (b ∷ key) (take (suc (length key)) (drop at text)) ≡ (eqb (get_or text at 256) b && is_at text (at + 1) key)
    by_test true e ih =
        let k : at < length text = ltb-true _ _ e in
        let d : get_or text at 256 ≡ get_or text at 0 = get_d_in text at 256 0 k in
        rw (drop-cons text at 0 k, d, eqb_swap b (get_or text at 0), ← add-one at, ih (omega arith))
    by_test false e ih =
        let k : length text ≤ at = ltb-false _ _ e in
        rw (drop_of_length-le text k, get_or-eq_default text 256 k, ne_eqb 256 b (λ q. lt_irrefl 256 (subst (λ (k : ℕ). k < 256) (sym q) (s 0))))

-- past the text's end no byte stands, and of the keys only the empty one
pub none_at : (text key : List ℕ) (at b : ℕ) → b < 256 → length text ≤ at → is_at text at (b ∷ key) ≡ false
unfolding is_at byte_at
none_at text key at b small h = rw (get_or-eq_default text 256 h, ne_eqb 256 b (λ q. lt_irrefl 256 (subst (λ (k : ℕ). k < 256) (sym q) small)))

pub past_end : (text key : List ℕ) (at : ℕ) → length text < at → ((i : ℕ) → get_or key i 0 < 256) → eqb (length key) 0 ≡ is_at text at key
unfolding is_at byte_at
past_end text [] at h s = refl
past_end text (b ∷ key) at h s = rw (eqb-suc-zero (length key)) (sym (none_at text key at b (s 0) (omega arith)))

-- where the text ends before the key would, only the empty key stands
pub short_of : (text key : List ℕ) (at : ℕ) → length text < at + length key → ((i : ℕ) → get_or key i 0 < 256) → eqb (length key) 0 ≡ is_at text at key
unfolding is_at
short_of text [] at h s = refl
short_of text (b ∷ key) at h s = rw (eqb-suc-zero (length key)) (sym (key_long text at (b ∷ key) (omega arith) s (lt-leb (at + length (b ∷ key)) (length text) h)))

-- where the first n bytes of a row stand, the text has not ended; where they do not, neither does the row
pub head_within : (text : List ℕ) (at n : ℕ) (row : List ℕ) → 0 < n → 0 < length row → ((i : ℕ) → get_or row i 0 < 256) → is_at text at (take n row) ≡ true → at < length text
unfolding is_at
head_within text at zero row h l s e = absurd (not-suc-le-zero h)
head_within text at (suc n) [] h l s e = absurd (not-suc-le-zero l)
head_within text at (suc n) (b ∷ row) h l s e = byte_at_in text at b (sym (eqb-true _ _ (both (eqb (byte_at text at) b) (is_at text (at + 1) (take n row)) e).0)) (s 0)

pub head_not : (text : List ℕ) (at n : ℕ) (row : List ℕ) → is_at text at (take n row) ≡ false → is_at text at row ≡ false
unfolding is_at
head_not text at zero row e = absurd (false≢true (sym e))
head_not text at (suc n) [] e = absurd (false≢true (sym e))
head_not text at (suc n) (b ∷ row) e = by_test (eqb (byte_at text at) b) (λ q. head_not text (at + 1) n row q) e
  where
    by_test : (t : Bool) → (is_at text (at + 1) (take n row) ≡ false → is_at text (at + 1) row ≡ false) → (t && is_at text (at + 1) (take n row)) ≡ false → (t && is_at text (at + 1) row) ≡ false
    by_test true on q = on q
    by_test false on q = refl

-- one byte that stands at a position
pub at_one : (text : List ℕ) (at b : ℕ) → is_at text at (b ∷ []) ≡ true → b ≡ byte_at text at
unfolding is_at
at_one text at b e = sym (eqb-true _ _ (both _ _ e).0)

pub one_at : (text : List ℕ) (at b : ℕ) → b ≡ byte_at text at → is_at text at (b ∷ []) ≡ true
unfolding is_at
one_at text at b e = rw (eq-eqb _ _ (sym e))

-- ---- pieces of the text, one after the other

-- `bytes` stand from a position up to the next
pub record Stands (text : List ℕ) (at : ℕ) (bytes : List ℕ) (next : ℕ) : Type 0 where
  pub there : is_at text at bytes ≡ true
  pub next_is : next ≡ at + length bytes

module _ {text : List ℕ} {at : ℕ} where
  pub stands_join : {xs ys : List ℕ} {m n : ℕ} → Stands text at xs m → Stands text m ys n → Stands text at (xs ++ ys) n
  stands_join {xs} {ys} {m} {n} p q = record {
    there = rw (is_at-append, p.there, ← p.next_is) q.there;
    next_is = simp length-append (omega (arith, p.next_is, q.next_is));
  }

  pub stands_byte : (b : ℕ) → b ≡ byte_at text at → Stands text at (b ∷ []) (at + 1)
  stands_byte b e = record { there = one_at text at b e; next_is = refl }

pub stands_parts : (text : List ℕ) (at : ℕ) (xs ys : List ℕ) → is_at text at (xs ++ ys) ≡ true → (is_at text at xs ≡ true) × (is_at text (at + length xs) ys ≡ true)
stands_parts text at xs ys e = both _ _ (rw is_at-append at e)

pub stands_head : (text : List ℕ) (at b : ℕ) (bytes : List ℕ) → is_at text at (b ∷ bytes) ≡ true → (byte_at text at ≡ b) × (is_at text (at + 1) bytes ≡ true)
unfolding is_at
stands_head text at b bytes e = let w = both (eqb (byte_at text at) b) (is_at text (at + 1) bytes) e in (eqb-true _ _ w.0, w.1)

-- ---- parts of the text

-- the bytes of a part stand where it starts
pub part_at : (text : List ℕ) (s n : ℕ) → s + n ≤ length text → is_at text s (take n (drop s text)) ≡ true
unfolding is_at byte_at
part_at text s zero h = refl
part_at text s (suc n) h =
    let p : s < length text = omega arith in
    let q : get_or text s 256 ≡ get_or text s 0 = get_d_in text s 256 0 p in
    rw (drop-cons text s 0 p, eq-eqb (get_or text s 256) (get_or text s 0) q, ← add-one s) (part_at text (s + 1) n (omega arith))

-- a byte that stands at a position, by the list of the text
pub byte_here : (text : List ℕ) (p b : ℕ) → byte_at text p ≡ b → b < 256 → (p < length text) × (get_or text p 0 ≡ b)
unfolding byte_at
byte_here text p b e h =
    let i = byte_at_in text p b (sym e) h in
    (i, get_d_in text p 0 256 i ∙ e)
