-- Capitals and their small forms: byte by byte, and over a text.
use Prim.Native.Nat.{ℕ, zero, suc, ◌+◌, ◌≤◌, ◌<◌}
use native.Mathlib.Omega.{arith}
use mathlib.Core.Path.{◌≡◌, refl, sym, ap, ◌∙◌}
use mathlib.Core.List.{List, [], ◌∷◌, ◌++◌}
use mathlib.Core.Bool.{Bool, true, false, ◌&&◌}
use lib.Dec.{leb, ltb}
use Rattle.std.specs.Char.{to_ascii_lowercase}
use borrow.Author.Tests.{leb-true, le-leb, lt-leb, ltb-true, ltb-false}
use lib.ListN.{length, get_or, drop, set}
use lib.Seq.{sets}
use Rattle.tables.specs.Limits.{Limits}
use Rattle.lines.specs.Names.{is_capital, small_byte, small_form, is_name_byte, name_bytes, good_name, is_text_byte, text_bytes, text_name}
use Rattle.lines.proofs.ByteLaws.{both}
use Rattle.lines.proofs.WriteLaws.{sets_step, sets_done}

-- ---- a byte

pub by_test : {C : Type 0} (b : Bool) → (b ≡ true → C) → (b ≡ false → C) → C
by_test true t f = t refl
by_test false t f = f refl

-- a capital is from 65 to 90
pub capital_range : (b : ℕ) → is_capital b ≡ true → (65 ≤ b) × (b ≤ 90)
unfolding is_capital
capital_range b h = let w = both (leb 65 b) (leb b 90) h in (leb-true 65 b w.0, leb-true b 90 w.1)

pub capital_below : (b : ℕ) → b < 65 → is_capital b ≡ false
unfolding is_capital
capital_below b h = rw (lt-leb 65 b h) refl

pub capital_above : (b : ℕ) → 90 < b → is_capital b ≡ false
unfolding is_capital
capital_above b h = let k : 65 ≤ b = omega arith in rw (le-leb 65 b k, lt-leb b 90 h) refl

pub capital_within : (b : ℕ) → 65 ≤ b → b ≤ 90 → is_capital b ≡ true
unfolding is_capital
capital_within b h k = rw (le-leb 65 b h, le-leb b 90 k)

-- its small form
pub small_capital : (b : ℕ) → is_capital b ≡ true → small_byte b ≡ b + 32
unfolding small_byte
small_capital b h = rw h refl

pub small-own : (b : ℕ) → is_capital b ≡ false → small_byte b ≡ b
unfolding small_byte
small-own b h = rw h refl

-- std's small letter is the small form
pub small_lowercase : (b : ℕ) → to_ascii_lowercase b ≡ small_byte b
small_lowercase b = by_test (ltb b 65)
    (λ h. rw (h, small-own b (capital_below b (ltb-true b 65 h))))
    (λ h.
    let low = ltb-false b 65 h in
    by_test (ltb b 91)
    (λ k. let high = ltb-true b 91 k in rw (h, k, small_capital b (capital_within b low (omega arith))))
    (λ k. let high = ltb-false b 91 k in rw (h, k, small-own b (capital_above b (omega arith)))))

-- no small form is a capital
pub small-none : (b : ℕ) → is_capital (small_byte b) ≡ false
small-none b = by_test (is_capital b)
    (λ h. let k = capital_range b h in rw (small_capital b h) (capital_above (b + 32) (omega (arith, k.0))))
    (λ h. rw (small-own b h) h)

pub small_byte_twice : (b : ℕ) → small_byte (small_byte b) ≡ small_byte b
small_byte_twice b = small-own (small_byte b) (small-none b)

-- no capital is a byte of a name in the tables
pub capital_no_name : (b : ℕ) → is_capital b ≡ true → is_name_byte b ≡ false
unfolding is_name_byte
capital_no_name b h =
    let k = capital_range b h in
    let p : b < 97 = omega (arith, k.1) in
    let q : 48 ≤ b = omega (arith, k.0) in
    let r : 57 < b = omega (arith, k.0) in
    rw (lt-leb 97 b p, le-leb 48 b q, lt-leb b 57 r) refl

small_letter : (b : ℕ) → is_capital b ≡ true → is_name_byte (b + 32) ≡ true
unfolding is_name_byte
small_letter b h =
    let k = capital_range b h in
    let p : 97 ≤ b + 32 = omega (arith, k.0) in
    let q : b + 32 ≤ 122 = omega (arith, k.1) in
    rw (le-leb 97 (b + 32) p, le-leb (b + 32) 122 q) refl

-- a byte of a name in a text is one whose small form is a byte of a name in the tables
pub text_byte : (b : ℕ) → is_text_byte b ≡ is_name_byte (small_byte b)
unfolding is_text_byte
text_byte b = by_test (is_capital b)
    (λ h. rw (small_capital b h, small_letter b h, h) refl)
    (λ h. rw (small-own b h, h) refl)

pub text_capital : (b : ℕ) → is_capital b ≡ true → true ≡ is_text_byte b
unfolding is_text_byte
text_capital b h = rw h refl

pub text_other : (b : ℕ) → is_capital b ≡ false → is_name_byte b ≡ is_text_byte b
unfolding is_text_byte
text_other b h = rw h refl

-- a byte of a name in the tables is its own small form
pub name_own : (b : ℕ) → is_name_byte b ≡ true → small_byte b ≡ b
name_own b h = by_test (is_capital b)
    (λ k. absurd (let z : ◌≡◌ {A = ℕ} 0 1 = cc (capital_no_name b k, h) in omega arith))
    (λ k. small-own b k)

-- ---- a text

pub small-length : (s : List ℕ) → length (small_form s) ≡ length s
unfolding small_form
small-length [] = refl
small-length (b ∷ s) = ap suc (small-length s)

-- the byte at an index, where the default is its own small form
pub small_at : (s : List ℕ) (i d : ℕ) → small_byte d ≡ d → get_or (small_form s) i d ≡ small_byte (get_or s i d)
unfolding small_form
small_at [] i d e = sym e
small_at (b ∷ s) zero d e = refl
small_at (b ∷ s) (suc i) d e = small_at s i d e

pub small-append : (x y : List ℕ) → small_form (x ++ y) ≡ small_form x ++ small_form y
unfolding small_form
small-append [] y = refl
small-append (b ∷ x) y = ap (λ (l : List ℕ). small_byte b ∷ l) (small-append x y)

pub small_twice : (s : List ℕ) → small_form (small_form s) ≡ small_form s
unfolding small_form
small_twice [] = refl
small_twice (b ∷ s) = rw (small_byte_twice b, small_twice s) refl

-- one store of a small form that is left from index i of the bytes on, and none
pub small-step : (b : List ℕ) (at i x : ℕ) (s : List ℕ) → i < length s → x ≡ small_byte (get_or s i 0)
    → sets b (at + i) (drop i (small_form s)) ≡ sets (set b (at + i) x) (at + (i + 1)) (drop (i + 1) (small_form s))
unfolding small_byte is_capital
small-step b at i x s h e = sets_step b at i (small_form s) (omega (arith, small-length s)) ∙ rw (e ∙ sym (small_at s i 0 refl)) refl

pub small_done : (b : List ℕ) (at i : ℕ) (s : List ℕ) → i ≡ length s → sets b (at + i) (drop i (small_form s)) ≡ b
small_done b at i s e = sets_done b at i (small_form s) (e ∙ sym (small-length s))

-- ---- a name

text_bytes-small : (s : List ℕ) → text_bytes s ≡ name_bytes (small_form s)
unfolding text_bytes name_bytes small_form
text_bytes-small [] = refl
text_bytes-small (b ∷ s) = rw (text_byte b, text_bytes-small s) refl

-- a name in a text is one whose small form is a name in the tables
pub text_name_lem : (L : Limits) (s : List ℕ) → text_name L s ≡ good_name L (small_form s)
unfolding text_name good_name
text_name_lem L s = rw (small-length s, text_bytes-small s) refl

-- a name in the tables is its own small form
pub bytes-own : (s : List ℕ) → name_bytes s ≡ true → small_form s ≡ s
unfolding name_bytes small_form
bytes-own [] h = refl
bytes-own (b ∷ s) h = let w = both (is_name_byte b) (name_bytes s) h in rw (name_own b w.0, bytes-own s w.1) refl

pub good_own : (L : Limits) (s : List ℕ) → good_name L s ≡ true → small_form s ≡ s
unfolding good_name
good_own L s h = bytes-own s (both (leb (length s) L.name) (name_bytes s) (both (leb 1 (length s)) (leb (length s) L.name && name_bytes s) h).1).1
