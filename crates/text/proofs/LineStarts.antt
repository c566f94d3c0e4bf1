-- Where lines begin: after a line feed, and never inside a line. A text and the same with its names in small letters have the same keys at the start of each line.
use Prim.Native.Nat.{ℕ, zero, suc, ◌+◌, ◌-◌, ◌/◌, ◌%◌, ◌≤◌, ◌<◌}
use native.Mathlib.Nat.{add-zero, not-suc-le-zero}
use native.Mathlib.Numerals.{add-one}
use native.Mathlib.Omega.{arith}
use mathlib.Core.Path.{◌≡◌, refl, sym, ap, ◌∙◌, subst}
use mathlib.Core.List.{List, [], ◌∷◌, ◌++◌, append_assoc}
use mathlib.Core.Bool.{Bool, true, false, cond, not, ◌&&◌, false≢true}
use lib.Dec.{leb, ltb, eqb}
use borrow.Author.Tests.{lt-leb, ltb-true, ltb-false, eq-eqb, ne_eqb, eqb-true, eqb-false, not-true}
use lib.ListN.{length, get_or, get_or-eq_default, length-append}
use Rattle.below.specs.Below.{list_below}
use Rattle.below.proofs.Tests.{by_cases, and_left, and_right}
use Rattle.below.proofs.Index.{length-list_below, get_d_list_below, list_below_is}
use Rattle.tables.specs.Limits.{Limits}
use Rattle.lines.specs.Keys.{name_key}
use Rattle.lines.specs.Bytes.{byte_at, is_at}
use Rattle.lines.specs.Numbers.{digits}
use Rattle.lines.specs.Names.{is_capital, small_byte, small_form, is_name_byte, is_text_byte, text_bytes, text_name}
use Rattle.lines.proofs.ByteLaws.{Stands, stands_parts, stands_head, at_one}
use Rattle.lines.proofs.Letters.{small-length, small_byte_twice}
use Rattle.lines.proofs.SmallReads.{byte_small}
use Rattle.text.specs.Names.{line_start, in_name, names_small}

-- ---- where a line begins

-- a line begins here
abbrev pub Begins : List ℕ → ℕ → Type 0
Begins text p = line_start text p ≡ p

pub begins_first : (text : List ℕ) → Begins text 0
unfolding line_start
begins_first text = refl

-- .. after a line feed
begins_after : (text : List ℕ) (i : ℕ) → byte_at text i ≡ 10 → Begins text (i + 1)
unfolding line_start
begins_after text i e = rw (add-one i, eq-eqb (byte_at text i) 10 e) refl

goes_on : (text : List ℕ) (i : ℕ) → (byte_at text i ≡ 10 → ⊥) → line_start text (i + 1) ≡ line_start text i
unfolding line_start
goes_on text i e = rw (add-one i, ne_eqb (byte_at text i) 10 e) refl

-- .. where bytes that end with a line feed have ended
pub begins_next : (text : List ℕ) (at e : ℕ) (x : List ℕ) → Stands text at (x ++ 10 ∷ []) e → Begins text e
begins_next text at e x s =
    let w = stands_parts text at x (10 ∷ []) s.there in
    let n : e ≡ at + length x + 1 = s.next_is ∙ simp length-append (omega arith) in
    subst (Begins text) (sym n) (begins_after text (at + length x) (sym (at_one text (at + length x) 10 w.1)))

pub begins_line : (text : List ℕ) (at e : ℕ) (x y : List ℕ) → Stands text at (x ++ (y ++ 10 ∷ [])) e → Begins text e
begins_line text at e x y s = begins_next text at e (x ++ y) (subst (λ (l : List ℕ). Stands text at l e) (sym (append_assoc x y (10 ∷ []))) s)

-- ---- no line begins inside a line

abbrev pub no_feed_lem : List ℕ → Bool
no_feed_lem [] = true
no_feed_lem (b ∷ x) = not (eqb b 10) && no_feed_lem x

in_line : (text : List ℕ) (at q : ℕ) (x : List ℕ) → line_start text q ≡ at → is_at text q x ≡ true → no_feed_lem x ≡ true → (i : ℕ) → i ≤ length x → line_start text (q + i) ≡ at
in_line text at q x e h n zero l = rw (add-zero q) e
in_line text at q [] e h n (suc i) l = absurd (not-suc-le-zero l)
in_line text at q (b ∷ x) e h n (suc i) l =
    let w = stands_head text q b x h in
    let k : line_start text (q + 1) ≡ at = goes_on text q (λ z. eqb-false b 10 (not-true _ (and_left _ _ n)) (sym w.0 ∙ z)) ∙ e in
    let m : q + 1 + i ≡ q + suc i = omega arith in
    subst (λ (j : ℕ). line_start text j ≡ at) m (in_line text at (q + 1) x k w.1 (and_right (not (eqb b 10)) _ n) i (omega (arith, l)))

-- a line that begins before the end of another, and not before it, is that line
pub none_inside : (text : List ℕ) (at e p : ℕ) (x : List ℕ) → Begins text at → Stands text at (x ++ 10 ∷ []) e → no_feed_lem x ≡ true → Begins text p → at ≤ p → p < e → at ≡ p
none_inside text at e p x b s n c l m =
    let w = stands_parts text at x (10 ∷ []) s.there in
    let k : e ≡ at + length x + 1 = s.next_is ∙ simp length-append (omega arith) in
    let i : at + (p - at) ≡ p = omega (arith, l) in
    let z : line_start text (at + (p - at)) ≡ at = in_line text at at x b w.0 n (p - at) (omega (arith, k, m, l)) in
    sym (subst (λ (j : ℕ). line_start text j ≡ at) i z) ∙ c

pub none_in_line : (text : List ℕ) (at e p : ℕ) (x y : List ℕ) → Begins text at → Stands text at (x ++ (y ++ 10 ∷ [])) e → no_feed_lem (x ++ y) ≡ true → Begins text p → at ≤ p → p < e → at ≡ p
none_in_line text at e p x y b s = none_inside text at e p (x ++ y) b (subst (λ (l : List ℕ). Stands text at l e) (sym (append_assoc x y (10 ∷ []))) s)

pub feed_join : (x y : List ℕ) → no_feed_lem x ≡ true → no_feed_lem y ≡ true → no_feed_lem (x ++ y) ≡ true
feed_join [] y a b = b
feed_join (c ∷ x) y a b = rw (and_left (not (eqb c 10)) (no_feed_lem x) a) (feed_join x y (and_right (not (eqb c 10)) (no_feed_lem x) a) b)

digit_feed : (d : ℕ) → no_feed_lem ((48 + d) ∷ []) ≡ true
digit_feed d = rw (ne_eqb (48 + d) 10 (λ z. omega (arith, z))) refl

pub digits_feed : (left n : ℕ) → no_feed_lem (digits left n) ≡ true
unfolding digits
digits_feed zero n = refl
digits_feed (suc left) n = by_cases (ltb n 10) (λ e. rw e (digit_feed n)) (λ e. rw e (feed_join (digits left (n / 10)) ((48 + n % 10) ∷ []) (digits_feed left (n / 10)) (digit_feed (n % 10))))

bytes_feed : (x : List ℕ) → text_bytes x ≡ true → no_feed_lem x ≡ true
unfolding text_bytes is_text_byte is_capital is_name_byte
bytes_feed [] h = refl
bytes_feed (b ∷ x) h =
    let w = and_left (is_text_byte b) (text_bytes x) h in
    rw (ne_eqb b 10 (λ z. false≢true (rw z at w))) (bytes_feed x (and_right (is_text_byte b) (text_bytes x) h))

pub name_feed : (L : Limits) (x : List ℕ) → text_name L x ≡ true → no_feed_lem x ≡ true
unfolding text_name
name_feed L x h = bytes_feed x (and_right (leb (length x) L.name) (text_bytes x) (and_right (leb 1 (length x)) _ h))

-- ---- the bytes of the text with its names in small letters

module _ (text : List ℕ) where
  abbrev entry : ℕ → ℕ
  entry i = cond (in_name text i) (small_byte (byte_at text i)) (byte_at text i)

  byte_named : (i : ℕ) → i < length text → byte_at (names_small text) i ≡ entry i
  unfolding names_small byte_at
  byte_named i h = get_d_list_below (length text) (λ i. cond (in_name text i) (small_byte (get_or text i 256)) (get_or text i 256)) 256 i h

  pub named-length : length (names_small text) ≡ length text
  unfolding names_small
  named-length = length-list_below (length text) _

  byte_past : (l : List ℕ) (i : ℕ) → length l ≤ i → byte_at l i ≡ 256
  unfolding byte_at
  byte_past l i h = get_or-eq_default l 256 h

  byte_other : (i : ℕ) → in_name text i ≡ false → byte_at (names_small text) i ≡ byte_at text i
  byte_other i h = by_cases (ltb i (length text))
      (λ e. byte_named i (ltb-true i (length text) e) ∙ rw h refl)
      (λ e. let k = ltb-false i (length text) e in byte_past (names_small text) i (omega (arith, k, named-length)) ∙ sym (byte_past text i k))

  -- the two have one small form
  small_entry : (b : Bool) (x : ℕ) → small_byte (cond b (small_byte x) x) ≡ small_byte x
  small_entry true x = small_byte_twice x
  small_entry false x = refl

  listed : (l : List ℕ) → length l ≡ length text → ((i : ℕ) → i < length text → byte_at l i ≡ small_byte (byte_at text i)) → l ≡ list_below (length text) (λ i. small_byte (byte_at text i))
  unfolding byte_at
  listed l n h = list_below_is (length text) (λ i. small_byte (get_or text i 256)) 256 l n h

  pub one_small_form : small_form (names_small text) ≡ small_form text
  one_small_form =
      listed (small_form (names_small text)) (small-length (names_small text) ∙ named-length)
      (λ i h. byte_small (names_small text) i ∙ (ap small_byte (byte_named i h) ∙ small_entry (in_name text i) (byte_at text i)))
      ∙ sym (listed (small_form text) (small-length text) (λ i h. byte_small text i))

  -- ---- keys

  -- no byte but the last is a line feed
  abbrev one_line : List ℕ → Bool
  one_line [] = true
  one_line (b ∷ []) = true
  one_line (b ∷ c ∷ key) = not (eqb b 10) && one_line (c ∷ key)

  -- bytes of a line that stand in no name
  key_outside : (p q : ℕ) (key : List ℕ) → line_start text q ≡ p → ((i : ℕ) → i < q + length key → line_start text i ≡ p → in_name text i ≡ false) → one_line key ≡ true
      → is_at (names_small text) q key ≡ is_at text q key
  unfolding is_at
  key_outside p q [] e h o = refl
  key_outside p q (b ∷ []) e h o = rw (byte_other q (h q (omega arith) e)) refl
  key_outside p q (b ∷ c ∷ key) e h o = by_cases (eqb (byte_at text q) b)
      (λ k.
      let n : line_start text (q + 1) ≡ p = goes_on text q (λ z. eqb-false b 10 (not-true _ (and_left _ _ o)) (sym (eqb-true (byte_at text q) b k) ∙ z)) ∙ e in
      rw (byte_other q (h q (omega arith) e)) (ap (λ (x : Bool). eqb (byte_at text q) b && x) (key_outside p (q + 1) (c ∷ key) n (λ i l. h i (omega arith)) (and_right (not (eqb b 10)) _ o))))
      (λ k. rw (byte_other q (h q (omega arith) e), k) refl)

  module _ (p : ℕ) (begins : Begins text p) where
    -- in a line that is no name's
    outside_line : is_at text p name_key ≡ false → (i : ℕ) → line_start text i ≡ p → in_name text i ≡ false
    unfolding in_name
    outside_line h i e = rw (e, h) refl

    -- before a name
    outside_key : (i : ℕ) → i < p + 5 → line_start text i ≡ p → in_name text i ≡ false
    unfolding in_name
    outside_key i l e = rw (e, lt-leb (p + 5) i l) (by_cases (is_at text p name_key) (λ k. rw k refl) (λ k. rw k refl))

    pub name_kept : is_at (names_small text) p name_key ≡ is_at text p name_key
    name_kept = key_outside p p name_key begins (λ i l. outside_key i l) refl

    -- another key
    pub key_kept : (b : ℕ) (key : List ℕ) → (b ≡ 110 → ⊥) → one_line (b ∷ key) ≡ true → is_at (names_small text) p (b ∷ key) ≡ is_at text p (b ∷ key)
    unfolding is_at
    key_kept b key ne o = by_cases (is_at text p name_key)
        (λ k.
        let n : byte_at text p ≡ 110 = (stands_head text p 110 (97 ∷ 109 ∷ 101 ∷ 61 ∷ []) k).0 in
        let f : eqb (byte_at text p) b ≡ false = ne_eqb (byte_at text p) b (λ z. ne (sym z ∙ n)) in
        rw (byte_other p (outside_key p (omega arith) begins), f) refl)
        (λ k. key_outside p p (b ∷ key) begins (λ i l. outside_line k i) o)
