-- The line of a name: what was read stands there, and what was written is read back.
use Prim.Native.Nat.{ℕ, zero, suc, ◌+◌, ◌-◌, ◌≤◌, ◌<◌}
use native.Mathlib.Nat.{add-zero, not-suc-le-zero, le_of_suc-le-suc}
use native.Mathlib.Numerals.{add-one}
use native.Mathlib.Omega.{arith}
use mathlib.Core.Path.{◌≡◌, refl, sym, ap, ◌∙◌}
use mathlib.Core.List.{List, [], ◌∷◌, ◌++◌}
use mathlib.Core.Bool.{Bool, true, false, cond, ◌&&◌, ◌||◌, false≢true}
use lib.Dec.{leb, ltb, eqb}
use borrow.Author.Tests.{leb-true, leb-false, ltb-true, lt-ltb, eqb-true, eqb-false, ne_eqb}
use lib.ListN.{length, get_or, drop, take, replicate, length-drop, length-replicate}
use lib.Seq.{drop-cons, sets-eq, length-sets, get_or-drop, length-take-le}
use Rattle.tables.specs.Limits.{Limits}
use Rattle.lines.specs.Bytes.{byte_at, is_at}
use Rattle.lines.specs.Keys.{name_key}
use Rattle.lines.specs.Names.{until_feed, line_end, part, is_capital, small_form, is_name_byte, name_bytes, good_name, is_text_byte, text_bytes, text_name, name_at, name_line, row_of, name_of, RowsTellNames, name_span}
use Rattle.lines.proofs.ByteLaws.{both, is_at-append, small, is_at_in, one_at, Stands, stands_join, stands_byte, stands_parts, stands_head, part_at, byte_here}
use Rattle.lines.proofs.Letters.{capital_range, small-length, text_name_lem}
use Rattle.lines.proofs.NameCases.{name_span_same, end_here, end_on, name_is, end_within}
use Rattle.lines.specs.declared.refusal.Refusal.TheVariants.{Form, Name}
use Rattle.std.specs.Prelude.{Err}

-- a name that was read
pub record NameRead (L : Limits) (text : List ℕ) (at s e : ℕ) : Type 0 where
  pub key : is_at text at name_key ≡ true
  pub start_is : s ≡ at + 5
  pub end_is : e ≡ line_end text (at + 5)
  pub closed : e ≡ length text → ⊥
  pub good : text_name L (part text s e) ≡ true

module _ (L : Limits) (text : List ℕ) (at s e : ℕ) where
  inv_good : is_at text at name_key ≡ true → eqb (line_end text (at + 5)) (length text) ≡ false → (g : Bool) → text_name L (part text (at + 5) (line_end text (at + 5))) ≡ g
      → cond g (name_span (at + 5) (line_end text (at + 5))) (Err (Name at)) ≡ name_span s e → NameRead L text at s e
  inv_good k c true g h =
      let es : at + 5 ≡ s = (name_span_same h).0 in
      let ee : line_end text (at + 5) ≡ e = (name_span_same h).1 in
      record { key = k; start_is = sym es; end_is = sym ee; closed = λ q. eqb-false _ _ c (ee ∙ q); good = rw (← es, ← ee) g }
  inv_good k c false g h = absurd (let z : ◌≡◌ {A = ℕ} 0 1 = cc h in omega arith)

  inv_end : is_at text at name_key ≡ true → (c : Bool) → eqb (line_end text (at + 5)) (length text) ≡ c
      → cond c (Err (Form at)) (cond (text_name L (part text (at + 5) (line_end text (at + 5)))) (name_span (at + 5) (line_end text (at + 5))) (Err (Name at))) ≡ name_span s e → NameRead L text at s e
  inv_end k true c h = absurd (let z : ◌≡◌ {A = ℕ} 0 1 = cc h in omega arith)
  inv_end k false c h = inv_good k c (text_name L (part text (at + 5) (line_end text (at + 5)))) refl h

  inv_key : (k : Bool) → is_at text at name_key ≡ k
      → cond k (cond (eqb (line_end text (at + 5)) (length text)) (Err (Form at)) (cond (text_name L (part text (at + 5) (line_end text (at + 5)))) (name_span (at + 5) (line_end text (at + 5))) (Err (Name at)))) (Err (Form at)) ≡ name_span s e → NameRead L text at s e
  inv_key true k h = inv_end k (eqb (line_end text (at + 5)) (length text)) refl h
  inv_key false k h = absurd (let z : ◌≡◌ {A = ℕ} 0 1 = cc h in omega arith)

  pub name_read : name_at L text at ≡ name_span s e → NameRead L text at s e
  unfolding name_at
  name_read h = inv_key (is_at text at name_key) refl h

-- a good name has 1 to L.name bytes
pub good_length : (L : Limits) (x : List ℕ) → good_name L x ≡ true → (1 ≤ length x) × (length x ≤ L.name)
unfolding good_name
good_length L x h =
    let p = both (leb 1 (length x)) (leb (length x) L.name && name_bytes x) h in
    let q = both (leb (length x) L.name) (name_bytes x) p.1 in
    (leb-true 1 (length x) p.0, leb-true (length x) L.name q.0)

pub text_length_lem : (L : Limits) (x : List ℕ) → text_name L x ≡ true → (1 ≤ length x) × (length x ≤ L.name)
text_length_lem L x h =
    let w = good_length L (small_form x) (sym (text_name_lem L x) ∙ h) in
    (omega (arith, w.0, small-length x), omega (arith, w.1, small-length x))

-- where a name that was read stands
pub record NameWithin (L : Limits) (text : List ℕ) (s e : ℕ) : Type 0 where
  pub forward : s ≤ e
  pub inside : e < length text
  pub short : e - s ≤ L.name
  pub some : 1 ≤ e - s

pub name_within : (L : Limits) (text : List ℕ) (at s e : ℕ) → NameRead L text at s e → NameWithin L text s e
name_within L text at s e r =
    let a : at + 5 ≤ length text = is_at_in text at _ _ r.key refl in
    let b = end_within text (at + 5) a in
    let c : (e ≡ length text → ⊥) = r.closed in
    let i : (s ≤ e) × (e < length text) = omega (arith, b.0, b.1, r.end_is, r.start_is) in
    let l : length (part text s e) ≡ e - s = length-take-le (e - s) (drop s text) (omega (arith, length-drop s text, i.0, i.1)) in
    let g = text_length_lem L (part text s e) r.good in
    record { forward = i.0; inside = i.1; short = omega (arith, g.1, l); some = omega (arith, g.0, l) }

-- a line feed stands where the search ended, unless the text ended
until_feed_lem : (x : List ℕ) → until_feed x < length x → get_or x (until_feed x) 256 ≡ 10
unfolding until_feed
until_feed_lem [] h = absurd (not-suc-le-zero h)
until_feed_lem (b ∷ x) h = go (eqb b 10) refl h (until_feed_lem x)
  where
    go : (t : Bool) → eqb b 10 ≡ t → cond t 0 (suc (until_feed x)) < suc (length x) → (until_feed x < length x → get_or x (until_feed x) 256 ≡ 10) → get_or (b ∷ x) (cond t 0 (suc (until_feed x))) 256 ≡ 10
    go true t h ih = eqb-true b 10 t
    go false t h ih = ih (le_of_suc-le-suc h)

pub feed_at : (text : List ℕ) (s : ℕ) → s ≤ length text → line_end text s < length text → byte_at text (line_end text s) ≡ 10
unfolding line_end byte_at
feed_at text s p h = sym (get_or-drop s text (until_feed (drop s text)) 256) ∙ until_feed_lem (drop s text) (omega (arith, length-drop s text))

pub name_stands : (L : Limits) (text : List ℕ) (at s e : ℕ) → NameRead L text at s e → Stands text at (name_line (part text s e)) (e + 1)
name_stands L text at s e r =
    let w = name_within L text at s e r in
    let b : byte_at text e ≡ 10 = rw r.end_is (feed_at text (at + 5) (omega (arith, r.start_is, w.forward, w.inside)) (omega (arith, r.end_is, w.inside))) in
    let l : length (part text s e) ≡ e - s = length-take-le (e - s) (drop s text) (omega (arith, length-drop s text, w.forward, w.inside)) in
    stands_join (stands_join (record { there = r.key; next_is = r.start_is })
    (record { there = part_at text s (e - s) (omega (arith, w.forward, w.inside)); next_is = omega (arith, l, w.forward) }))
    (stands_byte 10 (sym b))

-- a name that was written is read back
name_byte_lem : (b : ℕ) → is_text_byte b ≡ true → b ≡ 10 → ⊥
unfolding is_text_byte is_capital is_name_byte
name_byte_lem b h e = false≢true (rw e at h)

-- a byte of a name in the tables, and in a text, is a byte
table-small : (b : ℕ) → is_name_byte b ≡ true → b < 256
unfolding is_name_byte
table-small b h = go (leb 97 b) refl h
  where
    go : (t : Bool) → leb 97 b ≡ t → cond t (leb b 122) (cond (leb 48 b) (leb b 57) (eqb b 45)) ≡ true → b < 256
    go true t h = let k = leb-true b 122 h in omega arith
    go false t h = let k = leb-false 97 b t in omega arith

name_small : (b : ℕ) → is_text_byte b ≡ true → b < 256
unfolding is_text_byte
name_small b h = go (is_capital b) refl h
  where
    go : (t : Bool) → is_capital b ≡ t → t || is_name_byte b ≡ true → b < 256
    go true t h = omega (arith, (capital_range b t).1)
    go false t h = table-small b h

end_back : (text : List ℕ) (p : ℕ) (x : List ℕ) → text_bytes x ≡ true → is_at text p (x ++ 10 ∷ []) ≡ true → line_end text p ≡ p + length x
unfolding text_bytes
end_back text p [] g h =
    let e = byte_here text p 10 (stands_head text p 10 [] h).0 (omega arith) in
    end_here text p e.0 e.1 ∙ sym (add-zero p)
end_back text p (b ∷ x) g h =
    let w = stands_head text p b (x ++ 10 ∷ []) h in
    let k = both (is_text_byte b) (text_bytes x) g in
    let e = byte_here text p b w.0 (name_small b k.0) in
    end_on text p e.0 (λ q. name_byte_lem b k.0 (sym e.1 ∙ q)) ∙ end_back text (p + 1) x k.1 w.1 ∙ omega arith

part_back : (text : List ℕ) (p : ℕ) (x : List ℕ) → small x ≡ true → is_at text p x ≡ true → take (length x) (drop p text) ≡ x
unfolding is_at byte_at
part_back text p [] s h = refl
part_back text p (b ∷ x) s h =
    let w = both (eqb (get_or text p 256) b) (is_at text (p + 1) x) h in
    let k = both (ltb b 256) (small x) s in
    let e = byte_here text p b (eqb-true _ _ w.0) (ltb-true _ _ k.0) in
    rw (drop-cons text p 0 e.0, e.1, ← add-one p, part_back text (p + 1) x k.1 w.1)

name_bytes-small : (x : List ℕ) → text_bytes x ≡ true → small x ≡ true
unfolding text_bytes
name_bytes-small [] g = refl
name_bytes-small (b ∷ x) g =
    let k = both (is_text_byte b) (text_bytes x) g in
    rw (lt-ltb b 256 (name_small b k.0), name_bytes-small x k.1)

pub good_bytes : (L : Limits) (x : List ℕ) → good_name L x ≡ true → name_bytes x ≡ true
unfolding good_name
good_bytes L x h = (both (leb (length x) L.name) (name_bytes x) (both (leb 1 (length x)) (leb (length x) L.name && name_bytes x) h).1).1

text_bytes_lem : (L : Limits) (x : List ℕ) → text_name L x ≡ true → text_bytes x ≡ true
unfolding text_name
text_bytes_lem L x h = (both (leb (length x) L.name) (text_bytes x) (both (leb 1 (length x)) (leb (length x) L.name && text_bytes x) h).1).1

pub name_back : (L : Limits) (text : List ℕ) (at : ℕ) (x : List ℕ) → text_name L x ≡ true → is_at text at (name_line x) ≡ true
    → (name_at L text at ≡ name_span (at + 5) (at + 5 + length x)) × (part text (at + 5) (at + 5 + length x) ≡ x)
name_back L text at x g h =
    let w = stands_parts text at (name_key ++ x) (10 ∷ []) h in
    let k = stands_parts text at name_key x w.0 in
    let m : at + length (name_key ++ x) ≡ at + 5 + length x = omega arith in
    let f = (stands_head text (at + 5 + length x) 10 [] (rw m at w.1)).0 in
    let i = (byte_here text (at + 5 + length x) 10 f (omega arith)).0 in
    let t : is_at text (at + 5) (x ++ 10 ∷ []) ≡ true = rw (is_at-append, k.1) (one_at text (at + 5 + length x) 10 (sym f)) in
    let e = end_back text (at + 5) x (text_bytes_lem L x g) t in
    let d : at + 5 + length x - (at + 5) ≡ length x = omega arith in
    let q : part text (at + 5) (at + 5 + length x) ≡ x = rw d (part_back text (at + 5) x (name_bytes-small x (text_bytes_lem L x g)) k.1) in
    (name_is L text at (at + 5 + length x) k.0 (sym e) (λ (z : at + 5 + length x ≡ length text). omega (arith, i)) (rw q g), q)

-- ---- rows

pub row_long : (L : Limits) (x : List ℕ) → length (row_of L x) ≡ L.name
row_long L x = length-sets (replicate L.name 0) 0 x ∙ length-replicate L.name 0

-- the name in a row
zeros : (k n : ℕ) → name_of (drop k (replicate n 0)) ≡ []
unfolding name_of
zeros zero zero = refl
zeros zero (suc n) = refl
zeros (suc k) zero = refl
zeros (suc k) (suc n) = zeros k n

not-zero : (b : ℕ) → is_name_byte b ≡ true → b ≡ 0 → ⊥
unfolding is_name_byte
not-zero b h e = false≢true (rw e at h)

name_then : (x z : List ℕ) → name_bytes x ≡ true → name_of z ≡ [] → name_of (x ++ z) ≡ x
unfolding name_of name_bytes
name_then [] z g h = h
name_then (b ∷ x) z g h =
    let k = both (is_name_byte b) (name_bytes x) g in
    rw (ne_eqb b 0 (not-zero b k.0), name_then x z k.1 h)

pub name_of_row : (L : Limits) (x : List ℕ) → good_name L x ≡ true → name_of (row_of L x) ≡ x
name_of_row L x g =
    let l = good_length L x g in
    rw (sets-eq x (replicate L.name 0) 0 (omega (arith, l.1, length-replicate {A = ℕ} L.name 0))) (name_then x (drop (0 + length x) (replicate L.name 0)) (good_bytes L x g) (zeros (0 + length x) L.name))

pub rows_tell_names : (L : Limits) → RowsTellNames L
rows_tell_names L a b ga gb = (λ e. sym (name_of_row L a ga) ∙ ap name_of e ∙ name_of_row L b gb, λ e. ap (row_of L) e)
