-- Lines that stand at a place of the text, as parts of the list of its bytes: what was read is there, and what is there is read. Assumes nothing.
use mathlib.Core.Path.{◌≡◌, refl, sym, ap, ◌∙◌}
use mathlib.Core.Logic.{◌⊎◌, inl, inr}
use mathlib.Core.Bool.{Bool, true, false, cond, false≢true}
use mathlib.Core.List.{List, [], ◌∷◌, ◌++◌, append_assoc}
use Prim.Native.Nat.{ℕ, zero, suc, ◌+◌, ◌-◌, ◌/◌, ◌%◌, ◌≤◌, ◌<◌}
use native.Mathlib.Nat.{add-zero}
use native.Mathlib.Numerals.{add-one}
use native.Mathlib.Omega.{arith}
use lib.Dec.{ltb, eqb}
use borrow.Author.Tests.{eqb-true, eqb-false, ltb-true, ltb-false, lt-ltb}
use lib.ListN.{length, get_or, take, drop, length-drop, length-append}
use lib.Seq.{drop-cons, take-append_seam, drop-append_seam}
use Rattle.below.proofs.Tests.{by_cases}
use Rattle.lines.specs.Bytes.{byte_at, is_at}
use Rattle.lines.specs.Numbers.{is_digit, number_at, closed, field_at, digits, digits_of, field}
use Rattle.lines.proofs.ByteLaws.{both, small, byte_here, Stands, stands_parts, stands_join, part_at}
use Rattle.lines.proofs.NumberCases.{number_same}
use Rattle.lines.proofs.NumberRoundTrip.{written_read, field-stands, field_back}
use Rattle.lines.specs.Stops.{count_at, count_line}
use Rattle.lines.proofs.StopCases.{count_none, count_form, count_low, count_high}
use Rattle.lines.proofs.StopRoundTrip.{count_back}
use Rattle.lines.specs.declared.refusal.Refusal.TheVariants.{Form, Range}
use Rattle.accepted.specs.LineFaults.{SevenDigit}
use Rattle.lines.specs.Numbers.{number}
use Rattle.lines.specs.Stops.{count_read}
use Rattle.lines.specs.declared.numbers.Number.{Number}
use Rattle.std.specs.Prelude.{Option, Some, None, Err}

-- ---- bytes at a place

-- the text up to a place, as a list
pub record Upto (text : List ℕ) (o : ℕ) (pre : List ℕ) : Type 0 where
  pub long : o ≡ length pre
  pub is : text ≡ pre ++ drop o text

pub upto_start : (text : List ℕ) → Upto text 0 []
upto_start text = record { long = refl; is = refl }

pub upto_more : {text : List ℕ} {o : ℕ} {pre : List ℕ} (e : ℕ) (line : List ℕ) → Upto text o pre → drop o text ≡ line ++ drop e text → e ≡ o + length line → Upto text e (pre ++ line)
upto_more {text} {o} {pre} e line u d l = record {
  long = l ∙ omega (arith, u.long, length-append pre line);
  is = u.is ∙ ap (λ (r : List ℕ). pre ++ r) d ∙ sym (append_assoc pre line (drop e text));
}

-- a text in two parts
module _ (text pre rest : List ℕ) (e : text ≡ pre ++ rest) where
  pub parts_long : length pre + length rest ≡ length text
  parts_long = sym (length-append pre rest) ∙ ap length (sym e)

  pub parts_drop : drop (length pre) text ≡ rest
  parts_drop = ap (drop (length pre)) e ∙ drop-append_seam pre rest

  pub parts_at : is_at text 0 pre ≡ true
  parts_at = ap (is_at text 0) (sym (ap (take (length pre)) e ∙ take-append_seam pre rest)) ∙ part_at text 0 (length pre) (omega (arith, parts_long))

-- the text begins so at a place, so it stands there
pub begins_at : (text : List ℕ) (s : ℕ) (line more : List ℕ) → s ≤ length text → drop s text ≡ line ++ more → is_at text s line ≡ true
begins_at text s line more h e =
    let k : take (length line) (drop s text) ≡ line = ap (take (length line)) e ∙ take-append_seam line more in
    let l : length text - s ≡ length line + length more = sym (length-drop s text) ∙ ap length e ∙ length-append line more in
    ap (is_at text s) (sym k) ∙ part_at text s (length line) (omega (arith, h, l))

-- .. and the other way round, of bytes
pub at_begins : (text : List ℕ) (s : ℕ) (line : List ℕ) → small line ≡ true → is_at text s line ≡ true → drop s text ≡ line ++ drop (s + length line) text
unfolding is_at byte_at
at_begins text s [] b h = ap (λ (k : ℕ). drop k text) (sym (add-zero s))
at_begins text s (x ∷ line) b h =
    let w = both (eqb (get_or text s 256) x) (is_at text (s + 1) line) h in
    let k = both (ltb x 256) (small line) b in
    let y = byte_here text s x (eqb-true _ _ w.0) (ltb-true _ _ k.0) in
    let m : s + 1 + length line ≡ s + suc (length line) = omega arith in
    drop-cons text s 0 y.0 ∙ rw (y.1, ← add-one s, at_begins text (s + 1) line k.1 w.1, m) refl

pub small_join : (x y : List ℕ) → small x ≡ true → small y ≡ true → small (x ++ y) ≡ true
small_join [] y a b = b
small_join (c ∷ x) y a b = let k = both (ltb c 256) (small x) a in rw k.0 (small_join x y k.1 b)

-- ---- numbers

digits-small : (left n : ℕ) → small (digits left n) ≡ true
unfolding digits
digits-small zero n = refl
digits-small (suc left) n = by_cases (ltb n 10)
    (λ h. rw (h, lt-ltb (48 + n) 256 (omega (arith, ltb-true n 10 h))) refl)
    (λ h. let b : 48 + n % 10 < 256 = omega arith in rw h (small_join (digits left (n / 10)) ((48 + n % 10) ∷ []) (digits-small left (n / 10)) (rw (lt-ltb (48 + n % 10) 256 b) refl)))

pub field-small : (n b : ℕ) → b < 256 → small (field n b) ≡ true
field-small n b h = small_join (digits_of n) (b ∷ []) (digits-small 7 n) (rw (lt-ltb b 256 h) refl)

-- a field that was read has at most seven digits
pub field_seven : (text : List ℕ) (at b n next : ℕ) → field_at text at b ≡ number n next → SevenDigit n
unfolding field_at
field_seven text at b n next h = by_number (number_at text at) refl h
  where
    by_byte_lem : (v e : ℕ) → number_at text at ≡ number v e → (t : Bool) → cond t (number v (e + 1)) None ≡ number n next → SevenDigit n
    by_byte_lem v e f true h = let ev : v ≡ n = (number_same h).0 in rw ev at (written_read text at v e f).small
    by_byte_lem v e f false h = absurd (let z : ◌≡◌ {A = ℕ} 0 1 = cc h in omega arith)

    by_number : (m : Option Number) → number_at text at ≡ m → closed text b m ≡ number n next → SevenDigit n
    by_number None f h = absurd (let z : ◌≡◌ {A = ℕ} 0 1 = cc h in omega arith)
    by_number (Some m) f h = by_byte_lem m.value m.next f (eqb (byte_at text m.next) b) h

-- ---- a line of a key and a number

pub count_small : (key : List ℕ) (v : ℕ) → small key ≡ true → small (count_line key v) ≡ true
count_small key v h = small_join key (field v 10) h (field-small v 10 (omega arith))

-- the line with the number v stands there
module _ (text : List ℕ) (at : ℕ) (key : List ℕ) (most v : ℕ) (s : SevenDigit v) (h : is_at text at (count_line key v) ≡ true) where
  count_field : (is_at text at key ≡ true) × (field_at text (at + length key) 10 ≡ number v (at + length key + length (field v 10)))
  unfolding is_digit
  count_field = let w = stands_parts text at key (field v 10) h in (w.0, field_back text (at + length key) 10 v refl s w.1)

  pub count_out : (v ≡ 0) ⊎ (most < v) → count_at text at key most ≡ Err (Range at)
  count_out (inl z) = let (k, f) = count_field in count_low text at key most k _ refl v _ f z
  count_out (inr m) = let (k, f) = count_field in by_cases (eqb v 0)
      (λ z. count_low text at key most k _ refl v _ f (eqb-true v 0 z))
      (λ z. count_high text at key most k _ refl v _ f (eqb-false v 0 z) m)

-- what the reader says of a line, and what stands there: no such line, a number outside its range, a number
pub data CountSaid (text : List ℕ) (at : ℕ) (key : List ℕ) (most : ℕ) : Type 0 where
  no_count : count_at text at key most ≡ Err (Form at) → ((v : ℕ) → SevenDigit v → is_at text at (count_line key v) ≡ true → ⊥) → CountSaid text at key most
  count_out_lem : (v : ℕ) → SevenDigit v → is_at text at (count_line key v) ≡ true → (v ≡ 0) ⊎ (most < v) → count_at text at key most ≡ Err (Range at) → CountSaid text at key most
  count_is_lem : (v : ℕ) → SevenDigit v → is_at text at (count_line key v) ≡ true → 1 ≤ v → v ≤ most → count_at text at key most ≡ count_read v (at + length (count_line key v)) → CountSaid text at key most

module _ (text : List ℕ) (at : ℕ) (key : List ℕ) (most : ℕ) where
  no_value : (v : ℕ) → SevenDigit v → is_at text at (count_line key v) ≡ true → field_at text (at + length key) 10 ≡ None → ⊥
  no_value v s h f = let z : ◌≡◌ {A = ℕ} 0 1 = cc ((count_field text at key most v s h).1, f) in omega arith

  said_number : is_at text at key ≡ true → (n : Option Number) → field_at text (at + length key) 10 ≡ n → CountSaid text at key most
  said_number k None f = no_count (count_form text at key most k _ refl f) (λ v s h. no_value v s h f)
  said_number k (Some n) f =
      let v = n.value in
      let e = n.next in
      let s = field_seven text (at + length key) 10 v e f in
      let w : Stands text at (count_line key v) e = stands_join (record { there = k; next_is = refl }) (field-stands text (at + length key) 10 v e f) in
      let h = w.there in
      by_cases (eqb v 0)
      (λ z. count_out_lem v s h (inl (eqb-true v 0 z)) (count_out text at key most v s h (inl (eqb-true v 0 z))))
      (λ z. by_cases (ltb most v)
      (λ m. count_out_lem v s h (inr (ltb-true most v m)) (count_out text at key most v s h (inr (ltb-true most v m))))
      (λ m. let a : 1 ≤ v = omega (arith, eqb-false v 0 z) in count_is_lem v s h a (ltb-false most v m) (count_back text at key most v a (ltb-false most v m) s h)))

  pub count_said : CountSaid text at key most
  count_said = by_cases (is_at text at key)
      (λ k. said_number k (field_at text (at + length key) 10) refl)
      (λ k. no_count (count_none text at key most k) (λ v s h. false≢true (sym k ∙ (stands_parts text at key (field v 10) h).0)))
