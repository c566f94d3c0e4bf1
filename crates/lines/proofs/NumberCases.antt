-- Which case of the definitions of numbers holds, by the bytes that were read.
use Prim.Native.Nat.{ℕ, zero, suc, ◌+◌, ◌-◌, ◌*◌, ◌/◌, ◌%◌, ◌^◌, ◌≤◌, ◌<◌}
use native.Mathlib.Nat.{not-suc-le-zero, le_trans, le_refl, mul-le-mul_right, le-mul_of_pos_right, pow-succ', mul_assoc}
use native.Mathlib.Numerals.{sub-one, add-one}
use native.Mathlib.Omega.{arith}
use mathlib.Core.Path.{◌≡◌, refl, sym, ap, ◌∙◌}
use mathlib.Core.List.{List, [], ◌∷◌, ◌++◌}
use mathlib.Core.Bool.{Bool, true, false, cond}
use lib.Dec.{leb, ltb}
use borrow.Author.Tests.{leb-true, lt-ltb, le-ltb, eq-eqb, ne_eqb}
use lib.ListN.{length, get_or-eq_default, length-append}
use Rattle.lines.specs.Bytes.{byte_at, Put}
use Rattle.lines.specs.Numbers.{is_digit, digits_from, number_at, field_at, digits, digits_of, field, number}
use Rattle.lines.proofs.ByteLaws.{byte_at_in, both}
use Rattle.lines.specs.declared.numbers.Number.{Number}
use Rattle.std.specs.Prelude.{None, Option, Some}

-- numbers that are equal, part by part
pub number_same : {v e v' e' : ℕ} → number v e ≡ number v' e' → (v ≡ v') × (e ≡ e')
number_same {v} {e} {v'} {e'} h =
    let r : ◌≡◌ {A = Number} (record { value = v; next = e }) (record { value = v'; next = e' }) = cc h in
    (ap (λ (n : Number). n.value) r, ap (λ (n : Number). n.next) r)

-- a digit lies between 48 and 57
pub digit_range : (b : ℕ) → is_digit b ≡ true → (48 ≤ b) × (b ≤ 57)
unfolding is_digit
digit_range b e =
    let p : (leb 48 b ≡ true) × (leb b 57 ≡ true) = both (leb 48 b) (leb b 57) e in
    (leb-true 48 b p.0, leb-true b 57 p.1)

-- the digit at a position: past the end, a byte that is no digit, a digit
module _ (text : List ℕ) (at : ℕ) where
  abbrev pub digit_of : Option ℕ
  digit_of = cond (is_digit (byte_at text at)) (Some (byte_at text at - 48)) None

  pub digit_past : length text ≤ at → None ≡ digit_of
  unfolding byte_at is_digit
  digit_past h = rw (get_or-eq_default text 256 h)

  pub digit_not : (b : ℕ) → byte_at text at ≡ b → is_digit b ≡ false → None ≡ digit_of
  digit_not b e h = rw (e, h)

  pub digit_is : (b : ℕ) → byte_at text at ≡ b → is_digit b ≡ true → Some (b - 48) ≡ digit_of
  digit_is b e h = rw (e, h)

  -- .. and back
  pub digit_none : {r : Option ℕ} → r ≡ digit_of → r ≡ None → is_digit (byte_at text at) ≡ false
  digit_none {r} e h = by_test (is_digit (byte_at text at)) refl (sym e ∙ h)
    where
      by_test : (t : Bool) → is_digit (byte_at text at) ≡ t → cond t (Some (byte_at text at - 48)) None ≡ None → t ≡ false
      by_test true q k = absurd (let z : ◌≡◌ {A = ℕ} 0 1 = cc k in omega arith)
      by_test false q k = refl

  pub digit_some : {r : Option ℕ} (d : ℕ) → r ≡ digit_of → r ≡ Some d → (is_digit (byte_at text at) ≡ true) × (d ≡ byte_at text at - 48)
  digit_some {r} d e h = by_test (is_digit (byte_at text at)) refl (sym e ∙ h)
    where
      by_test : (t : Bool) → is_digit (byte_at text at) ≡ t → cond t (Some (byte_at text at - 48)) None ≡ Some d → (t ≡ true) × (d ≡ byte_at text at - 48)
      by_test true q k = (refl, (cc k))
      by_test false q k = absurd (let z : ◌≡◌ {A = ℕ} 0 1 = cc k in omega arith)

pub from_stop : (left : ℕ) (text : List ℕ) (at v : ℕ) → is_digit (byte_at text at) ≡ false → digits_from left text at v ≡ number v at
unfolding digits_from
from_stop zero text at v h = refl
from_stop (suc left) text at v h = rw h

pub from_more : (left : ℕ) (text : List ℕ) (at v b : ℕ) → 0 < left → b ≡ byte_at text at → is_digit b ≡ true → digits_from left text at v ≡ digits_from (left - 1) text (at + 1) (v * 10 + (b - 48))
unfolding digits_from
from_more zero text at v b m e h = absurd (not-suc-le-zero m)
from_more (suc left) text at v b m e h = rw (← e, h, sub-one)

pub from_done : (left : ℕ) (text : List ℕ) (at v : ℕ) → left ≡ 0 → digits_from left text at v ≡ number v at
unfolding digits_from
from_done left text at v e = rw e

-- a digit stands inside the text
pub digit_in : (text : List ℕ) (at b : ℕ) → b ≡ byte_at text at → is_digit b ≡ true → at < length text
digit_in text at b e h = let r = digit_range b h in byte_at_in text at b e (omega arith)

-- seven digits stay below ten million
pub bound-more : (left v d : ℕ) → 0 < left → d ≤ 9 → (v + 1) * 10 ^ left ≤ 10 ^ 7 → (v * 10 + d + 1) * 10 ^ (left - 1) ≤ 10 ^ 7
bound-more zero v d h k w = absurd (not-suc-le-zero h)
bound-more (suc left) v d h k w = rw sub-one (le_trans (mul-le-mul_right {n = (v + 1) * 10} (10 ^ left) (omega arith)) (rw mul_assoc (rw pow-succ' at w)))

pow_pos' : (k : ℕ) → 0 < 10 ^ k
pow_pos' zero = omega arith
pow_pos' (suc k) = rw pow-succ' (omega (arith, pow_pos' k))

pub bound_now : (left v : ℕ) → (v + 1) * 10 ^ left ≤ 10 ^ 7 → v < 10 ^ 7
bound_now left v w = le_trans (le_trans (rw add-one (le_refl (suc v))) (le-mul_of_pos_right (v + 1) (pow_pos' left))) w

module _ (text : List ℕ) (at b : ℕ) (e : b ≡ byte_at text at) where
  pub number_none : is_digit b ≡ false → number_at text at ≡ None
  unfolding number_at
  number_none h = rw (← e, h)

  pub number_zero : is_digit b ≡ true → b ≡ 48 → number_at text at ≡ number 0 (at + 1)
  unfolding number_at
  number_zero h z = rw (← e, h, eq-eqb _ _ z)

  pub number_more : is_digit b ≡ true → (b ≡ 48 → ⊥) → number_at text at ≡ digits_from 6 text (at + 1) (b - 48)
  unfolding number_at
  number_more h n = rw (← e, h, ne_eqb _ _ n)

-- ---- a number and its closing byte

module _ (text : List ℕ) (at b : ℕ) (n : Option Number) (e : n ≡ number_at text at) where
  pub field-none : n ≡ None → field_at text at b ≡ None
  unfolding field_at
  field-none h = rw (← e, h)

  pub field-closed : (v p : ℕ) → n ≡ number v p → byte_at text p ≡ b → field_at text at b ≡ number v (p + 1)
  unfolding field_at
  field-closed v p h k = rw (← e, h, eq-eqb _ _ k)

  pub field_open : (v p : ℕ) → n ≡ number v p → (byte_at text p ≡ b → ⊥) → field_at text at b ≡ None
  unfolding field_at
  field_open v p h k = rw (← e, h, ne_eqb _ _ k)

-- ---- digits as written

pub digits-none : (left n : ℕ) → left ≡ 0 → digits left n ≡ []
unfolding digits
digits-none left n e = rw e

pub digits_one : (left n : ℕ) → 0 < left → n < 10 → digits left n ≡ (48 + n) ∷ []
unfolding digits
digits_one zero n m h = absurd (not-suc-le-zero m)
digits_one (suc left) n m h = rw (lt-ltb n 10 h)

pub digits-next : (left n : ℕ) → 10 ≤ n → digits (suc left) n ≡ digits left (n / 10) ++ (48 + n % 10) ∷ []
unfolding digits
digits-next left n h = rw (le-ltb n 10 h)

pub digits_more : (left n : ℕ) → 0 < left → 10 ≤ n → digits left n ≡ digits (left - 1) (n / 10) ++ (48 + n % 10) ∷ []
digits_more zero n m h = absurd (not-suc-le-zero m)
digits_more (suc left) n m h = digits-next left n h ∙ rw sub-one

-- at most `left` digits
pub digits-length : (left n : ℕ) → length (digits left n) ≤ left
unfolding digits
digits-length zero n = omega arith
digits-length (suc left) n = go (ltb n 10) (digits-length left (n / 10))
  where
    go : (t : Bool) → length (digits left (n / 10)) ≤ left → length (cond t ((48 + n) ∷ []) (digits left (n / 10) ++ (48 + n % 10) ∷ [])) ≤ suc left
    go true h = omega arith
    go false h = simp length-append (omega arith)

-- a field that was written has at most eight bytes, and its closing byte may be told by an equal one
pub field-near : (v c : ℕ) {b b' : List ℕ} {at n : ℕ} → Put b at (field v c) b' n → n ≤ at + 8
field-near v c p = let l : length (field v c) ≡ length (digits_of v) + 1 = simp length-append (omega arith) in omega (arith, p.next_is, l, digits-length 7 v)

pub field_as : (v : ℕ) {b b' : List ℕ} {at c d n : ℕ} → c ≡ d → Put b at (field v c) b' n → Put b at (field v d) b' n
field_as v e p = rw e at p

pub field_by : (text : List ℕ) (at : ℕ) {c d : ℕ} {n : Option Number} → n ≡ field_at text at c → c ≡ d → n ≡ field_at text at d
field_by text at h e = rw e at h
