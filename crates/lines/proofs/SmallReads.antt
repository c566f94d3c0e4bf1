-- Numbers, line ends and parts of a text are read alike of the text and of its small form: no capital is a digit, a line feed or an `@`. Only a key tells the two apart.
use Prim.Native.Nat.{ℕ, zero, suc, ◌+◌, ◌-◌, ◌*◌, ◌≤◌, ◌<◌}
use native.Mathlib.Omega.{arith}
use mathlib.Core.Path.{◌≡◌, refl, sym, ap, ◌∙◌}
use mathlib.Core.List.{List, [], ◌∷◌}
use mathlib.Core.Bool.{true, false}
use lib.Dec.{eqb}
use borrow.Author.Tests.{le-leb, lt-leb, ne_eqb}
use lib.ListN.{length, take, drop}
use Rattle.tables.specs.Limits.{Limits}
use Rattle.lines.specs.Bytes.{byte_at}
use Rattle.lines.specs.Numbers.{is_digit, digits_from, number_at, closed, field_at}
use Rattle.lines.specs.Names.{is_capital, small_byte, small_form, until_feed, line_end, part, good_name, text_name}
use Rattle.lines.specs.declared.numbers.Number.{Number}
use Rattle.lines.proofs.Letters.{by_test, capital_range, small_capital, small-own, small-length, small_at, text_name_lem}
use Rattle.std.specs.Prelude.{None, Option, Some}

-- ---- a byte

pub byte_small : (s : List ℕ) (i : ℕ) → byte_at (small_form s) i ≡ small_byte (byte_at s i)
unfolding byte_at small_byte is_capital
byte_small s i = small_at s i 256 refl

-- a byte below A is there or is not there in both
pub low_small : (b c : ℕ) → c < 65 → eqb (small_byte b) c ≡ eqb b c
low_small b c low = by_test (is_capital b)
    (λ h.
    let k = capital_range b h in
    rw (small_capital b h, ne_eqb b c (λ e. omega (arith, k.0, e)), ne_eqb (b + 32) c (λ e. omega (arith, k.0, e))) refl)
    (λ h. rw (small-own b h) refl)

-- a capital is no digit, nor is its small form
no_digit : (b : ℕ) → 57 < b → is_digit b ≡ false
unfolding is_digit
no_digit b h = let k : 48 ≤ b = omega arith in rw (le-leb 48 b k, lt-leb b 57 h) refl

digit_small : (b : ℕ) → is_digit (small_byte b) ≡ is_digit b
digit_small b = by_test (is_capital b)
    (λ h.
    let k = capital_range b h in
    rw (small_capital b h, no_digit b (omega (arith, k.0)), no_digit (b + 32) (omega (arith, k.0))) refl)
    (λ h. rw (small-own b h) refl)

digit_own : (b : ℕ) → is_digit b ≡ true → small_byte b ≡ b
digit_own b d = by_test (is_capital b)
    (λ h.
    let k = capital_range b h in
    absurd (let z : ◌≡◌ {A = ℕ} 0 1 = cc (no_digit b (omega (arith, k.0)), d) in omega arith))
    (λ h. small-own b h)

-- ---- numbers

pub digits-small : (left : ℕ) (s : List ℕ) (at v : ℕ) → digits_from left (small_form s) at v ≡ digits_from left s at v
unfolding digits_from
digits-small zero s at v = refl
digits-small (suc left) s at v = by_test (is_digit (byte_at s at))
    (λ d. rw (byte_small s at, digit_own (byte_at s at) d, d) (digits-small left s (at + 1) (v * 10 + (byte_at s at - 48))))
    (λ d. rw (byte_small s at, digit_small (byte_at s at), d) refl)

number_small : (s : List ℕ) (at : ℕ) → number_at (small_form s) at ≡ number_at s at
unfolding number_at
number_small s at = by_test (is_digit (byte_at s at))
    (λ d. rw (byte_small s at, digit_own (byte_at s at) d, d, digits-small 6 s (at + 1) (byte_at s at - 48)) refl)
    (λ d. rw (byte_small s at, digit_small (byte_at s at), d) refl)

closed-small : (s : List ℕ) (b : ℕ) → b < 65 → (n : Option Number) → closed (small_form s) b n ≡ closed s b n
closed-small s b low None = refl
closed-small s b low (Some n) = rw (byte_small s n.next, low_small (byte_at s n.next) b low) refl

field-small : (s : List ℕ) (at b : ℕ) → b < 65 → field_at (small_form s) at b ≡ field_at s at b
unfolding field_at
field-small s at b low = ap (closed (small_form s) b) (number_small s at) ∙ closed-small s b low (number_at s at)

-- ---- line ends and parts

drop-small : (n : ℕ) (s : List ℕ) → drop n (small_form s) ≡ small_form (drop n s)
unfolding small_form
drop-small zero s = refl
drop-small (suc n) [] = refl
drop-small (suc n) (b ∷ s) = drop-small n s

take-small : (n : ℕ) (s : List ℕ) → take n (small_form s) ≡ small_form (take n s)
unfolding small_form
take-small zero s = refl
take-small (suc n) [] = refl
take-small (suc n) (b ∷ s) = ap (λ (l : List ℕ). small_byte b ∷ l) (take-small n s)

until-small : (s : List ℕ) → until_feed (small_form s) ≡ until_feed s
unfolding until_feed small_form
until-small [] = refl
until-small (b ∷ s) = rw (low_small b 10 (omega arith), until-small s) refl

end_small : (s : List ℕ) (at : ℕ) → line_end (small_form s) at ≡ line_end s at
unfolding line_end
end_small s at = ap (λ (l : List ℕ). at + until_feed l) (drop-small at s) ∙ ap (λ (n : ℕ). at + n) (until-small (drop at s))

pub part_small : (s : List ℕ) (a e : ℕ) → part (small_form s) a e ≡ small_form (part s a e)
part_small s a e = ap (take (e - a)) (drop-small a s) ∙ take-small (e - a) (drop a s)

-- ---- two texts that have one small form

module _ (S T : List ℕ) (same : small_form S ≡ small_form T) where
  pub same_length : length S ≡ length T
  same_length = sym (small-length S) ∙ ap length same ∙ small-length T

  pub same-field : (at b : ℕ) → b < 65 → field_at S at b ≡ field_at T at b
  same-field at b low = sym (field-small S at b low) ∙ ap (λ (s : List ℕ). field_at s at b) same ∙ field-small T at b low

  pub same_end : (at : ℕ) → line_end S at ≡ line_end T at
  same_end at = sym (end_small S at) ∙ ap (λ (s : List ℕ). line_end s at) same ∙ end_small T at

  pub same-part : (a e : ℕ) → small_form (part S a e) ≡ small_form (part T a e)
  same-part a e = sym (part_small S a e) ∙ ap (λ (s : List ℕ). part s a e) same ∙ part_small T a e

  pub same_name : (L : Limits) (a e : ℕ) → text_name L (part S a e) ≡ text_name L (part T a e)
  same_name L a e = text_name_lem L (part S a e) ∙ ap (good_name L) (same-part a e) ∙ sym (text_name_lem L (part T a e))
