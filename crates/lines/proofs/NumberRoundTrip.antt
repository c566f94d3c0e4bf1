-- Numbers read are numbers written: the digits that are read are those that are written, one by one.
use Prim.Native.Nat.{ℕ, zero, suc, ◌+◌, ◌-◌, ◌*◌, ◌/◌, ◌%◌, ◌^◌, ◌≤◌, ◌<◌}
use native.Mathlib.Nat.{add-suc, suc-add, pow-succ', lt_of_lt_of_le, pow-le-pow_right}
use native.Mathlib.Omega.{arith}
use mathlib.Core.Path.{◌≡◌, refl, sym, ap, ◌∙◌}
use mathlib.Core.List.{List, [], ◌∷◌, ◌++◌}
use mathlib.Core.Bool.{Bool, true, false, cond}
use lib.Dec.{ltb, eqb}
use borrow.Author.Tests.{ltb-true, ltb-false, eqb-true, eqb-false, le-leb}
use lib.ListN.{length, length-append}
use Rattle.lines.specs.Bytes.{byte_at, is_at}
use Rattle.tables.specs.Limits.{limits}
use Rattle.lines.specs.Numbers.{SevenDigits, is_digit, digits_from, number_at, closed, field_at, digits, digits_of, field, number}
use Rattle.lines.proofs.ByteLaws.{both, is_at-append, at_one, one_at, Stands, stands_join, stands_byte, stands_parts, stands_head}
use Rattle.lines.proofs.NumberCases.{number_same, digit_range, from_stop, from_more, number_zero, number_more, field-closed, digits_one, digits-next, digits-length}
use Rattle.lines.specs.declared.numbers.Number.{Number}
use Rattle.std.specs.Prelude.{None, Option, Some}

-- the byte of a digit is a digit
pub digit_byte : (d : ℕ) → d ≤ 9 → is_digit (48 + d) ≡ true
unfolding is_digit
digit_byte d h = rw (le-leb 48 (48 + d) (omega arith), le-leb (48 + d) 57 (omega arith))

-- more room for digits changes nothing where the number has no more
pub digits-room : (k j n : ℕ) → n < 10 ^ suc k → digits (suc (k + j)) n ≡ digits (suc k) n
digits-room zero j n h = digits_one _ n (omega arith) h ∙ sym (digits_one 1 n (omega arith) h)
digits-room (suc k) j n h = rw suc-add (go (ltb n 10) refl (digits-room k j (n / 10) (omega (arith, rw pow-succ' at h))))
  where
    go : (t : Bool) → ltb n 10 ≡ t → digits (suc (k + j)) (n / 10) ≡ digits (suc k) (n / 10) → digits (suc (suc (k + j))) n ≡ digits (suc (suc k)) n
    go true e ih = digits_one _ n (omega arith) (ltb-true _ _ e) ∙ sym (digits_one _ n (omega arith) (ltb-true _ _ e))
    go false e ih = digits-next _ n (ltb-false _ _ e) ∙ rw ih (sym (digits-next _ n (ltb-false _ _ e)))

-- one digit more
pub digits_snoc : (k v d : ℕ) → 0 < v → d ≤ 9 → digits (suc k) (v * 10 + d) ≡ digits k v ++ (48 + d) ∷ []
digits_snoc k v d p h =
    let q : (v * 10 + d) / 10 ≡ v = omega arith in
    let r : (v * 10 + d) % 10 ≡ d = omega arith in
    digits-next k (v * 10 + d) (omega arith) ∙ rw (q, r)

-- where the digits of a number stand, reading goes past all of them: one digit, one more, and all
abbrev Past : ℕ → List ℕ → ℕ → ℕ → Type 0
Past k text at n = number_at text at ≡ digits_from (7 - length (digits k n)) text (at + length (digits k n)) n

past_one : (k : ℕ) (text : List ℕ) (at n : ℕ) → 0 < n → n < 10 → is_at text at (digits (suc k) n) ≡ true → Past (suc k) text at n
past_one k text at n p l e =
    let d = digits_one (suc k) n (omega arith) l in
    let r : 48 + n ≡ byte_at text at = at_one text at (48 + n) (rw d at e) in
    let m : 48 + n - 48 ≡ n = omega arith in
    rw d (number_more text at (48 + n) r (digit_byte n (omega arith)) (λ (z : 48 + n ≡ 48). omega arith) ∙ rw m)

past_more : (k : ℕ) (text : List ℕ) (at n : ℕ) → k ≤ 6 → 10 ≤ n → is_at text at (digits (suc k) n) ≡ true
    → (is_at text at (digits k (n / 10)) ≡ true → Past k text at (n / 10)) → Past (suc k) text at n
past_more k text at n b l e ih =
    let D : List ℕ = digits k (n / 10) in
    let d = digits-next k n l in
    let w : (is_at text at D ≡ true) × (is_at text (at + length D) ((48 + n % 10) ∷ []) ≡ true) = both _ _ (rw (d, is_at-append) at e) in
    let s : length D ≤ k = digits-length k (n / 10) in
    let m : 7 - (length D + 1) ≡ 7 - length D - 1 = omega arith in
    let m' : at + (length D + 1) ≡ at + length D + 1 = omega arith in
    let v : n / 10 * 10 + (48 + n % 10 - 48) ≡ n = omega arith in
    rw (d, length-append, m, m')
    (ih w.0 ∙ from_more (7 - length D) text (at + length D) (n / 10) (48 + n % 10) (omega arith) (at_one _ _ _ w.1) (digit_byte (n % 10) (omega arith)) ∙ rw v)

pub read_digits : (k : ℕ) (text : List ℕ) (at n : ℕ) → k ≤ 6 → 0 < n → n < 10 ^ suc k → is_at text at (digits (suc k) n) ≡ true → Past (suc k) text at n
read_digits zero text at n b p h e = past_one zero text at n p h e
read_digits (suc k) text at n b p h e = go (ltb n 10) refl (λ q. read_digits k text at (n / 10) (omega arith) q (omega (arith, rw pow-succ' at h)))
  where
    go : (t : Bool) → ltb n 10 ≡ t → (0 < n / 10 → is_at text at (digits (suc k) (n / 10)) ≡ true → Past (suc k) text at (n / 10)) → Past (suc (suc k)) text at n
    go true l ih = past_one (suc k) text at n p (ltb-true _ _ l) e
    go false l ih = let g = ltb-false n 10 l in past_more (suc k) text at n b g e (ih (omega arith))

-- a number that was written, with no digit after it, is read back
pub read_written : (text : List ℕ) (at n : ℕ) → n < 10 ^ 7 → is_at text at (digits_of n) ≡ true → is_digit (byte_at text (at + length (digits_of n))) ≡ false
    → number_at text at ≡ number n (at + length (digits_of n))
read_written text at zero h e t =
    let d = digits_one 7 0 (omega arith) (omega arith) in
    rw d (number_zero text at 48 (at_one text at 48 (rw d at e)) (digit_byte 0 (omega arith)) refl)
read_written text at (suc n) h e t = read_digits 6 text at (suc n) (omega arith) (omega arith) h e ∙ from_stop _ _ _ _ t

-- a number that was read stands there as it would be written
pub record Read (room : ℕ) (text : List ℕ) (at n next : ℕ) : Type 0 where
  pub stands : is_at text at (digits room n) ≡ true
  pub next_is : next ≡ at + length (digits room n)
  pub small : n < 10 ^ room

-- a number has room for more digits
read_room : (k j : ℕ) (text : List ℕ) (at n next : ℕ) → Read (suc k) text at n next → Read (suc (k + j)) text at n next
read_room k j text at n next r =
    let d = digits-room k j n r.small in
    record { stands = rw d r.stands; next_is = rw d r.next_is; small = lt_of_lt_of_le r.small (pow-le-pow_right (omega arith) (omega arith)) }

-- a digit more
read_more : (k : ℕ) (text : List ℕ) (at v p : ℕ) → 0 < v → is_digit (byte_at text p) ≡ true → Read (suc k) text at v p → Read (suc (suc k)) text at (v * 10 + (byte_at text p - 48)) (p + 1)
read_more k text at v p pos t r =
    let b = byte_at text p in
    let g = digit_range b t in
    let d : 48 + (b - 48) ≡ b = omega arith in
    let w = digits_snoc (suc k) v (b - 48) pos (omega arith) in
    record {
      stands = rw (w, is_at-append, r.stands, ← r.next_is) (one_at text p (48 + (b - 48)) d);
      next_is = rw (w, length-append) (omega (arith, r.next_is));
      small = rw pow-succ' (omega (arith, r.small));
    }

-- the digits that are left
from_read : (left k : ℕ) (text : List ℕ) (at v p n next : ℕ) → 0 < v → Read (suc k) text at v p → digits_from left text p v ≡ number n next → Read (suc (k + left)) text at n next
unfolding digits_from
from_read zero k text at v p n next pos r e =
    let en : v ≡ n = (number_same e).0 in
    let ep : p ≡ next = (number_same e).1 in
    rw (← en, ← ep) (read_room k 0 text at v p r)
from_read (suc left) k text at v p n next pos r e =
    go (is_digit (byte_at text p)) refl e (λ s. from_read left (suc k) text at (v * 10 + (byte_at text p - 48)) (p + 1) n next (omega arith) s)
  where
    go : (t : Bool) → is_digit (byte_at text p) ≡ t → cond t (digits_from left text (p + 1) (v * 10 + (byte_at text p - 48))) (number v p) ≡ number n next
        → (Read (suc (suc k)) text at (v * 10 + (byte_at text p - 48)) (p + 1) → digits_from left text (p + 1) (v * 10 + (byte_at text p - 48)) ≡ number n next → Read (suc (suc k + left)) text at n next)
        → Read (suc (k + suc left)) text at n next
    go true t e ih = rw (add-suc, ← suc-add) (ih (read_more k text at v p pos t r) e)
    go false t e ih =
        let en : v ≡ n = (number_same e).0 in
        let ep : p ≡ next = (number_same e).1 in
        rw (← en, ← ep) (read_room k (suc left) text at v p r)

-- a number that was read is the one whose digits stand there
pub written_read : (text : List ℕ) (at n next : ℕ) → number_at text at ≡ number n next → Read 7 text at n next
unfolding number_at
written_read text at n next e = go (is_digit (byte_at text at)) refl (eqb (byte_at text at) 48) refl e
  where
    go : (t : Bool) → is_digit (byte_at text at) ≡ t → (z : Bool) → eqb (byte_at text at) 48 ≡ z
        → cond t (cond z (number 0 (at + 1)) (digits_from 6 text (at + 1) (byte_at text at - 48))) None ≡ number n next → Read 7 text at n next
    go true t true z e =
        let en : 0 ≡ n = (number_same e).0 in
        let ep : at + 1 ≡ next = (number_same e).1 in
        let d = digits_one 7 0 (omega arith) (omega arith) in
        rw (← en, ← ep) (record { stands = rw d (one_at text at 48 (sym (eqb-true _ _ z))); next_is = rw d; small = omega arith })
    go true t false z e =
        let b = byte_at text at in
        let g = digit_range b t in
        let h : b ≡ 48 → ⊥ = eqb-false b 48 z in
        let k : 48 + (b - 48) ≡ b = omega arith in
        let d = digits_one 1 (b - 48) (omega arith) (omega arith) in
        from_read 6 0 text at (b - 48) (at + 1) n next (omega arith)
        (record { stands = rw d (one_at text at (48 + (b - 48)) k); next_is = rw d; small = omega arith }) e
    go false t z z' e = absurd (let q : ◌≡◌ {A = ℕ} 0 1 = cc e in omega arith)

-- a number that was read, as a piece of the text
pub stands_number : {text : List ℕ} {at n next : ℕ} → number_at text at ≡ number n next → Stands text at (digits_of n) next
stands_number {text} {at} {n} {next} e = let r = written_read text at n next e in record { there = r.stands; next_is = r.next_is }

-- ---- a number and its closing byte

-- a field that was read
pub field-stands : (text : List ℕ) (at b n next : ℕ) → field_at text at b ≡ number n next → Stands text at (field n b) next
unfolding field_at
field-stands text at b n next h = by_number (number_at text at) refl h
  where
    by_byte_lem : (v e : ℕ) → number_at text at ≡ number v e → (t : Bool) → eqb (byte_at text e) b ≡ t → cond t (number v (e + 1)) None ≡ number n next → Stands text at (field n b) next
    by_byte_lem v e f true t h =
        let ev : v ≡ n = (number_same h).0 in
        let ee : e + 1 ≡ next = (number_same h).1 in
        rw (← ev, ← ee) (stands_join (stands_number f) (stands_byte b (sym (eqb-true _ _ t))))
    by_byte_lem v e f false t h = absurd (let z : ◌≡◌ {A = ℕ} 0 1 = cc h in omega arith)

    by_number : (m : Option Number) → number_at text at ≡ m → closed text b m ≡ number n next → Stands text at (field n b) next
    by_number None f h = absurd (let z : ◌≡◌ {A = ℕ} 0 1 = cc h in omega arith)
    by_number (Some n) f h = by_byte_lem n.value n.next f (eqb (byte_at text n.next) b) refl h

-- a field that was written, with a byte after it that is no digit
pub field_back : (text : List ℕ) (at b n : ℕ) → is_digit b ≡ false → n < 10 ^ 7 → is_at text at (field n b) ≡ true → field_at text at b ≡ number n (at + length (field n b))
field_back text at b n d s h =
    let w = stands_parts text at (digits_of n) (b ∷ []) h in
    let k = (stands_head text (at + length (digits_of n)) b [] w.1).0 in
    field-closed text at b _ refl n (at + length (digits_of n)) (read_written text at n s w.0 (rw k d)) k ∙ ap (number n) (simp length-append (omega arith))

-- the product's limits have at most seven digits
pub limits_seven : SevenDigits limits
limits_seven = record { drones = omega arith; stops = omega arith; location = omega arith; time = omega arith; leg = omega arith; form = omega arith }
