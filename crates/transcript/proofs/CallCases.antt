-- Which case of the definition of a call line holds, by what was read; and what a line that was read says.
use Prim.Native.Nat.{ℕ, ◌+◌, ◌≤◌, ◌<◌}
use native.Mathlib.Omega.{arith}
use mathlib.Core.Path.{◌≡◌, refl, subst}
use mathlib.Core.List.{List, [], ◌∷◌}
use mathlib.Core.Bool.{Bool, true, false, cond}
use lib.Dec.{leb, ltb}
use borrow.Author.Tests.{leb-true, le-leb, lt-leb, ltb-true, ltb-false}
use lib.ListN.{length, length-append}
use Rattle.lines.specs.Bytes.{is_at}
use Rattle.std.specs.Prelude.{Option, Some, None, Result, Ok, Err}
use Rattle.lines.specs.Numbers.{number, field_at, digits_of}
use Rattle.lines.specs.declared.numbers.Number.{Number}
use Rattle.lines.proofs.ByteLaws.{is_at_in, stands_parts}
use Rattle.lines.proofs.NumberCases.{digits_one, digits_more}
use Rattle.lines.proofs.NumberRoundTrip.{field-stands}
use Rattle.transcript.specs.Keys.{grant_key, arrive_key, turn_key, cost_key}
use Rattle.transcript.specs.Input.{most_of, call_line, numbered_call, call_at}
use Rattle.transcript.specs.declared.keys.Kind.{Kind}
use Rattle.transcript.specs.declared.keys.Kind.TheVariants.{Grant, Arrive, Turn, Cost}
use Rattle.transcript.specs.declared.requests.CallLine.{CallLine}
use Rattle.transcript.specs.declared.requests.CallFault.{CallFault}
use Rattle.transcript.specs.declared.requests.CallFault.TheVariants.{Malformed, OutOfRange}

-- ---- the greatest number of a kind

pub most_small : (kind : Kind) → most_of kind ≤ 65535
most_small Grant = omega arith
most_small Arrive = omega arith
most_small Turn = omega arith
most_small Cost = omega arith

-- ---- the number of a line: no number, out of range, in range

module _ (kind : Kind) (text : List ℕ) (at : ℕ) (m : Option Number) (e : m ≡ field_at text at 10) where
  pub range_form : m ≡ None → Err Malformed ≡ numbered_call kind (field_at text at 10)
  range_form k = rw (← e, k)

  module _ (n : Number) (most : ℕ) (k : m ≡ Some n) (h : most ≡ most_of kind) where
    pub range_far : most < n.value → Err OutOfRange ≡ numbered_call kind (field_at text at 10)
    range_far l = rw (← e, k, ← h, lt-leb n.value most l)

    pub range_in : n.value ≤ most → call_line kind n.value n.next ≡ numbered_call kind (field_at text at 10)
    range_in l = rw (← e, k, ← h, le-leb n.value most l)

-- ---- the key of a line: each kind after the ones before it, and none

module _ (text : List ℕ) (at : ℕ) (r : Result CallLine CallFault) where
  pub call-grant : is_at text at grant_key ≡ true → r ≡ numbered_call Grant (field_at text (at + 6) 10) → r ≡ call_at text at
  unfolding call_at
  call-grant h e = rw h e

  module _ (g : is_at text at grant_key ≡ false) where
    pub call-arrive : is_at text at arrive_key ≡ true → r ≡ numbered_call Arrive (field_at text (at + 7) 10) → r ≡ call_at text at
    unfolding call_at
    call-arrive h e = rw (g, h) e

    module _ (a : is_at text at arrive_key ≡ false) where
      pub call-turn : is_at text at turn_key ≡ true → r ≡ numbered_call Turn (field_at text (at + 5) 10) → r ≡ call_at text at
      unfolding call_at
      call-turn h e = rw (g, a, h) e

      module _ (t : is_at text at turn_key ≡ false) where
        pub call-cost : is_at text at cost_key ≡ true → r ≡ numbered_call Cost (field_at text (at + 5) 10) → r ≡ call_at text at
        unfolding call_at
        call-cost h e = rw (g, a, t, h) e

pub call_none : (text : List ℕ) (at : ℕ) → is_at text at grant_key ≡ false → is_at text at arrive_key ≡ false → is_at text at turn_key ≡ false → is_at text at cost_key ≡ false → Err Malformed ≡ call_at text at
unfolding call_at
call_none text at g a t h = rw (g, a, t, h)

-- ---- what a line that was read says: its range, seven bytes at least

pub record CallRead (text : List ℕ) (at : ℕ) (line : CallLine) : Type 0 where
  pub number_in_lem : line.request.number ≤ most_of line.request.kind
  pub enough : at + 7 ≤ line.next
  pub within : line.next ≤ length text

-- a number has a digit
digits_some : (n : ℕ) → 1 ≤ length (digits_of n)
digits_some n = go (ltb n 10) refl
  where
    go : (b : Bool) → ltb n 10 ≡ b → 1 ≤ length (digits_of n)
    go true e = rw (digits_one 7 n (omega arith) (ltb-true n 10 e)) (omega arith)
    go false e = rw (digits_more 7 n (omega arith) (ltb-false n 10 e)) (simp length-append (omega arith))

-- a field that was read ends in the text
field-within : (text : List ℕ) (at n p : ℕ) → field_at text at 10 ≡ number n p → (at + 2 ≤ p) × (p ≤ length text)
field-within text at n p e =
    let s = field-stands text at 10 n p e in
    let w = stands_parts text at (digits_of n) (10 ∷ []) s.there in
    let i = is_at_in text (at + length (digits_of n)) 10 [] w.1 refl in
    (omega (arith, simp length-append at s.next_is, digits_some n), omega (arith, simp length-append at s.next_is))

module _ (text : List ℕ) (at : ℕ) (line : CallLine) where
  by_range : (kind : Kind) (len : ℕ) → 5 ≤ len → (n : Number) → field_at text (at + len) 10 ≡ Some n → (b : Bool) → leb n.value (most_of kind) ≡ b → cond b (call_line kind n.value n.next) (Err OutOfRange) ≡ Ok line → CallRead text at line
  by_range kind len l n f true t h =
      let e : record { request = record { kind = kind; number = n.value }; next = n.next } ≡ line = cc h in
      let w = field-within text (at + len) n.value n.next f in
      subst (λ (x : CallLine). CallRead text at x) e (record { number_in_lem = leb-true n.value (most_of kind) t; enough = omega arith; within = w.1 })
  by_range kind len l n f false t h = absurd (let z : ◌≡◌ {A = ℕ} 0 1 = cc h in omega arith)

  by_number : (kind : Kind) (len : ℕ) → 5 ≤ len → (m : Option Number) → field_at text (at + len) 10 ≡ m → numbered_call kind m ≡ Ok line → CallRead text at line
  by_number kind len l None f h = absurd (let z : ◌≡◌ {A = ℕ} 0 1 = cc h in omega arith)
  by_number kind len l (Some n) f h = by_range kind len l n f (leb n.value (most_of kind)) refl h

  -- of this kind, or of another
  by_key : (kind : Kind) (len : ℕ) → 5 ≤ len → (b : Bool) (other : Result CallLine CallFault) → (other ≡ Ok line → CallRead text at line) → cond b (numbered_call kind (field_at text (at + len) 10)) other ≡ Ok line → CallRead text at line
  by_key kind len l true other rest h = by_number kind len l (field_at text (at + len) 10) refl h
  by_key kind len l false other rest h = rest h

  pub call_read : call_at text at ≡ Ok line → CallRead text at line
  unfolding call_at
  call_read =
      by_key Grant 6 (omega arith) (is_at text at grant_key) _
      (by_key Arrive 7 (omega arith) (is_at text at arrive_key) _
      (by_key Turn 5 (omega arith) (is_at text at turn_key) _
      (by_key Cost 5 (omega arith) (is_at text at cost_key) _
      (λ h. absurd (let z : ◌≡◌ {A = ℕ} 0 1 = cc h in omega arith)))))
