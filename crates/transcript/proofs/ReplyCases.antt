-- Which case of the definitions of the output's lines holds, and how long a line is.
use Prim.Native.Nat.{ℕ, ◌+◌, ◌≤◌}
use native.Mathlib.Numerals.{add-one}
use native.Mathlib.Omega.{arith}
use mathlib.Core.Path.{◌≡◌, refl}
use mathlib.Core.List.{List, [], ◌∷◌, ◌++◌}
use mathlib.Core.Bool.{Bool, true, false, cond}
use lib.Dec.{eqb}
use borrow.Author.Tests.{eq-eqb, ne_eqb}
use lib.ListN.{length, length-append}
use Rattle.below.specs.Below.{rows_below}
use Rattle.lines.specs.Numbers.{digits_of}
use Rattle.lines.proofs.NumberCases.{digits-length}
use Rattle.transcript.specs.Keys.{key_of}
use Rattle.transcript.specs.Input.{asked_at}
use Rattle.transcript.specs.Output.{reply_text, value_text, answer_line, answer_at, lines_in}
use Rattle.transcript.specs.declared.keys.Kind.{Kind}
use Rattle.transcript.specs.declared.keys.Kind.TheVariants.{Grant, Arrive, Turn, Cost}
use Rattle.transcript.specs.declared.requests.Request.{Request as Asked}
use Rattle.transcript.specs.declared.replies.Answer.{Answer}

-- ---- keys

pub key_short : (k : Kind) → length (key_of k) ≤ 7
key_short Grant = omega arith
key_short Arrive = omega arith
key_short Turn = omega arith
key_short Cost = omega arith

-- ---- values

module _ (n w : ℕ) where
  pub reply_plain : (n ≡ 23 → ⊥) → reply_text n w ≡ digits_of n
  unfolding reply_text
  reply_plain h = rw (ne_eqb n 23 h)

  pub reply_waits : n ≡ 23 → reply_text n w ≡ digits_of n ++ 58 ∷ digits_of w
  unfolding reply_text
  reply_waits h = rw (eq-eqb n 23 h)

  pub reply_short : length (reply_text n w) ≤ 15
  unfolding reply_text
  reply_short = go (eqb n 23)
    where
      go : (b : Bool) → length (cond b (digits_of n ++ 58 ∷ digits_of w) (digits_of n)) ≤ 15
      go true = simp length-append (omega (arith, digits-length 7 n, digits-length 7 w))
      go false = omega (arith, digits-length 7 n)

pub value_short : (k : Kind) (n w : ℕ) → length (value_text k n w) ≤ 15
value_short Grant n w = reply_short n w
value_short Arrive n w = reply_short n w
value_short Turn n w = reply_short n w
value_short Cost n w = omega (arith, digits-length 7 w)

-- ---- lines

pub answer_is : (k : Kind) (n w : ℕ) → answer_line k n w ≡ key_of k ++ value_text k n w ++ 10 ∷ []
unfolding answer_line
answer_is k n w = refl

pub answer_short : (k : Kind) (n w : ℕ) → length (answer_line k n w) ≤ 23
answer_short k n w = rw (answer_is k n w) (simp length-append (omega (arith, key_short k, value_short k n w)))

module _ (qs : List Asked) (ans : List Answer) where
  pub lines_start : lines_in 0 qs ans ≡ []
  unfolding lines_in rows_below
  lines_start = refl

  pub lines_step : (i : ℕ) → lines_in (i + 1) qs ans ≡ lines_in i qs ans ++ answer_line (asked_at qs i).kind (answer_at ans i).number (answer_at ans i).detail
  unfolding lines_in rows_below
  lines_step i = rw (add-one i)

pub lines_all : (qs : List Asked) (ans : List Answer) (i n : ℕ) → i ≡ n → lines_in i qs ans ≡ lines_in n qs ans
lines_all qs ans i n e = rw e
