-- "Numbers are decimal, one to seven digits, without sign or leading zero (zero is `0`)." Read at a position, and written. Assumes nothing.
use Rattle.std.specs.Prelude.{ℕ, zero, suc, ◌+◌, ◌-◌, ◌*◌, ◌/◌, ◌%◌, ◌^◌, ◌<◌, ◌≤◌, List, [], ◌∷◌, ◌++◌, Bool, cond, ◌&&◌, leb, ltb, eqb, Option, Some, None}
use Rattle.tables.specs.Limits.{Limits}
use Rattle.lines.specs.Bytes.{byte_at}
use Rattle.lines.specs.declared.numbers.Number.{Number}

unfoldable pub is_digit : ℕ → Bool
is_digit b = leb 48 b && leb b 57

-- a number that was read: its value, and the position after it
abbrev pub number : ℕ → ℕ → Option Number
number v e = Some (record { value = v; next = e })

-- at most `left` digits more, after digits whose value is v
unfoldable pub digits_from : ℕ → List ℕ → ℕ → ℕ → Option Number
digits_from zero text at v = number v at
digits_from (suc left) text at v =
    cond (is_digit (byte_at text at)) (digits_from left text (at + 1) (v * 10 + (byte_at text at - 48))) (number v at)

-- a number at a position, and the position after it: `0`, or a digit from 1 to 9 and at most six more
unfoldable pub number_at : List ℕ → ℕ → Option Number
number_at text at =
    cond (is_digit (byte_at text at))
    (cond (eqb (byte_at text at) 48) (number 0 (at + 1)) (digits_from 6 text (at + 1) (byte_at text at - 48)))
    None

-- a number and the byte that closes it
abbrev pub closed : List ℕ → ℕ → Option Number → Option Number
closed text b None = None
closed text b (Some n) = cond (eqb (byte_at text n.next) b) (number n.value (n.next + 1)) None

unfoldable pub field_at : List ℕ → ℕ → ℕ → Option Number
field_at text at b = closed text b (number_at text at)

-- ---- as written

-- a number below 10^left, without leading zeros; a larger one is cut to its last `left` digits, zeros among them
unfoldable pub digits : ℕ → ℕ → List ℕ
digits zero n = []
digits (suc left) n = cond (ltb n 10) ((48 + n) ∷ []) (digits left (n / 10) ++ (48 + n % 10) ∷ [])

abbrev pub digits_of : ℕ → List ℕ
digits_of n = digits 7 n

abbrev pub field : ℕ → ℕ → List ℕ
field n b = digits_of n ++ b ∷ []

-- what reading back asks of the limits: a number within them has at most seven digits, and there are the two plan forms at most
pub record SevenDigits (L : Limits) : Type 0 where
  pub drones : L.drones < 10 ^ 7
  pub stops : L.stops < 10 ^ 7
  pub location : L.location < 10 ^ 7
  pub time : L.time < 10 ^ 7
  pub leg : L.leg < 10 ^ 7
  pub form : L.form ≤ 2
