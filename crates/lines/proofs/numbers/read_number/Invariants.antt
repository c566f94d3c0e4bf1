-- The digits that are left, read from here on, give the number that the whole gives; seven digits stay below ten million.
use Prim.Native.Nat.{◌+◌, ◌-◌, ◌*◌, ◌^◌, ◌≤◌}
use mathlib.Core.Path.{◌≡◌}
use Rattle.lines.specs.Numbers.{digits_from, number_at}
use Rattle.lines.proofs.numbers.read_number.Given as goal

abbrev pub invariant-loop : goal.invariant-loop
invariant-loop l = (number_at l.text l.at ≡ digits_from (6 - l.counter) l.text l.read.next l.read.value) × ((l.read.value + 1) * 10 ^ (6 - l.counter) ≤ 10 ^ 7)
