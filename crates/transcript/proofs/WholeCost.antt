-- A cost has seven digits at most, so its line holds all of them.
use Prim.Native.Nat.{ℕ, ◌≤◌}
use native.Mathlib.Omega.{arith}
use mathlib.Core.Path.{◌≡◌, refl, ap, ◌∙◌, subst}
use mathlib.Core.Bool.{true}
use mathlib.Core.List.{List}
use lib.ListN.{length}
use lib.Seq.{take-length}
use Rattle.tables.specs.Limits.{most_cost}
use Rattle.lines.specs.Bytes.{is_at}
use Rattle.lines.specs.Numbers.{is_digit, number, field_at, field}
use Rattle.transcript.specs.declared.keys.Kind.TheVariants.{Cost}
use Rattle.lines.proofs.ByteLaws.{part_at}
use Rattle.lines.proofs.NumberRoundTrip.{field_back}
use Rattle.call_log.proofs.Costs.{cost_limit}
use Rattle.transcript.specs.Keys.{cost_key}
use Rattle.transcript.specs.Output.{answer_line}
use Rattle.transcript.specs.Run.{CostWhole}

line_whole : (n : ℕ) → n ≤ most_cost → field_at (answer_line Cost 0 n) (length cost_key) 10 ≡ number n (length (answer_line Cost 0 n))
unfolding answer_line is_digit
line_whole n h =
    let line : List ℕ = answer_line Cost 0 n in
    let there : is_at line 5 (field n 10) ≡ true = subst (λ (l : List ℕ). is_at line 5 l ≡ true) (take-length (field n 10)) (part_at line 5 (length (field n 10)) (omega arith)) in
    field_back line 5 10 n refl (omega arith) there ∙ ap (number n) (omega arith)

pub cost-whole : CostWhole
cost-whole t n e = line_whole n (cost_limit t n e)
