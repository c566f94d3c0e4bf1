-- One law for each return: the key, the form of the numbers, their ranges.
use mathlib.Core.Bool.{true}
use native.Mathlib.Omega.{arith}
use mathlib.Core.Path.{◌≡◌, refl, sym, ◌∙◌}
use Rattle.lines.proofs.ByteLaws.{is_at_in}
use Rattle.lines.proofs.NumberCases.{field_by}
use Rattle.lines.proofs.StopCases.{go_far, go_first, go_in, go_late, go_long, go-none, go_second, go_third}
use Rattle.lines.specs.Bytes.{is_at}
use Rattle.lines.specs.Keys.{go_key}
use Rattle.lines.proofs.stops.go_line.Goals.{Else-not-starts}
use Rattle.lines.proofs.stops.go_line.Goals as goal

-- the key stands at the line's start, past the first test
keyed : (c : Else-not-starts) → is_at c.args.text.now c.args.at go_key ≡ true
keyed c = sym c.starts.ensures ∙ c.if-not-starts.false

pub returns-then-not-starts : goal.returns-then-not-starts
returns-then-not-starts c = sym (go-none _ _ _ _ _ (sym c.starts.ensures ∙ c.if-not-starts.true))

pub overflow_add-at : goal.overflow_add-at
overflow_add-at c = let h = is_at_in _ _ _ _ (keyed (goal.at.overflow_add-at c).Else-not-starts) refl in omega arith

pub returns-in_default : goal.returns-in_default
returns-in_default c = sym (go_first _ _ _ _ _ (keyed (goal.at.returns-in_default c).Else-not-starts) _ c.field.ensures c.in_default.is)

pub returns-in_default-field : goal.returns-in_default-field
returns-in_default-field c = sym (go_second _ _ _ _ _ (keyed (goal.at.returns-in_default-field c).Else-not-starts) _ c.field.ensures _ _ c.in-Some.is _ (field_by _ _ c.field-2.ensures c.time_end.ensures) c.in_default-field.is)

pub returns-in_default-leg_field : goal.returns-in_default-leg_field
returns-in_default-leg_field c = sym (go_third _ _ _ _ _ (keyed (goal.at.returns-in_default-leg_field c).Else-not-starts) _ c.field.ensures _ _ c.in-Some.is _ (field_by _ _ c.field-2.ensures c.time_end.ensures) _ _ c.in-Some-field.is _ c.leg_field.ensures c.in_default-leg_field.is)

pub returns-then-location-gt-MAX_LOCATION : goal.returns-then-location-gt-MAX_LOCATION
returns-then-location-gt-MAX_LOCATION c = sym (go_far _ _ _ _ _ (keyed (goal.at.returns-then-location-gt-MAX_LOCATION c).Else-not-starts) _ c.field.ensures _ _ c.in-Some.is _ (field_by _ _ c.field-2.ensures c.time_end.ensures) _ _ c.in-Some-field.is _ c.leg_field.ensures _ _ c.in-Some-leg_field.is c.if-location-gt-MAX_LOCATION.true)

pub returns-then-time-gt-MAX_TIME : goal.returns-then-time-gt-MAX_TIME
returns-then-time-gt-MAX_TIME c = sym (go_late _ _ _ _ _ (keyed (goal.at.returns-then-time-gt-MAX_TIME c).Else-not-starts) _ c.field.ensures _ _ c.in-Some.is _ (field_by _ _ c.field-2.ensures c.time_end.ensures) _ _ c.in-Some-field.is _ c.leg_field.ensures _ _ c.in-Some-leg_field.is c.if-location-gt-MAX_LOCATION.false c.if-time-gt-MAX_TIME.true)

pub returns-then-not-leg_right : goal.returns-then-not-leg_right
returns-then-not-leg_right c = sym (go_long _ _ _ _ _ (keyed (goal.at.returns-then-not-leg_right c).Else-not-starts) _ c.field.ensures _ _ c.in-Some.is _ (field_by _ _ c.field-2.ensures c.time_end.ensures) _ _ c.in-Some-field.is _ c.leg_field.ensures _ _ c.in-Some-leg_field.is c.if-location-gt-MAX_LOCATION.false c.if-time-gt-MAX_TIME.false (sym c.leg_right.ensures ∙ c.if-not-leg_right.true))

pub returns : goal.returns
returns c = sym (go_in _ _ _ _ _ (keyed (goal.at.returns c).Else-not-starts) _ c.field.ensures _ _ c.in-Some.is _ (field_by _ _ c.field-2.ensures c.time_end.ensures) _ _ c.in-Some-field.is _ c.leg_field.ensures _ _ c.in-Some-leg_field.is c.if-location-gt-MAX_LOCATION.false c.if-time-gt-MAX_TIME.false (sym c.leg_right.ensures ∙ c.if-not-leg_right.false))
