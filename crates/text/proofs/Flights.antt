-- The worked texts of specs/Examples, by computing.
use mathlib.Core.Path.{refl}
use Rattle.lines.specs.Bytes.{byte_at, is_at}
use Rattle.lines.specs.Numbers.{is_digit, digits_from, number_at, field_at, digits}
use Rattle.tables.specs.Legs.{plain_leg, longest_leg, leg_right}
use Rattle.lines.specs.Forms.{form_at}
use Rattle.lines.specs.Stops.{time_end, leg_at, go_at, leg_field, stops_at, stop_lines, count_at}
use Rattle.lines.specs.Names.{until_feed, line_end, is_capital, small_byte, small_form, is_name_byte, is_text_byte, text_bytes, text_name, name_at, name_of}
use Rattle.text.specs.LinesRead.{stops_read, drone_at, same, elem, drones_at, lines_of_form, lines_at}
use Rattle.text.specs.Written.{drone_lines}
use Rattle.text.specs.Examples.{ExampleTexts}

pub example_texts : ExampleTexts
unfolding byte_at is_at is_digit digits_from number_at field_at go_at stops_at count_at until_feed line_end is_capital small_byte small_form is_name_byte is_text_byte text_bytes text_name name_at stops_read drone_at same elem drones_at form_at lines_of_form lines_at plain_leg longest_leg leg_right time_end leg_at leg_field drone_lines name_of digits stop_lines
example_texts = record { as_listed = refl; keys = refl; capitals = refl; in_its_form = refl; older = refl }
