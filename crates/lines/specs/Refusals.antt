-- The refusals of a line, in document 01's numbers ("Where each refusal is checked"), and their byte offsets. Assumes nothing.
use Rattle.std.specs.Prelude.{ℕ}
use Rattle.lines.specs.declared.refusal.Refusal.{Refusal}
use Rattle.lines.specs.declared.refusal.Refusal.TheVariants.{Form, Range, Name, SameName, TooManyStops}

-- "2 form, key, order or missing line; 4 number outside its range; 3 name; 5 name equal to an earlier one; 6 at a `stops=` line, the M read so far, this one included, add up
-- to more than the limit for all drones"
abbrev pub refusal_number : Refusal → ℕ
refusal_number (Form o) = 2
refusal_number (Range o) = 4
refusal_number (Name o) = 3
refusal_number (SameName o) = 5
refusal_number (TooManyStops o) = 6

-- "Refusals 1 to 6 carry a byte offset: .. the start of the line (the text's length if the line is absent)"
abbrev pub refusal_offset : Refusal → ℕ
refusal_offset (Form o) = o
refusal_offset (Range o) = o
refusal_offset (Name o) = o
refusal_offset (SameName o) = o
refusal_offset (TooManyStops o) = o
