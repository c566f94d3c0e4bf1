-- Writing the plan that the tables hold: its text, the answer, and the buffer afterwards (document 01, "Where each refusal is checked"). Assumes nothing.
use Rattle.std.specs.Prelude.{ℕ, zero, suc, ◌*◌, ◌≤◌, ◌≡◌, List, [], ◌∷◌, ◌++◌, Bool, cond, ltb, length, take, drop, None, Option, Some}
use Rattle.below.specs.Below.{sum_below, at as entry}
use Rattle.tables.specs.Limits.{Limits}
use Rattle.lines.specs.Keys.{stops_key}
use Rattle.lines.specs.Stops.{count_line, stop_lines}
use Rattle.lines.specs.Names.{name_line, name_of}
use Rattle.text.specs.Written.{plan_text}

-- ---- the text

-- the lines of one drone: the name in its row, and its first m stops
abbrev pub drone_text : ℕ → List ℕ → ℕ → (ls ts gs : List ℕ) → List ℕ
drone_text form row m ls ts gs = name_line (name_of row) ++ (count_line stops_key m ++ stop_lines form (take m ls) (take m ts) (take m gs))

-- the first n rows of the table of names
unfoldable pub rows_in : Limits → ℕ → List ℕ → List (List ℕ)
rows_in L zero names = []
rows_in L (suc n) names = take L.name names ∷ rows_in L n (drop L.name names)

-- the text of the first n drones of the tables: "a plan is written in the form it was read in"
unfoldable pub tables_text : Limits → (form n : ℕ) → (names counts locations times legs : List ℕ) → List ℕ
tables_text L form n names counts locations times legs =
    let total = sum_below n (entry counts) in
    plan_text form n (rows_in L n names) (take n counts) (take total locations) (take total times) (take total legs)

-- what the writer asks of the tables: full sizes, and the form, drones and stops within the limits
pub record Writable (L : Limits) (form n : ℕ) (names counts locations times legs : List ℕ) : Type 0 where
  pub form_in : form ≤ L.form
  pub drones_in : n ≤ L.drones
  pub stops_in_lem : sum_below n (entry counts) ≤ L.stops
  pub names_full : L.drones * L.name ≤ length names
  pub counts_full : L.drones ≤ length counts
  pub locations_full : L.stops ≤ length locations
  pub times_full : L.stops ≤ length times
  pub legs_full : L.stops ≤ length legs

-- ---- the answer

-- "buffer shorter than the text"
unfoldable pub is_short : List ℕ → List ℕ → Bool
is_short buffer text = ltb (length buffer) (length text)

-- "The writer returns the length"
unfoldable pub write_answer : List ℕ → List ℕ → Option ℕ
write_answer buffer text = cond (is_short buffer text) None (Some (length text))

-- "leaves bytes past the text unchanged"; a buffer that is too short is unchanged
unfoldable pub buffer_after : List ℕ → List ℕ → List ℕ
buffer_after buffer text = cond (is_short buffer text) buffer (text ++ drop (length text) buffer)

pub record TextWritten (text before after : List ℕ) (r : Option ℕ) : Type 0 where
  pub answer_is : r ≡ write_answer before text
  pub buffer_is : after ≡ buffer_after before text
