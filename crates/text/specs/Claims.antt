-- What is claimed of the plan text: texts of well-formed lines, but for the capitals in their names, and plans within the limits correspond one to one, by writing and by reading. A text
-- without capitals is its own small form. A refusal's offset is the start of a line, and no line before it is at fault. Assumes nothing.
use Rattle.std.specs.Prelude.{ℕ, ◌+◌, ◌*◌, ◌≤◌, ◌<◌, ◌≡◌, ◌⊎◌, List, length, get_or, take, Err, Ok}
use Rattle.tables.specs.Limits.{Limits}
use Rattle.lines.specs.Names.{small_form, part, good_name, named_at, name_at}
use Rattle.lines.specs.Refusals.{refusal_number, refusal_offset}
use Rattle.lines.specs.declared.refusal.Refusal.{Refusal}
use Rattle.lines.specs.declared.refusal.Refusal.TheVariants.{Form}
use Rattle.text.specs.Names.{line_start, names_small}
use Rattle.text.specs.LinesRead.{lines_at}
use Rattle.text.specs.TextRead.{TextRead}
use Rattle.text.specs.TextWritten.{tables_text}
use Rattle.text.specs.Written.{plan_text, Route, routes_text, small_names, lines_of, InLimits}

-- the plan of n drones whose text it is, within the limits when its names are in small letters, and so read
pub record PlanOfText (L : Limits) (text : List ℕ) (n : ℕ) : Type 0 where
  pub form : ℕ
  pub typed : List Route
  pub as_typed : text ≡ routes_text form typed
  pub many : length typed ≡ n
  pub in_limits : InLimits L form (small_names typed)
  pub read : lines_at L text ≡ lines_of L form (small_names typed)

-- the longest text of a plan within the limits has at most this many bytes: 31 in the lines of the whole plan, in each drone's two lines 20 beside its name, 27 in the line of a stop
abbrev pub text_bound : Limits → ℕ
text_bound L = 31 + L.drones * (20 + L.name) + 27 * L.stops

pub record RoundTrip (L : Limits) : Type 0 where
  -- what is written of a plan within the limits is read back as that plan
  pub written_is_read : (form : ℕ) (ds : List Route) → InLimits L form ds → lines_at L (routes_text form ds) ≡ lines_of L form ds
  -- such a plan has no capital in a name
  pub no_capitals : (form : ℕ) (ds : List Route) → InLimits L form ds → small_names ds ≡ ds
  -- "a capital is the same letter as its small form": names with capitals are read as their small forms
  pub capitals_are_read : (form : ℕ) (ds : List Route) → InLimits L form (small_names ds) → lines_at L (routes_text form ds) ≡ lines_of L form (small_names ds)
  -- a text of well-formed lines is that of a plan, which was read with its names in small letters
  pub well_formed_is_written : (text : List ℕ) (n : ℕ) → (lines_at L text).answer ≡ Ok n → PlanOfText L text n
  -- every capital of a plan's text stands in a name, so its small form is "its text with the names in small letters"
  pub names_alone : (form : ℕ) (ds : List Route) → form ≤ 2 → small_form (routes_text form ds) ≡ routes_text form (small_names ds)
  -- a text of well-formed lines and its small form are read alike, and what the tables then hold is written as that small form
  pub read_alike : (text : List ℕ) (n : ℕ) → (lines_at L text).answer ≡ Ok n → lines_at L (small_form text) ≡ lines_at L text
  pub tables_text : (text : List ℕ) (n : ℕ) → (lines_at L text).answer ≡ Ok n
      → small_form text ≡ plan_text (lines_at L text).form n (lines_at L text).rows (lines_at L text).counts (lines_at L text).locations (lines_at L text).times (lines_at L text).legs
  -- so no two plans within the limits have one text, and two texts of well-formed lines that give one plan differ by capitals at most
  pub one_plan : (f g : ℕ) (ds es : List Route) → InLimits L f ds → InLimits L g es → routes_text f ds ≡ routes_text g es → (f ≡ g) × (ds ≡ es)
  pub one_text : (a b : List ℕ) (n : ℕ) → (lines_at L a).answer ≡ Ok n → lines_at L a ≡ lines_at L b → small_form a ≡ small_form b
  -- the text of a plan within the limits is bounded by the other limits; where the bound is within the limit of the text, no such text is too long
  pub written_bound : (form : ℕ) (ds : List Route) → InLimits L form ds → length (routes_text form ds) ≤ text_bound L
  pub written_short : text_bound L ≤ L.text → (form : ℕ) (ds : List Route) → InLimits L form ds → length (routes_text form ds) ≤ L.text

-- what reading well-formed lines left in tables of full size is written as the small form of the text that was read: "Writing out a taken plan therefore gives its text with
-- the names in small letters"
pub record ReadAndWritten (L : Limits) : Type 0 where
  pub text_kept : (n : ℕ) (text dc fm ns cs ls ts gs dc' fm' ns' cs' ls' ts' gs' : List ℕ) → TextRead L text dc fm ns cs ls ts gs dc' fm' ns' cs' ls' ts' gs' (Ok n)
      → 1 ≤ length fm → L.drones * L.name ≤ length ns → L.drones ≤ length cs → L.stops ≤ length ls → L.stops ≤ length ts → L.stops ≤ length gs
      → tables_text L (get_or fm' 0 0) n ns' cs' ls' ts' gs' ≡ small_form text

-- ---- capitals

-- a text and the same with its names in small letters are read alike: the same answer at the same offset, the same values
abbrev pub LinesAlike : Limits → Type 0
LinesAlike L = (text : List ℕ) → lines_at L (names_small text) ≡ lines_at L text

-- a text without capitals, which is its own small form, is read as if there were none: the line of a name is judged by the tables' own rule, the name is stored as it stands,
-- and texts of well-formed lines and plans within the limits correspond one to one
pub record WithoutCapitals (L : Limits) : Type 0 where
  pub names_judged : (text : List ℕ) (at : ℕ) → small_form text ≡ text → name_at L text at ≡ named_at (good_name L) text at
  pub names_stored : (text : List ℕ) (s e : ℕ) → small_form text ≡ text → small_form (part text s e) ≡ part text s e
  pub well_formed_is_written : (text : List ℕ) (n : ℕ) → small_form text ≡ text → (lines_at L text).answer ≡ Ok n
      → (form : ℕ) × (ds : List Route) × (length ds ≡ n) × InLimits L form ds × (lines_at L text ≡ lines_of L form ds) × (text ≡ routes_text form ds)
  pub one_text : (a b : List ℕ) (n : ℕ) → small_form a ≡ a → small_form b ≡ b → (lines_at L a).answer ≡ Ok n → lines_at L a ≡ lines_at L b → a ≡ b

-- ---- offsets of refusals

-- "Refusals 1 to 6 carry a byte offset: .. else the start of the line (the text's length if the line is absent)": in every text the offset is the start of a line and at most
-- the text's length; where it is the text's length, the line is absent, and the refusal is 2, "form, key, order or missing line"
abbrev pub OffsetsBeginLines : Limits → Type 0
OffsetsBeginLines L = (text : List ℕ) (r : Refusal) → (lines_at L text).answer ≡ Err r
    → (line_start text (refusal_offset r) ≡ refusal_offset r) × (refusal_offset r ≤ length text) × (refusal_offset r ≡ length text → refusal_number r ≡ 2)

-- .. and no line before it is at fault: the text up to there is refused only because its next line is absent, by 2 at its own length; or its lines are well-formed, and the
-- refusal was of what follows the last line
abbrev pub CutAtFault : Limits → Type 0
CutAtFault L = (text : List ℕ) (r : Refusal) → (lines_at L text).answer ≡ Err r → let before = take (refusal_offset r) text in
    ((lines_at L before).answer ≡ Err (Form (length before))) ⊎ ((n : ℕ) × ((lines_at L before).answer ≡ Ok n))

-- "(the text's length if the line is absent)": a text of well-formed lines that is cut off where one of its lines begins is refused by 2 at its length
abbrev pub AbsentAtLength : Limits → Type 0
AbsentAtLength L = (text : List ℕ) (n p : ℕ) → (lines_at L text).answer ≡ Ok n → line_start text p ≡ p → p < length text → (lines_at L (take p text)).answer ≡ Err (Form p)
