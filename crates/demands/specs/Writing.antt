-- "Writing out a taken plan therefore gives its text with the names in small letters": the writer's own reply and the buffer that it leaves, after a text that was taken
-- and any list of calls, each known by its contract alone (document 01, "Where each refusal is checked"; document 02, point 5). Assumes nothing.
use Rattle.std.specs.Prelude.{◌≡◌, List, ◌++◌, ℕ, ◌≤◌, ◌<◌, length, drop}
use Rattle.tables.specs.Limits.{Limits}
use Rattle.tables.specs.Tables.{Tables}
use Rattle.lines.specs.Names.{small_form}
use Rattle.call_log.specs.CallLog.{Call, Entry}
use Rattle.call_log.specs.Calls.{step, Ran}
use Rattle.reading.specs.Reading.{Site, AnsweredAs, read_plan}
use Rattle.reading.specs.Replies.{taken}
use Rattle.flat.specs.Writing.{Writing, wrote, write_refused, PlanWritten}

-- the writer's reply r, and the buffer before and after it, for the plan of a text
pub record TextGiven (text before : List ℕ) (r : Writing) (after : List ℕ) : Type 0 where
  -- "The writer returns the length"
  pub length_returned : length text ≤ length before → r ≡ wrote (length text)
  -- the text, so "a plan is written in the form it was read in", and "leaves bytes past the text unchanged"
  pub text_left : length text ≤ length before → after ≡ small_form text ++ drop (length text) before
  -- "42 buffer shorter than the text"
  pub refused_short : length before < length text → r ≡ write_refused 42
  -- "unchanged, and the text buffer too at 40, 41 and 42"
  pub unchanged : length before < length text → after ≡ before

-- the text was read, with a site text or without, into the tables t and taken, which left t₁; calls were made, which left t'; then the plan was written
abbrev pub WrittenOut : Limits → Type 0
WrittenOut L =
    (s : Site) (text : List ℕ) (t t₁ : Tables) → AnsweredAs (read_plan L s text t) taken t₁
    → (calls : List Call) (got : List Entry) (t' : Tables) → Ran (step L) t₁ calls got t'
    → (before after : List ℕ) (r : Writing) → PlanWritten L t' before after r → TextGiven text before r after
