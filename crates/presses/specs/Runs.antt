-- Presses one after another: the tables that each leaves, and what is shown of the last. Assumes nothing.
use Rattle.std.specs.Prelude.{◌≡◌, cond, List, ℕ, zero, suc, eqb}
use Rattle.below.specs.Below.{at}
use Rattle.tables.specs.Limits.{Limits}
use Rattle.tables.specs.Tables.{Tables}
use Rattle.reading.specs.Replies.{reading_number}
use Rattle.reading.specs.Reading.{read_plan, without}
use Rattle.dispatch.specs.Transcribing.{zero_tables}
use Rattle.handset.specs.Press.{PressOutcome, granted, press_refused, press_step}
use Rattle.std.specs.Prelude.{Option, Some, None}

-- a report by its number: 65,535 says that nothing was reported, any other that this drone arrived
unfoldable pub report_of : ℕ → Option ℕ
report_of n = cond (eqb n 65535) None (Some n)

abbrev pub reports_in : List ℕ → ℕ → Option ℕ
reports_in l i = report_of (at l i)

-- what is shown of a reply
abbrev pub number_shown : PressOutcome → ℕ
number_shown (granted b) = 0
number_shown (press_refused n) = n

abbrev pub bits_shown : PressOutcome → ℕ
bits_shown (granted b) = b
bits_shown (press_refused n) = 0

module _ (L : Limits) (t : Tables) (reports : ℕ → Option ℕ) where
  -- the tables after the presses with the reports below n
  unfoldable pub tables_pressed : ℕ → Tables
  tables_pressed zero = t
  tables_pressed (suc n) = (press_step L (tables_pressed n) (reports n)).tables

  -- the last of their replies
  unfoldable pub last_reply : ℕ → PressOutcome
  last_reply zero = granted 0
  last_reply (suc n) = (press_step L (tables_pressed n) (reports n)).reply

  pub record PressesMade (n number bits : ℕ) (t' : Tables) : Type 0 where
    pub tables_are : t' ≡ tables_pressed n
    pub number_is : number ≡ number_shown (last_reply n)
    pub bits_are : bits ≡ bits_shown (last_reply n)

-- the plan's refusal, or the last reply of the presses on the tables that its reading left
pub record PressesRun (L : Limits) (text : List ℕ) (reports : ℕ → Option ℕ) (n number bits : ℕ) : Type 0 where
  pub refused : (reading_number (read_plan L without text (zero_tables L)).reply ≡ 0 → ⊥) → (number ≡ reading_number (read_plan L without text (zero_tables L)).reply) × (bits ≡ 0)
  pub taken : reading_number (read_plan L without text (zero_tables L)).reply ≡ 0 → (number ≡ number_shown (last_reply L (read_plan L without text (zero_tables L)).tables reports n)) × (bits ≡ bits_shown (last_reply L (read_plan L without text (zero_tables L)).tables reports n))
