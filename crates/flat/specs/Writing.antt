-- Writing the plan that the tables hold: the writer's reply and the buffer afterwards (document 01, "Where each refusal is checked"). Assumes nothing.
use Rattle.std.specs.Prelude.{◌≡◌, cond, ◌&&◌, List, ℕ, Option, Some, None, Result, Ok, Err}
use Rattle.tables.specs.Limits.{Limits}
use Rattle.tables.specs.Tables.{Tables, drones, form_of, full_size}
use Rattle.sound.specs.Sound.{sound}
use Rattle.text.specs.TextWritten.{tables_text, write_answer, buffer_after}
use Rattle.flat.specs.declared.replies.WriteRefusal.{WriteRefusal}
use Rattle.flat.specs.declared.replies.WriteRefusal.TheVariants as write
use Rattle.flat.specs.Replies.{fault_number}

-- the length of the text, or a refusal by its number
pub data Writing : Type 0 where
  wrote : ℕ → Writing
  write_refused : ℕ → Writing

abbrev pub write_meant : Result ℕ WriteRefusal → Writing
write_meant (Ok n) = wrote n
write_meant (Err (write.Tables fault)) = write_refused (fault_number fault)
write_meant (Err write.BufferTooShort) = write_refused 42

-- "42 buffer shorter than the text"; "The writer returns the length"
abbrev pub text_meant : Option ℕ → Writing
text_meant (Some n) = wrote n
text_meant None = write_refused 42

-- the text of the plan in the tables
abbrev pub text_in : Limits → Tables → List ℕ
text_in L t = tables_text L (form_of t.plan) (drones t.plan) t.plan.names t.plan.stop_counts t.plan.locations t.plan.times t.plan.legs

module _ (L : Limits) (t : Tables) (buffer : List ℕ) where
  -- 41, then 40, then 42
  unfoldable pub writes : Writing
  writes = cond (full_size L t) (cond (sound L t) (text_meant (write_answer buffer (text_in L t))) (write_refused 40)) (write_refused 41)

  -- "leaves bytes past the text unchanged", "the text buffer too at 40, 41 and 42"
  unfoldable pub buffer_left : List ℕ
  buffer_left = cond (full_size L t && sound L t) (buffer_after buffer (text_in L t)) buffer

-- what the contract of the writer says: on the tables t and the buffer `before` it replied r and left `after`
pub record PlanWritten (L : Limits) (t : Tables) (before after : List ℕ) (r : Writing) : Type 0 where
  pub replied : r ≡ writes L t before
  pub left : after ≡ buffer_left L t before
