-- Reading the lines of a plan text into lent tables: the answer, and the tables afterwards. Assumes nothing.
use Rattle.std.specs.Prelude.{ℕ, ◌≡◌, List, [], ◌∷◌, Err, Ok, Result}
use Rattle.std.proofs.lemmas.List.Edits.{sets}
use Rattle.tables.specs.Limits.{Limits}
use Rattle.text.specs.LinesRead.{lines_at, flat}
use Rattle.lines.specs.declared.refusal.Refusal.{Refusal}

-- the number of drones stands alone in its table; a refused text gives none
abbrev pub drone_count : Result ℕ Refusal → List ℕ
drone_count (Ok n) = n ∷ []
drone_count (Err r) = []

-- so does the plan's form
abbrev pub plan_form : ℕ → Result ℕ Refusal → List ℕ
plan_form form (Ok n) = form ∷ []
plan_form form (Err r) = []

-- each table has the values of the lines that were read, from its first entry on: of a refused text those before the fault
pub record TextRead (L : Limits) (text dc fm ns cs ls ts gs dc' fm' ns' cs' ls' ts' gs' : List ℕ) (r : Result ℕ Refusal) : Type 0 where
  pub answer_is : r ≡ (lines_at L text).answer
  pub count_is : dc' ≡ sets dc 0 (drone_count r)
  pub form_is : fm' ≡ sets fm 0 (plan_form (lines_at L text).form r)
  pub names_are : ns' ≡ sets ns 0 (flat (lines_at L text).rows)
  pub counts_are : cs' ≡ sets cs 0 (lines_at L text).counts
  pub locations_are : ls' ≡ sets ls 0 (lines_at L text).locations
  pub times_are : ts' ≡ sets ts 0 (lines_at L text).times
  pub legs_are : gs' ≡ sets gs 0 (lines_at L text).legs
