-- After a reading that was taken what is answered is by the log of the text's own plan. Assumes nothing.
use mathlib.Core.Path.{◌≡◌}
use mathlib.Core.List.{List, []}
use Prim.Native.Nat.{ℕ}
use Rattle.tables.specs.Limits.{Limits}
use Rattle.tables.specs.Tables.{Tables}
use Rattle.reading.specs.Replies.{ReadingReply, taken as Taken}
use Rattle.reading.specs.Reading.{AnsweredAs, read_plan, Site}
use Rattle.accepted.specs.TextPlan.{text_plan}
use Rattle.accepted.proofs.TextFound.{left, held}
use Rattle.transcript.specs.Input.{Request}
use Rattle.transcript.specs.Output.{answers_by}
use Rattle.transcript.specs.Run.{answers_on}
use Rattle.transcript.proofs.RunLaws.{plan_answers}

pub text_answers : (L : Limits) (s : Site) (text : List ℕ) (t : Tables) (r : ReadingReply) (t₁ : Tables) → AnsweredAs (read_plan L s text t) r t₁ → r ≡ Taken → (qs : List Request) → answers_on L t₁ qs ≡ answers_by (text_plan L s text) [] qs
text_answers L s text t r t₁ read e = plan_answers L t₁.plan t₁ (left L s text t r t₁ read e) (text_plan L s text) (held L s text t r t₁ read e)
