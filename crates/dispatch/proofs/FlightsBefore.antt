-- What was said after a reading is said at raised limits too: replies and costs are those of the log of the one plan. Assumes nothing.
use mathlib.Core.Path.{◌≡◌, refl, sym, ap, ◌∙◌}
use mathlib.Core.Bool.{Bool, true, ◌&&◌}
use mathlib.Core.List.{List, [], ◌∷◌, ◌++◌}
use Prim.Native.Nat.{ℕ}
use Prim.Native.String.{String}
use native.Mathlib.Omega.{arith}
use lib.Dec.{eqb}
use Rattle.tables.specs.Limits.{Limits, limits, older_limits, Raised}
use Rattle.tables.specs.Tables.{Tables}
use Rattle.tables.specs.Zero.{filled}
use Rattle.lines.specs.Numbers.{SevenDigits}
use Rattle.lines.proofs.NumberRoundTrip.{limits_seven}
use Rattle.text.specs.Examples.{bytes}
use Rattle.precedence.specs.Graph.{cost}
use Rattle.plan.specs.Field.{FieldPlan, AcceptedPlan, PlansAgree, plan_of, graph, place_of}
use Rattle.plan.proofs.PlansAgree.{agree_accepted}
use Rattle.call_log.specs.CallLog.{Call, Entry, entry_of, status_by, reply_by, log_from, log_of}
use Rattle.call_log.specs.Calls.{step, AsRead, tables_after, costs, cost_reply}
use Rattle.call_log.specs.Flights.{Line, says, costs_now, previews, previews_all, same_reply, is_cost, follow}
use Rattle.call_log.proofs.Meaning.{log_joins}
use Rattle.call_log.proofs.PlanAgreement.{reply_by-agrees, log_agrees}
use Rattle.reading.specs.Replies.{taken as Taken}
use Rattle.reading.specs.Reading.{read_plan, without}
use Rattle.accepted.specs.TextPlan.{text_plan}
use Rattle.accepted.proofs.TextFound.{left, held, log_cost}
use Rattle.accepted.proofs.Older.{reads_before, limits_are_raised}
use Rattle.transcript.specs.Output.{answers_by}
use Rattle.transcript.proofs.RunLaws.{plan, after_more, same_reply_lem}
use Rattle.dispatch.specs.Flights.{Outcome, taken, collides, TextFlight, HasOutcome, AllHave}
use Rattle.dispatch.specs.Transcribing.{AnswersAsBefore}
use Rattle.dispatch.proofs.TextLaws.{text_answers}
use Rattle.dispatch.proofs.ProgramLaws.{filled-full}

-- ---- every request

pub answers_before : (L L' : Limits) → Raised L L' → SevenDigits L' → AnswersAsBefore L L'
answers_before L L' R u s text t t' full' h qs =
    let b = reads_before L L' R u s text t t' full' h in
    text_answers L' s text t' Taken _ (record { replied = sym b.is_taken_lem; left = refl }) refl qs
    ∙ ap (λ (F : FieldPlan). answers_by F [] qs) b.one_plan
    ∙ sym (text_answers L s text t Taken _ (record { replied = sym h; left = refl }) refl qs)

pub limits_answers_before : AnswersAsBefore older_limits limits
limits_answers_before = answers_before older_limits limits limits_are_raised limits_seven

-- ---- the lines of a flight

-- lines that the log answers
abbrev pub ByLog : List Line → Type 0
ByLog [] = Unit {0}
ByLog (says c r ∷ ls) = ByLog ls
ByLog (costs_now n ∷ ls) = ByLog ls
ByLog (previews w r ∷ ls) = ⊥
ByLog (previews_all ws r ∷ ls) = ⊥

-- they hold of the log
unfoldable follow_by : FieldPlan → List Entry → List Line → Bool
follow_by F log [] = true
follow_by F log (says c r ∷ ls) = let by_log = reply_by F log c in same_reply by_log r && (same_reply by_log r && follow_by F (log ++ (entry_of c by_log ∷ [])) ls)
follow_by F log (costs_now n ∷ ls) = let now = cost (graph F (status_by log)) F.leg (place_of F (status_by log)) in is_cost (costs now) n && (eqb now n && follow_by F log ls)
follow_by F log (previews w r ∷ ls) = true
follow_by F log (previews_all ws r ∷ ls) = true

module _ (L : Limits) (t : Tables) (read : AsRead L t.plan t) (F : FieldPlan) (agree : PlansAgree F (plan_of t.plan)) where
  abbrev G : FieldPlan
  G = plan_of t.plan

  abbrev done : List Call → Tables
  done cs = tables_after (step L) t cs

  own : AcceptedPlan F
  own = agree_accepted F G agree (plan L t.plan t read)

  same_log : (cs : List Call) → log_of G cs ≡ log_of F cs
  same_log cs = sym (log_agrees F G agree own cs [])

  log_more : (cs : List Call) (c : Call) → log_of F (cs ++ (c ∷ [])) ≡ log_of F cs ++ (entry_of c (reply_by F (log_of F cs) c) ∷ [])
  unfolding log_from
  log_more cs c = log_joins F cs (c ∷ []) []

  reply_is : (cs : List Call) (c : Call) → (step L (done cs) c).reply ≡ reply_by F (log_of F cs) c
  reply_is cs c = same_reply_lem L t.plan t read cs c ∙ ap (λ (l : List Entry). reply_by G l c) (same_log cs) ∙ sym (reply_by-agrees F G agree own (log_of F cs) c)

  cost_is : (cs : List Call) → cost_reply L (done cs) ≡ costs (cost (graph F (status_by (log_of F cs))) F.leg (place_of F (status_by (log_of F cs))))
  cost_is = log_cost L t read F agree

  follow_from : (ls : List Line) (cs : List Call) → ByLog ls → follow L F (done cs) (log_of F cs) ls ≡ follow_by F (log_of F cs) ls
  unfolding follow follow_by
  follow_from [] cs p = refl
  follow_from (says c r ∷ ls) cs p = rw (reply_is cs c, after_more L t.plan t read cs c, ← log_more cs c, follow_from ls (cs ++ (c ∷ [])) p)
  follow_from (costs_now n ∷ ls) cs p = rw (cost_is cs, follow_from ls cs p)
  follow_from (previews w r ∷ ls) cs p = absurd p
  follow_from (previews_all ws r ∷ ls) cs p = absurd p

  follow_is : (ls : List Line) → ByLog ls → follow L F t [] ls ≡ follow_by F [] ls
  unfolding log_from tables_after
  follow_is ls p = follow_from ls [] p

-- after a reading, by the text's own plan
follow_text : (L : Limits) (text : List ℕ) (t : Tables) → (read_plan L without text t).reply ≡ Taken → (ls : List Line) → ByLog ls → follow L (text_plan L without text) (read_plan L without text t).tables [] ls ≡ follow_by (text_plan L without text) [] ls
follow_text L text t h ls p =
    let t₁ : Tables = (read_plan L without text t).tables in
    follow_is L t₁ (left L without text t Taken t₁ (record { replied = sym h; left = refl }) refl) (text_plan L without text) (held L without text t Taken t₁ (record { replied = sym h; left = refl }) refl) ls p

module _ (L L' : Limits) (R : Raised L L') (u : SevenDigits L') where
  -- a flight that is taken
  taken-before : (s : String) (n : ℕ) (ls : List Line) → ByLog ls → HasOutcome L s (read_plan L without (bytes s) (filled 7 L)) (taken n ls) → HasOutcome L' s (read_plan L' without (bytes s) (filled 7 L')) (taken n ls)
  taken-before s n ls p (h, m, f) =
      let b = reads_before L L' R u without (bytes s) (filled 7 L) (filled 7 L') (filled-full 7 L') h in (
        b.is_taken_lem,
        b.tables_extend.dependency_count 0 (omega arith) ∙ m,
        follow_text L' (bytes s) (filled 7 L') b.is_taken_lem ls p ∙ ap (λ (F : FieldPlan). follow_by F [] ls) b.one_plan ∙ sym (follow_text L (bytes s) (filled 7 L) h ls p) ∙ f,
      )

  -- what is asked of each flight: a refused one is read anew
  abbrev pub Asked : String → Outcome → Type 0
  Asked s (taken n ls) = ByLog ls
  Asked s (collides d i e k) = HasOutcome L' s (read_plan L' without (bytes s) (filled 7 L')) (collides d i e k)

  abbrev pub AllAsked : List TextFlight → Type 0
  AllAsked [] = Unit {0}
  AllAsked (f ∷ fs) = Asked f.text f.outcome × AllAsked fs

  flight_before : (s : String) (o : Outcome) → Asked s o → HasOutcome L s (read_plan L without (bytes s) (filled 7 L)) o → HasOutcome L' s (read_plan L' without (bytes s) (filled 7 L')) o
  flight_before s (taken n ls) p x = taken-before s n ls p x
  flight_before s (collides d i e k) p x = p

  pub flights-before : (fs : List TextFlight) → AllAsked fs → AllHave L fs → AllHave L' fs
  flights-before [] p x = tt
  flights-before (f ∷ fs) (p, ps) (x, xs) = (flight_before f.text f.outcome p x, flights-before fs ps xs)
