-- The run of a plan on tables of its own: they are zero, and it is taken or not. Assumes nothing.
use Prim.Native.Nat.{ℕ, zero, suc, ◌*◌}
use native.Mathlib.Omega.{arith}
use mathlib.Core.Path.{◌≡◌, refl, sym, ap, ◌∙◌}
use mathlib.Core.List.{List, ◌∷◌, map}
use lib.ListN.{replicate, length-replicate}
use lib.Seq.{take_all}
use Rattle.tables.specs.Limits.{Limits, most_pairs}
use Rattle.tables.specs.Tables.{Tables}
use Rattle.tables.specs.Entries.{zero_dependency}
use Rattle.tables.specs.declared.entries.Dependency.{Dependency}
use Rattle.records.specs.Records.{seen, tables_of_records}
use Rattle.below.proofs.Tests.{true_or_false}
use Rattle.reading.specs.Replies.{ReadingReply as Read, taken as Taken, reading_number, is_taken, refusal_meant}
use Rattle.reading.specs.declared.replies.Refusal.{Refusal}
use Rattle.reading.proofs.ReplyLaws.{taken_by_0, refusal_not_taken}
use Rattle.reading.specs.Reading.{AnsweredAs, read_plan, without}
use Rattle.transcript.specs.Input.{Request}
use Rattle.transcript.specs.Run.{Made}
use Rattle.transcript.specs.declared.replies.Answer.{Answer}
use Rattle.dispatch.specs.Making.{calls_of, got_by, answer_number, answer_detail, RequestsMade}
use Rattle.dispatch.specs.Transcribing.{zero_tables, PlanRun}
use Rattle.accepted.proofs.TextFound.{text_found}

-- ---- the tables at the start

column : (f : Dependency → ℕ) (n : ℕ) (d : Dependency) → map f (replicate n d) ≡ replicate n (f d)
column f zero d = refl
column f (suc n) d = ap (λ (l : List ℕ). f d ∷ l) (column f n d)

module _ (L : Limits) where
  all_seen : (d : Dependency) → seen L (replicate L.dependencies d) ≡ replicate L.dependencies d
  unfolding seen
  all_seen d = take_all L.dependencies (replicate L.dependencies d) (omega (arith, length-replicate L.dependencies d))

  seen-column : (f : Dependency → ℕ) → map f (seen L (replicate L.dependencies zero_dependency)) ≡ replicate L.dependencies (f zero_dependency)
  seen-column f = ap (map f) (all_seen zero_dependency) ∙ column f L.dependencies zero_dependency

  pub zero_tables_lem : (d : Dependency) → d ≡ zero_dependency
      → tables_of_records L (replicate 1 0) (replicate 1 0) (replicate 1 0) (replicate (L.drones * L.name) 0) (replicate L.drones 0) (replicate L.stops 0) (replicate L.stops 0) (replicate L.stops 0) (replicate L.drones 0) (replicate L.drones 0) (replicate L.dependencies d) (replicate (2 * most_pairs) 0) ≡ zero_tables L
  unfolding zero_tables
  zero_tables_lem d e =
      rw (
        e,
        seen-column (λ (x : Dependency). x.first_drone),
        seen-column (λ (x : Dependency). x.first_stop),
        seen-column (λ (x : Dependency). x.second_drone),
        seen-column (λ (x : Dependency). x.second_stop),
        seen-column (λ (x : Dependency). x.flags),
      )
      refl

-- ---- taken or not

module _ (L : Limits) (text : List ℕ) (qs : List Request) (answers : List Answer) (t : Tables) (fresh : t ≡ zero_tables L) (r : Read) (t' : Tables) (read : AnsweredAs (read_plan L without text t) r t') where
  same_reply_lem : r ≡ (read_plan L without text (zero_tables L)).reply
  same_reply_lem = read.replied ∙ ap (λ (x : Tables). (read_plan L without text x).reply) fresh

  pub run_refused : (r ≡ Taken → ⊥) → PlanRun L text qs answers r answers
  run_refused h = record { replied = same_reply_lem; taken = λ e. absurd (h e); refused = λ k. refl }

  pub run_taken : r ≡ Taken → (t'' : Tables) (answers' : List Answer) → RequestsMade L qs t' answers t'' answers' → PlanRun L text qs answers r answers'
  run_taken e t'' answers' m = record {
    replied = same_reply_lem;
    taken = λ q. record {
      tables_left = t'';
      made = rw (read.left ∙ ap (λ (x : Tables). (read_plan L without text x).tables) fresh) at m.made;
      found = text_found L without text t r t' read q (calls_of qs) (got_by qs (answer_number answers') (answer_detail answers')) t'' (m.found t'.plan);
    };
    refused = λ k. absurd (k e);
  }

-- a refusal is not taken
pub not_taken : (e : Refusal) → refusal_meant e ≡ Taken → ⊥
not_taken e h = true_or_false (ap is_taken h) (refusal_not_taken e)

-- what a run says of its reading
module _ (L : Limits) (text : List ℕ) (qs : List Request) (answers : List Answer) (r : Read) (answers' : List Answer) (ran : PlanRun L text qs answers r answers') where
  pub run_read : AnsweredAs (read_plan L without text (zero_tables L)) r (read_plan L without text (zero_tables L)).tables
  run_read = record { replied = ran.replied; left = refl }

  pub run_made : (n : ℕ) → n ≡ reading_number r → n ≡ 0 → (t' : Tables) × Made L qs (read_plan L without text (zero_tables L)).tables answers t' answers'
  run_made n is-n z = let run = ran.taken (ran.replied ∙ taken_by_0 L without text (zero_tables L) (sym (ap reading_number ran.replied) ∙ sym is-n ∙ z)) in (run.tables_left, run.made)
