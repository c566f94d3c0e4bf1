-- After a reading that was taken the tables hold the text's own plan, so what is found after calls is by the log of that plan, and so are cost, rounds and best order. Assumes nothing.
use mathlib.Core.Path.{◌≡◌, sym, ap, ◌∙◌}
use mathlib.Core.Bool.{Bool, cond}
use mathlib.Core.List.{List}
use Prim.Native.Nat.{ℕ, ◌≤◌, ◌<◌}
use native.Mathlib.Omega.{arith}
use lib.ListN.{length}
use borrow.Author.Tests.{le-leb}
use Rattle.tables.specs.Limits.{Limits}
use Rattle.tables.specs.Tables.{Tables}
use Rattle.precedence.specs.Graph.{cost, makespan}
use Rattle.precedence.proofs.Agreement.{GraphsAgree, cost_agree, makespan_agree}
use Rattle.plan.specs.Field.{FieldPlan, AcceptedPlan, PlansAgree, Status, plan_of, graph, place_of}
use Rattle.plan.specs.Status.{status_in}
use Rattle.plan.proofs.PlansAgree.{agree_accepted}
use Rattle.sound.proofs.Clauses.{sound-says}
use Rattle.call_log.specs.CallLog.{Call, Entry, status_by, log_of}
use Rattle.call_log.specs.Calls.{AsRead, step, tables_after, costs, cost_reply, rounds, rounds_reply}
use Rattle.call_log.specs.Demand.{Agree, Shows, Found}
use Rattle.call_log.specs.BestOrder.{budget_in, turns_of, BestAnswer, best_refused, best_unlisted, best_by, best_order}
use Rattle.call_log.proofs.SoundParts.{accepted_plan, dependencies_in}
use Rattle.call_log.proofs.SameStatus.{graphs_agree, graph_in, legs_same, counts_same}
use Rattle.call_log.proofs.Steps.{cost_0}
use Rattle.call_log.proofs.PlanAgreement.{found-agrees}
use Rattle.call_log.proofs.Whole.{demand3, demand3_of_contracts, stays_sound, stays_full, stays_same}
use Rattle.reading.specs.Replies.{ReadingReply, taken as Taken}
use Rattle.reading.specs.Reading.{Site, AnsweredAs, read_plan}
use Rattle.accepted.specs.TextPlan.{text_plan}
use Rattle.accepted.specs.Claims.{Demand3OfTexts}
use Rattle.accepted.proofs.ReadSound.{read_is_sound, tables_hold_plan}
use Rattle.accepted.proofs.SameOrder.{searched, turns_few, best-same}

module _ (L : Limits) (s : Site) (text : List ℕ) (t : Tables) (r : ReadingReply) (t₁ : Tables) (read : AnsweredAs (read_plan L s text t) r t₁) (is_taken_lem : r ≡ Taken) where
  taken : (read_plan L s text t).reply ≡ Taken
  taken = sym read.replied ∙ is_taken_lem

  pub left : AsRead L t₁.plan t₁
  left = rw read.left (read_is_sound L s text t taken)

  pub held : PlansAgree (text_plan L s text) (plan_of t₁.plan)
  held = rw read.left (tables_hold_plan L s text t taken)

  pub text_found : (calls : List Call) (got : List Entry) (t' : Tables) → (AsRead L t₁.plan t₁ → Found (plan_of t₁.plan) calls got t') → Found (text_plan L s text) calls got t'
  text_found calls got t' f = found-agrees (text_plan L s text) (plan_of t₁.plan) held (accepted_plan L t₁.plan left.plan_accepted left.dependencies_own) calls got t' (f left)

pub demand3_of_texts : (L : Limits) → Demand3OfTexts L
demand3_of_texts L s text t r t₁ calls got t' read e ran = text_found L s text t r t₁ read e calls got t' (λ left. demand3_of_contracts L t₁.plan t₁ calls got t' left ran)

-- ---- cost, rounds and best order after calls, by the log of any plan that agrees with the one held

module _ (L : Limits) (t : Tables) (read : AsRead L t.plan t) (F : FieldPlan) (agree : PlansAgree F (plan_of t.plan)) (calls : List Call) where
  abbrev after : Tables
  after = tables_after (step L) t calls

  abbrev G : FieldPlan
  G = plan_of after.plan

  -- the status by the log, and the one in the tables
  abbrev logged : Status
  logged = status_by (log_of F calls)

  abbrev stored : Status
  stored = status_in after

  plan_held : AcceptedPlan (plan_of t.plan)
  plan_held = accepted_plan L t.plan read.plan_accepted read.dependencies_own

  own : AcceptedPlan F
  own = agree_accepted F (plan_of t.plan) agree plan_held

  plans : PlansAgree F G
  plans = rw (stays_same L t.plan t read calls).plan_same agree

  shown : Shows F (log_of F calls) after
  shown = (found-agrees F (plan_of t.plan) agree plan_held calls _ after (demand3 L t.plan t calls read)).shown

  graphs : GraphsAgree (graph F logged) (graph G stored)
  graphs = graphs_agree F G plans own logged stored (λ d l. sym (shown.marks d l)) (λ w l. sym (shown.turns w l))

  places : (d : ℕ) → d < F.drones → place_of F logged d ≡ place_of G stored d
  places d l = sym (counts_same F stored logged shown d l) ∙ ap (λ (n : ℕ). cond (stored.withdrawn d) n (stored.place d)) (plans.lasts_agree d l)

  pub log_cost : cost_reply L after ≡ costs (cost (graph F logged) F.leg (place_of F logged))
  log_cost = cost_0 L after (stays_full L t.plan t read calls) (stays_sound L t.plan t read calls)
      ∙ ap costs (sym (cost_agree (graph F logged) (graph G stored) graphs (graph_in F own logged) F.leg G.leg (legs_same F G plans logged) (place_of F logged) (place_of G stored) places))

  pub log_rounds : rounds_reply L after ≡ rounds (makespan (graph F logged) F.leg (place_of F logged))
  unfolding rounds_reply
  log_rounds = rw (stays_full L t.plan t read calls, stays_sound L t.plan t read calls)
      (ap rounds (sym (makespan_agree (graph F logged) (graph G stored) graphs (graph_in F own logged) F.leg G.leg (legs_same F G plans logged) (place_of F logged) (place_of G stored) places)))

  -- the same agreement, the log's status first
  shows_back : Agree F logged stored
  shows_back = record {
    marks = λ d l. sym (shown.marks d l);
    places = λ d l x. sym (shown.places d l (sym (shown.marks d l) ∙ x));
    under_ways = λ d l x. sym (shown.under_ways d l (sym (shown.marks d l) ∙ x));
    turns = λ w l. sym (shown.turns w l);
  }

  pub log_best : (list : List ℕ) (budget : ℕ) → L.dependencies ≤ length list → best_order L after list budget ≡ cond (budget_in budget) (best_by L F logged list (searched F logged budget)) (best_unlisted (best_refused 38) list)
  unfolding best_order
  log_best list budget room = rw (stays_full L t.plan t read calls, le-leb L.dependencies (length list) room, stays_sound L t.plan t read calls)
      (ap (λ (z : BestAnswer). cond (budget_in budget) z (best_unlisted (best_refused 38) list)) (sym (best-same F G plans own logged stored shows_back L list budget)))

  -- no list of turns is longer than the dependency table
  pub log_turns : (xs : List Bool) → length (turns_of F logged xs) ≤ L.dependencies
  log_turns xs =
      let k = sound-says L after (stays_sound L t.plan t read calls) in
      omega (arith, turns_few F logged xs, plans.counts_agree, dependencies_in L after.plan k.accepted k.dependencies_own)
