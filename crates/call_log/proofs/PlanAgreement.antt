-- Plans that agree have the same log of every list of calls, and the same is found after it: demand 3 speaks of a plan, whatever its functions say of numbers that name no drone, stop or
-- dependency. Assumes nothing.
use mathlib.Core.Path.{◌≡◌, refl, sym, ap, ◌∙◌}
use mathlib.Core.List.{List, [], ◌∷◌, ◌++◌}
use mathlib.Core.Bool.{cond}
use Prim.Native.Nat.{ℕ}
use native.Mathlib.Omega.{arith}
use Rattle.tables.specs.Tables.{Tables}
use Rattle.precedence.specs.Graph.{cost}
use Rattle.precedence.proofs.Agreement.{cost_agree}
use Rattle.plan.specs.Field.{FieldPlan, graph, place_of, AcceptedPlan, PlansAgree}
use Rattle.plan.proofs.PlansAgree.{agree_accepted}
use Rattle.call_log.specs.CallLog.{Call, Reply, Entry, entry_of, status_by, reply_by, log_from, log_of}
use Rattle.call_log.specs.Demand.{Found}
use Rattle.call_log.proofs.Log.{GoodLog, good_empty, good_calls}
use Rattle.call_log.proofs.Found.{log_held, log_goes_on, log_finishes}
use Rattle.call_log.proofs.SameStatus.{same_self, graphs_agree, legs_same, graph_in, reply_agrees}

-- ---- the log

module _ (F G : FieldPlan) (plans : PlansAgree F G) (accepted : AcceptedPlan F) where
  pub reply_by-agrees : (log : List Entry) (c : Call) → reply_by F log c ≡ reply_by G log c
  reply_by-agrees log c = reply_agrees F G plans accepted (status_by log) (status_by log) (same_self F (status_by log)) c

  pub log_agrees : (cs : List Call) (log : List Entry) → log_from F log cs ≡ log_from G log cs
  unfolding log_from
  log_agrees [] log = refl
  log_agrees (c ∷ cs) log = log_agrees cs (log ++ (entry_of c (reply_by F log c) ∷ [])) ∙ ap (λ (r : Reply). log_from G (log ++ (entry_of c r ∷ [])) cs) (reply_by-agrees log c)

  -- the cost by a log
  pub cost_by_agrees : (log : List Entry) → cost (graph F (status_by log)) F.leg (place_of F (status_by log)) ≡ cost (graph G (status_by log)) G.leg (place_of G (status_by log))
  cost_by_agrees log =
      let s = status_by log in
      cost_agree (graph F s) (graph G s) (graphs_agree F G plans accepted s s (λ d l. refl) (λ w l. refl)) (graph_in F accepted s) F.leg G.leg (legs_same F G plans s) (place_of F s) (place_of G s) (λ d l. ap (λ (n : ℕ). cond (s.withdrawn d) n (s.place d)) (plans.lasts_agree d l))

-- ---- what is found

pub found-agrees : (F G : FieldPlan) → PlansAgree F G → AcceptedPlan G → (calls : List Call) (got : List Entry) (t' : Tables) → Found G calls got t' → Found F calls got t'
found-agrees F G plans a calls got t' f = record {
  replies = f.replies ∙ sym same;
  shown = record {
    marks = λ d l. f.shown.marks d (omega (arith, plans.drones_agree)) ∙ ap (λ (log : List Entry). (status_by log).withdrawn d) (sym same);
    places = λ d l x. f.shown.places d (omega (arith, plans.drones_agree)) (ap (λ (log : List Entry). (status_by log).withdrawn d) (sym same) ∙ x) ∙ ap (λ (log : List Entry). (status_by log).place d) (sym same);
    under_ways = λ d l x. f.shown.under_ways d (omega (arith, plans.drones_agree)) (ap (λ (log : List Entry). (status_by log).withdrawn d) (sym same) ∙ x) ∙ ap (λ (log : List Entry). (status_by log).under_way d) (sym same);
    turns = λ w l. f.shown.turns w (omega (arith, plans.counts_agree)) ∙ ap (λ (log : List Entry). (status_by log).turned w) (sym same);
  };
  held = log_held F plan (log_of F calls) good;
  goes_on = log_goes_on F plan (log_of F calls) good;
  finishes = log_finishes F plan (log_of F calls) good;
}
  where
    plan : AcceptedPlan F
    plan = agree_accepted F G plans a

    same : log_of F calls ≡ log_of G calls
    same = log_agrees F G plans plan calls []

    good : GoodLog F (log_of F calls)
    good = good_calls F plan calls [] (good_empty F plan)
